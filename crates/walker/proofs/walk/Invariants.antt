-- The walker holds the file, and stands where so many steps lead. Assumes nothing.
use mathlib.Core.Path.{◌≡◌}
use Rattle.walker.specs.Walk.{place_of}
use Rattle.walker.proofs.walk.Given as goal

abbrev pub invariant-loop : goal.invariant-loop
invariant-loop l = record { same_file : l.w.file.now ≡ l.file; stands : l.w.at ≡ place_of l.c l.file l.counter }

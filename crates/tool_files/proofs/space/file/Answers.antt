use Rattle.std.proofs.Common.{◌≡◌, ℕ, sym}
use Rattle.std.proofs.lemmas.List.{length-replicate}
use Rattle.tool_files.proofs.space.file.Goals as goal

pub returns : goal.returns
returns c = sym (length-replicate {A = ℕ} 4194304 0)

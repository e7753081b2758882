use Rattle.std.proofs.Common.{◌≡◌, ℕ, sym}
use Rattle.std.proofs.lemmas.List.{length-replicate}
use Rattle.list.proofs.file_room.Goals as goal

pub returns : goal.returns
returns c = sym (length-replicate {A = ℕ} 65537 0)

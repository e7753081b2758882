-- What a `?` that hands an error on returns, once what it makes of the error is known. Assumes nothing.
use Rattle.std.proofs.Common.{◌≡◌, Result, Err, ap, ◌∙◌}
use Rattle.std.specs.Result.{IsErrAnd}
use Rattle.std.proofs.lemmas.Result.{err_from_is_err_and}

pub passed_on : {T E : Type 0} {x : E} (r : Result T E) → IsErrAnd r (λ y. y ≡ x) → r ≡ Err x
passed_on r h = let p = err_from_is_err_and r h in p.1 ∙ ap Err p.2

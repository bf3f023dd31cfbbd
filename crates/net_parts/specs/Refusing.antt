-- A call that refuses, where its refusal is handed on. No contract reads a proof of this; answers cite it.
use Rattle.std.proofs.Common.{◌≡◌}
use Rattle.std.specs.Prelude.{Result, Ok, Err}
use Rattle.std.specs.Result.{IsErrAnd}

-- what was handed on is what the call refused with
pub handed_on : {S T E : Type 0} (r : Result S E) (out : Result T E) (x f : E) → r ≡ Err x → IsErrAnd out (λ y. y ≡ x)
    → out ≡ Err f → r ≡ Err f
handed_on r (Ok y) x f e h i = absurd h
handed_on r (Err y) x f e h i = cc

-- What operations leave, one after another.
use Rattle.std.proofs.Common.{◌≡◌, ◌<◌, ℕ, suc, List, [], ◌∷◌, ◌++◌, length, drop, flat_map, get_or, refl, sym, ap, ◌∙◌, drop-cons}
use Rattle.memory_runs.specs.Operations.{Operation, memory_after, written}
use Rattle.memory_runs.specs.Operations.Operation.{Write, Read}

pub memory_append : (contents : ℕ → ℕ) (before more : List Operation) → memory_after contents (before ++ more) ≡ memory_after (memory_after contents before) more
memory_append contents [] more = refl
memory_append contents (Write offset byte ∷ later) more = memory_append (written contents offset byte) later more
memory_append contents (Read offset ∷ later) more = memory_append contents later more

-- one item of a list more
pub one_more : {X : Type 0} (operations : X → List Operation) (contents behind : ℕ → ℕ) (items : List X) (index : ℕ) (item : X) → index < length items → item ≡ get_or items index item →
    behind ≡ memory_after contents (operations item) → memory_after behind (flat_map operations (drop (suc index) items)) ≡ memory_after contents (flat_map operations (drop index items))
one_more operations contents behind items index item inside is left =
    ap (λ f. memory_after f (flat_map operations (drop (suc index) items))) left
    ∙ sym (memory_append contents (operations item) (flat_map operations (drop (suc index) items)))
    ∙ ap (λ x. memory_after contents (operations x ++ flat_map operations (drop (suc index) items))) is
    ∙ ap (λ all. memory_after contents (flat_map operations all)) (sym (drop-cons items index item inside))

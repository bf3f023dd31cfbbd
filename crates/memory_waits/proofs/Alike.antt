-- Hosts that are alike to an agent.
use Rattle.std.proofs.Common.{◌≡◌, ℕ, ◌||◌, Bool, true, false, List, [], ◌∷◌, nat_eq, arith, tests, refl, subst, sym, IsTrue}
use Rattle.std.proofs.lemmas.Bool.{and_parts}
use Rattle.std.specs.List.{list_all, list_any}
use Rattle.memory_waits.proofs.Bits.{no_true}

-- what all members have one has
pub one_of : (has : ℕ → Bool) (xs : List ℕ) (h : ℕ) → IsTrue (list_all has xs) → IsTrue (list_any (nat_eq h) xs) → IsTrue (has h)
one_of has [] h all some = absurd (no_true some)
one_of has (x ∷ xs) h all some = by_first (nat_eq h x) refl some (one_of has xs h (and_parts (has x) _ all).1)
  where
    by_first : (b : Bool) → nat_eq h x ≡ b → IsTrue (b || list_any (nat_eq h) xs) → (IsTrue (list_any (nat_eq h) xs) → IsTrue (has h)) → IsTrue (has h)
    by_first true e any more = let same : h ≡ x = grind (arith, tests, e) in subst (λ y. IsTrue (has y)) (sym same) (and_parts (has x) _ all).0
    by_first false e any more = more any

-- A test that computes whether symbols follow others, with what holds where it gives true.
use Rattle.std.proofs.Common.{◌≡◌, ℕ, ◌+◌, Bool, true, false, not, ◌&&◌, ◌==◌, List, [], ◌∷◌, ◌++◌, map, length, refl, ap, ◌∙◌, sym, nat_le}
use Rattle.std.proofs.lemmas.Bool.{and_parts, eqb-true, leb-true}
use Rattle.histories.specs.History.{IsPrefix}
use Rattle.stream_runs.specs.Symbols.{Symbol}
use Rattle.routed_runs.specs.Routes.{data_and_marks, FollowWithin}

abbrev pub same_bool : Bool → Bool → Bool
same_bool true b = b
same_bool false b = not b

same_bool_true : (a b : Bool) → same_bool a b ≡ true → a ≡ b
same_bool_true true b e = sym e
same_bool_true false true e = absurd (cc)
same_bool_true false false e = refl

-- the same data and marks
abbrev pub same_symbol : Symbol → Symbol → Bool
same_symbol x y = (x.value == y.value) && (same_bool x.first y.first && same_bool x.last y.last)

same_symbol_true : (x y : Symbol) → same_symbol x y ≡ true → data_and_marks x ≡ data_and_marks y
same_symbol_true x y e =
    let p1 = and_parts _ _ e in
    let p2 = and_parts _ _ p1.1 in
    same x.value y.value x.first y.first x.last y.last (eqb-true _ _ p1.0) (same_bool_true _ _ p2.0) (same_bool_true _ _ p2.1)
  where
    same : (v v' : ℕ) (f f' l l' : Bool) → v ≡ v' → f ≡ f' → l ≡ l'
        → ◌≡◌ {A = Symbol} (record { value = v; channel = 0; first = f; last = l; error = 0 }) (record { value = v'; channel = 0; first = f'; last = l'; error = 0 })
    same v v' f f' l l' p q r = rw (p, q, r) refl

abbrev pub begins_with : List Symbol → List Symbol → Bool
begins_with [] ys = true
begins_with (x ∷ xs) [] = false
begins_with (x ∷ xs) (y ∷ ys) = same_symbol x y && begins_with xs ys

begins_with_true : (xs ys : List Symbol) → begins_with xs ys ≡ true → IsPrefix (map data_and_marks xs) (map data_and_marks ys)
begins_with_true [] ys e = record { rest = map data_and_marks ys; joins = refl }
begins_with_true (x ∷ xs) [] e = absurd (cc)
begins_with_true (x ∷ xs) (y ∷ ys) e =
    let both = and_parts (same_symbol x y) (begins_with xs ys) e in
    let others = begins_with_true xs ys both.1 in
    record { rest = others.rest; joins = ap (λ (z : Symbol). z ∷ (map data_and_marks xs ++ others.rest)) (same_symbol_true x y both.0) ∙ ap (λ (zs : List Symbol). data_and_marks y ∷ zs) others.joins }

abbrev pub follow_within : ℕ → List Symbol → List Symbol → Bool
follow_within lag accepted delivered = begins_with delivered accepted && nat_le (length accepted) (length delivered + lag)

pub follow_within_true : (lag : ℕ) (accepted delivered : List Symbol) → follow_within lag accepted delivered ≡ true → FollowWithin lag accepted delivered
follow_within_true lag accepted delivered e =
    let both = and_parts (begins_with delivered accepted) (nat_le (length accepted) (length delivered + lag)) e in
    record { in_order = begins_with_true delivered accepted both.0; few = leb-true _ _ both.1 }

-- Two links in a row hold at most what both hold.
use Rattle.std.proofs.Common.{ℕ, zero, suc, ◌≤◌, ◌≡◌, ◌+◌, ◌-◌, [], ◌∷◌, ◌++◌, List, arith, refl, sym, subst, take, nat_lt, if◌then◌else◌, tests}
use Rattle.histories.specs.History.{unreached, total, AreWithin}
use Rattle.histories.specs.Laws.{unreached_falls}
use Rattle.histories.specs.History.AreWithin.{all_placed, placed, next_room}

-- one step, on numbers: `a` to `f` are what is left unreached behind the first group
one_step : (n u d t a b e : ℕ) → d ≤ u →
    (if nat_lt (n - d) (u - d) then 1 else 0) + a ≤ ((if nat_lt t (u - d) then 1 else 0) + b) + e →
    (if nat_lt n u then 1 else 0) + a ≤ ((if nat_lt (d + t) u then 1 else 0) + b) + ((if nat_lt n d then 1 else 0) + e)
one_step n u d t a b e h ih = grind (arith, tests)

pub unreached_through : (lower upper : List ℕ) (n k : ℕ) → AreWithin lower upper →
    unreached (take k upper) n ≤ unreached (take k upper) (total lower) + unreached lower n
unreached_through lower upper n k all_placed = let falls = unreached_falls (take k upper) 0 n (omega arith) in omega (arith, falls)
unreached_through lower upper n zero (placed fits within) = omega arith
unreached_through lower upper n (suc k) (placed {size} {room} {lower = rest} {upper = others} fits within) =
    let ih = unreached_through rest ((room - size) ∷ others) (n - size) (suc k) within in
    let left : (n - size) - (room - size) ≡ n - room = omega arith in
    let right : total rest - (room - size) ≡ (size + total rest) - room = omega arith in
    one_step n room size (total rest) (unreached (take k others) (n - room)) (unreached (take k others) ((size + total rest) - room)) (unreached rest (n - size)) fits
    (subst (λ x. (if nat_lt (n - size) (room - size) then 1 else 0) + unreached (take k others) x ≤ ((if nat_lt (total rest) (room - size) then 1 else 0) + unreached (take k others) ((size + total rest) - room)) + unreached rest (n - size)) left
    (subst (λ x. (if nat_lt (n - size) (room - size) then 1 else 0) + unreached (take k others) ((n - size) - (room - size)) ≤ ((if nat_lt (total rest) (room - size) then 1 else 0) + unreached (take k others) x) + unreached rest (n - size)) right ih))
unreached_through lower upper n zero (next_room within) = omega arith
unreached_through lower upper n (suc k) (next_room {upper = others} within) =
    let ih = unreached_through lower others n k within in
    skip n (total lower) (unreached (take k others)) (unreached lower n) ih
  where
    skip : (n t : ℕ) (f : ℕ → ℕ) (e : ℕ) → f n ≤ f t + e → (if nat_lt n 0 then 1 else 0) + f (n - 0) ≤ ((if nat_lt t 0 then 1 else 0) + f (t - 0)) + e
    skip n t f e h =
        let a : n - 0 ≡ n = omega arith in
        let b : t - 0 ≡ t = omega arith in
        rw (a, b) (grind (arith, tests))

-- a front of the lower groups lies within the upper ones too
pub front_within : (front rest lower upper : List ℕ) → AreWithin lower upper → front ++ rest ≡ lower → AreWithin front upper
front_within [] rest lower upper within e = all_placed
front_within (first ∷ front) rest lower upper all_placed e = let bad : ⊥ = cc in absurd bad
front_within (first ∷ front) rest lower upper (placed {size} {room} {lower = others} {upper = behind} fits within) e =
    let same : first ≡ size = cc in
    let tail : front ++ rest ≡ others = cc in
    subst (λ x. AreWithin (x ∷ front) (room ∷ behind)) (sym same) (placed fits (front_within front rest others _ within tail))
front_within (first ∷ front) rest lower upper (next_room within) e = next_room (front_within (first ∷ front) rest lower _ within e)

-- a group of size 0 takes no room
without_empty : (others sizes upper : List ℕ) → AreWithin sizes upper → sizes ≡ 0 ∷ others → AreWithin others upper
without_empty others sizes upper all_placed e = let bad : ⊥ = cc in absurd bad
without_empty others sizes upper (placed {size} {room} {lower = rest} {upper = behind} fits within) e =
    let none : size ≡ 0 = cc in
    let same : rest ≡ others = cc in
    let all : room - size ≡ room = omega arith in
    subst (λ l. AreWithin l (room ∷ behind)) same (subst (λ x. AreWithin rest (x ∷ behind)) all within)
without_empty others sizes upper (next_room {upper = behind} within) e = next_room (without_empty others sizes behind within e)

-- a first group that fits in a group that is placed is placed there
place_first : (size room : ℕ) (rest others : List ℕ) → size ≤ room →
    ((upper : List ℕ) → AreWithin ((room - size) ∷ others) upper → AreWithin rest upper) →
    (sizes upper : List ℕ) → AreWithin sizes upper → sizes ≡ room ∷ others → AreWithin (size ∷ rest) upper
place_first size room rest others fits go sizes upper all_placed e = let bad : ⊥ = cc in absurd bad
place_first size room rest others fits go sizes upper (placed {size = first} {room = wide} {lower = after} {upper = behind} low within) e =
    let same : first ≡ room = cc in
    let tail : after ≡ others = cc in
    let there : AreWithin others ((wide - room) ∷ behind) = subst (λ l. AreWithin l ((wide - room) ∷ behind)) tail (subst (λ x. AreWithin after ((wide - x) ∷ behind)) same within) in
    let enough : room ≤ wide = omega arith in
    let left : (wide - size) - (room - size) ≡ wide - room = omega arith in
    placed (omega arith) (go ((wide - size) ∷ behind) (placed (omega arith) (rw left there)))
place_first size room rest others fits go sizes upper (next_room {upper = behind} within) e = next_room (place_first size room rest others fits go sizes behind within e)

-- the parts of the parts are parts
pub within_trans : (lower middle upper : List ℕ) → AreWithin lower middle → AreWithin middle upper → AreWithin lower upper
within_trans lower middle upper all_placed h = all_placed
within_trans lower middle upper (next_room {upper = others} within) h = within_trans lower others upper within (without_empty others middle upper h refl)
within_trans lower middle upper (placed {size} {room} {lower = rest} {upper = others} fits within) h =
    place_first size room rest others fits (λ upper there. within_trans rest ((room - size) ∷ others) upper within there) middle upper h refl

-- An exception is passed on from part to part until one part must act.
use Rattle.std.proofs.Common.{◌≡◌, ℕ, zero, suc, ◌+◌, ◌<◌, ◌≤◌, Bool, true, false, not, ◌&&◌, ◌||◌, arith, refl, IsTrue, inl, inr, ◌⊎◌, tests}
use Rattle.histories.specs.Path.{Path, AnswersFlow, stands, works, waits_for_rest, writing, must_act}
use Rattle.std.proofs.lemmas.Bool.{or_right, and_parts}
use Rattle.histories.proofs.ranks.Cases.{by_cases}
use Rattle.histories.specs.RanksLaws.{third_of}

-- the rest of what is left open at a port isn't shown, and if it isn't a write, no word is owed there
pub record Rests (op sh lw w : Bool) : Type 0 where
  pub unclosed : IsTrue op
  pub shown : IsTrue (not sh)
  pub free : IsTrue (lw || not w)

pub rests : (op sh lw w : Bool) → IsTrue (op && not sh && (lw || not w)) → Rests op sh lw w
rests op sh lw w h = record { unclosed = grind (arith, tests); shown = grind (arith, tests); free = grind (arith, tests) }

pub not_below : (sh t w op lw : Bool) → IsTrue (op && not sh && (lw || not w)) → IsTrue ((sh && not t) || (w && not (op && lw))) → ⊥
not_below true t w op lw n h = let r = rests op true lw w n in let bad = r.shown in cc
not_below false t false op lw n h = cc
not_below false t true false lw n h = cc
not_below false t true true true n h = cc
not_below false t true true false n h = cc

-- up from a port at which the rest of a command is waited for. `fuel` ports are left above
pub climb : {R : Type 0} (path : Path) (parts : ℕ) →
    (IsTrue (waits_for_rest path parts) → R) → ((j : ℕ) → j < parts → IsTrue (must_act path j) → R) →
    (fuel i : ℕ) → i ≤ parts → parts ≤ i + fuel → IsTrue (waits_for_rest path i) → R
climb {R} path parts top act zero i h enough waits = let same : i ≡ parts = omega (arith, h, enough) in top (rw (← same) waits)
climb {R} path parts top act (suc fuel) i h enough waits = by_place (less_or_same i parts h) (climb path parts top act fuel (suc i))
  where
    less_or_same : (i parts : ℕ) → i ≤ parts → (i < parts) ⊎ (i ≡ parts)
    less_or_same i parts h = grind arith

    by_place : (i < parts) ⊎ (i ≡ parts) → (suc i ≤ parts → parts ≤ suc i + fuel → IsTrue (waits_for_rest path (suc i)) → R) → R
    by_place (inr same) up = top (rw (← same) waits)
    by_place (inl less) up =
        let r = rests (path.unclosed i) (path.shown i) (path.last_writes i) (path.owed i) waits in
        elim (by_cases (stands path i) (path.owed i && not (writing path i)) (waits_for_rest path (suc i)) (works path i) (third_of (stands path (suc i)) (path.untaken i) (path.unclosed i) (path.ready i) r.unclosed)) [
          | inl must ↦ act i less must
          | inr (inl below) ↦ absurd (not_below (path.shown i) (path.taken i) (path.owed i) (path.unclosed i) (path.last_writes i) waits below)
          | inr (inr more) ↦ up (omega (arith, less)) (omega (arith, enough)) more
        ]

asked_by_cases : (s w u op r o lw : Bool) → IsTrue (s || w) → (IsTrue w → IsTrue (u || r || o)) → IsTrue (s || u || op || r) ⊎ IsTrue (o && not (op && lw))
asked_by_cases true w u op r o lw h a = inl refl
asked_by_cases false w true op r o lw h a = inl refl
asked_by_cases false w false true r o lw h a = inl refl
asked_by_cases false w false false true o lw h a = inl refl
asked_by_cases false true false false false o lw h a = let owed : IsTrue o = a refl in inr (grind (arith, tests, owed))
asked_by_cases false false false false false o lw h a = absurd cc

-- what is asked at a port falls to the parts below it, from top to bottom, or to those above one of them
pub settle_below : {R : Type 0} (path : Path) (parts : ℕ) → AnswersFlow path parts →
    (IsTrue (waits_for_rest path parts) → R) → (IsTrue (stands path 0 || (path.owed 0 && not (writing path 0))) → R) → ((j : ℕ) → j < parts → IsTrue (must_act path j) → R) →
    (i : ℕ) → i ≤ parts → IsTrue (stands path i || (path.owed i && not (writing path i))) → R
settle_below {R} path parts flow top bottom act zero h asked = bottom asked
settle_below {R} path parts flow top bottom act (suc i) h asked = go (settle_below path parts flow top bottom act i (omega (arith, h)))
  where
    go : (IsTrue (stands path i || (path.owed i && not (writing path i))) → R) → R
    go below = elim (asked_by_cases (stands path (suc i)) (path.owed (suc i) && not (writing path (suc i))) (path.untaken i) (path.unclosed i) (path.ready i) (path.owed i) (path.last_writes i) asked (λ w. flow i (omega (arith, h)) (and_parts (path.owed (suc i)) (not (writing path (suc i))) w).0)) [
      | inr owed ↦ below (or_right (stands path i) (path.owed i && not (writing path i)) owed)
      | inl work ↦ elim (by_cases (stands path i) (path.owed i && not (writing path i)) (waits_for_rest path (suc i)) (works path i) work) [
        | inl must ↦ act i (omega (arith, h)) must
        | inr (inl more) ↦ below more
        | inr (inr waits) ↦ climb path parts top act parts (suc i) h (omega arith) waits
      ]
    ]

-- from any part at work
pub settle : {R : Type 0} (path : Path) (parts : ℕ) → AnswersFlow path parts →
    (IsTrue (waits_for_rest path parts) → R) → (IsTrue (stands path 0 || (path.owed 0 && not (writing path 0))) → R) → ((j : ℕ) → j < parts → IsTrue (must_act path j) → R) →
    (i : ℕ) → i < parts → IsTrue (works path i) → R
settle {R} path parts flow top bottom act i h work =
    elim (by_cases (stands path i) (path.owed i && not (writing path i)) (waits_for_rest path (suc i)) (works path i) work) [
      | inl must ↦ act i h must
      | inr (inl more) ↦ settle_below path parts flow top bottom act i (omega (arith, h)) more
      | inr (inr waits) ↦ climb path parts top act parts (suc i) h (omega arith) waits
    ]

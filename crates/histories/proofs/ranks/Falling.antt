-- The sum of what is left falls in each cycle in which some part is active.
use Rattle.std.proofs.Common.{◌≡◌, ℕ, zero, suc, ◌+◌, ◌-◌, ◌*◌, ◌<◌, ◌≤◌, Bool, true, false, not, ◌&&◌, ◌||◌, List, [], ◌∷◌, arith, refl, IsTrue, IsFalse, inl, inr, le_refl, le_trans, sym}
use Rattle.std.proofs.lemmas.Bool.{and_parts}
use Rattle.histories.specs.Window.{Part, KeepsRank, moves_before, is_active, Budget, Keeps, AllKeep, some_active, allowances}
use Rattle.histories.proofs.ranks.Cases.{same_or_less}

abbrev level_by : Part → Bool → ℕ → ℕ
level_by part true c = part.rank c
level_by part false c = part.largest

-- the rank while there is work or a move, its largest value before
abbrev level : Part → ℕ → ℕ
level part c = level_by part (part.works c || part.moves c) c

abbrev spare : Budget → ℕ → ℕ
spare budget c = (budget.few - moves_before budget.part c) * (budget.part.largest + 1) + level budget.part c

level_small : (part : Part) (size c : ℕ) → KeepsRank part size → c ≤ size → level part c ≤ part.largest
level_small part size c keeps h = by_test (part.works c || part.moves c)
  where
    by_test : (w : Bool) → level_by part w c ≤ part.largest
    by_test true = keeps.bounded c h
    by_test false = le_refl part.largest

-- without a move the level doesn't rise, since work goes away by a move alone
level_stays : (part : Part) (size c : ℕ) → KeepsRank part size → c < size → IsFalse (part.moves c) → level part (suc c) ≤ level part c
level_stays part size c keeps h still = by_test (part.works c) refl
  where
    by_test : (w : Bool) → part.works c ≡ w → level part (suc c) ≤ level_by part (w || part.moves c) c
    by_test true e = rw (keeps.lasts c h e still) (keeps.stays c h e still)
    by_test false e = rw still (level_small part size (suc c) keeps (omega (arith, h)))

level_falls : (part : Part) (size c : ℕ) → KeepsRank part size → c < size → IsFalse (part.moves c) → IsTrue (part.works c) → IsFalse (part.excused c) → level part (suc c) < level part c
level_falls part size c keeps h still works bound = rw (works, keeps.lasts c h works still) (keeps.falls c h works still bound)

moves_grow : (part : Part) (c size : ℕ) → c ≤ size → moves_before part c ≤ moves_before part size
moves_grow part c zero h = let same : c ≡ 0 = omega arith in rw same (le_refl _)
moves_grow part c (suc size) h = elim (same_or_less c size h) [ inl low ↦ let rest = moves_grow part c size low in omega (arith, rest) | inr same ↦ rw same (le_refl _) ]

move_pays : (k largest old new : ℕ) → new ≤ largest → k * (largest + 1) + new < (k + 1) * (largest + 1) + old
move_pays k largest old new h = omega (arith, h)

spare_moved : (few made later largest old new : ℕ) → later ≡ made + 1 → later ≤ few → new ≤ largest → (few - later) * (largest + 1) + new < (few - made) * (largest + 1) + old
spare_moved few made later largest old new one room h =
    let split : few - made ≡ (few - later) + 1 = omega (arith, room, one) in
    rw split (move_pays (few - later) largest old new h)

-- a move is counted
moved : (part : Part) (c : ℕ) → IsTrue (part.moves c) → moves_before part (suc c) ≡ moves_before part c + 1
moved part c e = rw e refl

still_less : (few made later largest old new : ℕ) → later ≡ made → new < old → (few - later) * (largest + 1) + new < (few - made) * (largest + 1) + old
still_less few made later largest old new same h = rw same (omega (arith, h))

still_no_more : (few made later largest old new : ℕ) → later ≡ made → new ≤ old → (few - later) * (largest + 1) + new ≤ (few - made) * (largest + 1) + old
still_no_more few made later largest old new same h = rw same (omega (arith, h))

-- without a move none is counted
unmoved : (part : Part) (c : ℕ) → IsFalse (part.moves c) → moves_before part (suc c) ≡ moves_before part c
unmoved part c e = rw e (omega arith)

not_false : (b : Bool) → IsTrue (not b) → IsFalse b
not_false true h = sym h
not_false false h = refl

spare_falls : (b : Budget) (size c : ℕ) → Keeps b size → c < size → IsTrue (is_active b.part c) → spare b (suc c) < spare b c
spare_falls b size c keeps h active = by_move (b.part.moves c) refl
  where
    by_move : (m : Bool) → b.part.moves c ≡ m → spare b (suc c) < spare b c
    by_move true e =
        let room : moves_before b.part (suc c) ≤ b.few = le_trans (moves_grow b.part (suc c) size (omega (arith, h))) keeps.1 in
        spare_moved b.few (moves_before b.part c) (moves_before b.part (suc c)) b.part.largest (level b.part c) (level b.part (suc c)) (moved b.part c e) room (level_small b.part size (suc c) keeps.0 (omega (arith, h)))
    by_move false e =
        let must : IsTrue (b.part.works c && not (b.part.excused c)) = rw e at active in
        let parts = and_parts (b.part.works c) (not (b.part.excused c)) must in
        let down = level_falls b.part size c keeps.0 h e parts.0 (not_false (b.part.excused c) parts.1) in
        still_less b.few (moves_before b.part c) (moves_before b.part (suc c)) b.part.largest (level b.part c) (level b.part (suc c)) (unmoved b.part c e) down

spare_stays : (b : Budget) (size c : ℕ) → Keeps b size → c < size → spare b (suc c) ≤ spare b c
spare_stays b size c keeps h = by_move (b.part.moves c) refl
  where
    by_move : (m : Bool) → b.part.moves c ≡ m → spare b (suc c) ≤ spare b c
    by_move true e = let less = spare_falls b size c keeps h (rw e refl) in omega (arith, less)
    by_move false e =
        let down = level_stays b.part size c keeps.0 h e in
        still_no_more b.few (moves_before b.part c) (moves_before b.part (suc c)) b.part.largest (level b.part c) (level b.part (suc c)) (unmoved b.part c e) down

spares : List Budget → ℕ → ℕ
spares [] c = 0
spares (b ∷ later) c = spare b c + spares later c

spares_stay : (parts : List Budget) (size c : ℕ) → AllKeep parts size → c < size → spares parts (suc c) ≤ spares parts c
unfolding spares
spares_stay [] size c keep h = le_refl 0
spares_stay (b ∷ later) size c keep h = let one = spare_stays b size c keep.0 h in let rest = spares_stay later size c keep.1 h in omega (arith, one, rest)

spares_fall : (parts : List Budget) (size c : ℕ) → AllKeep parts size → c < size → IsTrue (some_active parts c) → spares parts (suc c) < spares parts c
unfolding spares
spares_fall [] size c keep h active = cc
spares_fall (b ∷ later) size c keep h active = by_active (is_active b.part c) refl active (spares_fall later size c keep.1 h)
  where
    by_active : (a : Bool) → is_active b.part c ≡ a → IsTrue (a || some_active later c) → (IsTrue (some_active later c) → spares later (suc c) < spares later c) →
        spare b (suc c) + spares later (suc c) < spare b c + spares later c
    by_active true e some more = let one = spare_falls b size c keep.0 h e in let rest = spares_stay later size c keep.1 h in omega (arith, one, rest)
    by_active false e some more = let one = spare_stays b size c keep.0 h in let rest = more some in omega (arith, one, rest)

-- a number that falls in each cycle gives out
falls_out : (p : ℕ → ℕ) (size : ℕ) → ((c : ℕ) → c < size → p (suc c) < p c) → size + p size ≤ p 0
falls_out p zero falls = omega arith
falls_out p (suc size) falls = let rest = falls_out p size (λ c h. falls c (omega arith)) in let last = falls size (omega arith) in omega (arith, rest, last)

spares_allowed : (parts : List Budget) (size : ℕ) → AllKeep parts size → spares parts 0 ≤ allowances parts
unfolding spares
spares_allowed [] size keep = le_refl 0
spares_allowed (b ∷ later) size keep = let none : b.few - 0 ≡ b.few = omega arith in let one = level_small b.part size 0 keep.0.0 (omega arith) in let rest = spares_allowed later size keep.1 in rw none (omega (arith, one, rest))

pub active_is_short : (parts : List Budget) (size : ℕ) → AllKeep parts size → ((c : ℕ) → c < size → IsTrue (some_active parts c)) → size ≤ allowances parts
active_is_short parts size keep active =
    let out = falls_out (spares parts) size (λ c h. spares_fall parts size c keep h (active c h)) in
    let most = spares_allowed parts size keep in
    omega (arith, out, most)

-- Steps of the loops over components.
use Rattle.std.proofs.Common.{◌≡◌, inl, inr, ℕ, zero, suc, ◌+◌, ◌-◌, ◌<◌, ◌≤◌, List, [], ◌∷◌, ◌++◌, length, length-append, append_assoc, take, drop, get_or, slice_set, slice_get, flat_map, Option, Some, None, refl, sym, ap, subst, ◌∙◌, arith, add-one, drop-cons}
use Rattle.std.proofs.lemmas.List.{take_more, append-nil, take-append-drop, take-append-le}
use Rattle.std.proofs.lemmas.List.Concat.{flat_map-append}
use Rattle.std.proofs.lemmas.Option.{slice_get-get_or}
use Rattle.std.proofs.Math.Seq.{take-append-add}
use Rattle.std.proofs.lemmas.Bool.{cases_order}
use Rattle.av_files.specs.Outside.{Rose, with_more}
use Rattle.av_base.specs.Word.{Word}
use Rattle.port_rows.specs.Levels.{Level, set_levels, AllFit}
use Rattle.trace_lines.specs.declared.counts.Counts.{Counts}
use Rattle.trace_lines.specs.Sums.{with_counts}
use Rattle.std.proofs.lemmas.List.Sums.{sum_by_more}
use Rattle.benches.specs.Counting.{AreFew, HaveRoom, counted_together}
use Rattle.benches.specs.Writing.{text_of, HoldsPart}

-- ---- what is set in a row

one_more_set : {C : Type 0} (sets : C → List Level) (in_two : (row : List Word) (one other : List Level) → set_levels row (one ++ other) ≡ set_levels (set_levels row one) other)
    (second_fits : (row : List Word) (one other : List Level) → AllFit row (one ++ other) → AllFit (set_levels row one) other)
    (start row new : List Word) (components : List C) (i : ℕ) (d : C) → i < length components → row ≡ set_levels start (flat_map sets (take i components)) → AllFit row (flat_map sets (drop i components))
    → new ≡ set_levels row (sets (get_or components i d))
    → (new ≡ set_levels start (flat_map sets (take (i + 1) components))) × AllFit new (flat_map sets (drop (i + 1) components))
one_more_set {C} sets in_two second_fits start row new components i d inside set fits is =
    let next = get_or components i d in
    let more : flat_map sets (take (i + 1) components) ≡ flat_map sets (take i components) ++ sets next =
    ap (flat_map sets) (take_more components i d inside) ∙ flat_map-append sets (take i components) (next ∷ []) ∙ ap (λ (ls : List Level). flat_map sets (take i components) ++ ls) (append-nil (sets next)) in
    let rest : flat_map sets (drop i components) ≡ sets next ++ flat_map sets (drop (i + 1) components) = rw add-one (ap (flat_map sets) (drop-cons components i d inside)) in
    let behind = second_fits row (sets next) (flat_map sets (drop (i + 1) components)) (subst (AllFit row) rest fits) in (
      is ∙ ap (λ (r : List Word). set_levels r (sets next)) set ∙ sym (in_two start (flat_map sets (take i components)) (sets next)) ∙ ap (set_levels start) (sym more),
      subst (λ (r : List Word). AllFit r (flat_map sets (drop (i + 1) components))) (sym is) behind,
    )

next_fits : {C : Type 0} (sets : C → List Level) (first_fits : (row : List Word) (one other : List Level) → AllFit row (one ++ other) → AllFit row one)
    (row : List Word) (components : List C) (i : ℕ) (d : C) → i < length components → AllFit row (flat_map sets (drop i components)) → AllFit row (sets (get_or components i d))
next_fits {C} sets first_fits row components i d inside fits =
    let rest : flat_map sets (drop i components) ≡ sets (get_or components i d) ++ flat_map sets (drop (i + 1) components) = rw add-one (ap (flat_map sets) (drop-cons components i d inside)) in
    first_fits row (sets (get_or components i d)) (flat_map sets (drop (i + 1) components)) (subst (AllFit row) rest fits)

-- ---- what is written to a sink

pub with_nothing : (held : Option (List ℕ)) → held ≡ with_more held []
with_nothing None = refl
with_nothing (Some bytes) = ap Some (sym (append-nil bytes))

with_both : (held : Option (List ℕ)) (one other : List ℕ) → with_more (with_more held one) other ≡ with_more held (one ++ other)
with_both None one other = refl
with_both (Some bytes) one other = ap Some (append_assoc bytes one other)

abbrev text : {C : Type 0} → (C → List (List ℕ)) → List C → List ℕ
text {C} tells components = text_of (flat_map tells components)

text_joined : (one other : List (List ℕ)) → text_of (one ++ other) ≡ text_of one ++ text_of other
text_joined one other = flat_map-append (λ (line : List ℕ). line) one other

text_more : {C : Type 0} (tells : C → List (List ℕ)) (components : List C) (i : ℕ) (d : C) → i < length components
    → text tells (take (i + 1) components) ≡ text tells (take i components) ++ text_of (tells (get_or components i d))
text_more {C} tells components i d inside =
    ap (text tells) (take_more components i d inside)
    ∙ ap text_of (flat_map-append tells (take i components) (get_or components i d ∷ []) ∙ ap (λ (ls : List (List ℕ)). flat_map tells (take i components) ++ ls) (append-nil (tells (get_or components i d))))
    ∙ text_joined (flat_map tells (take i components)) (tells (get_or components i d))

text_whole : {C : Type 0} (tells : C → List (List ℕ)) (components : List C) (i : ℕ) (d : C) → i < length components
    → text tells components ≡ text tells (take i components) ++ (text_of (tells (get_or components i d)) ++ text tells (drop (i + 1) components))
text_whole {C} tells components i d inside =
    ap (text tells) (sym (take-append-drop i components))
    ∙ ap text_of (flat_map-append tells (take i components) (drop i components))
    ∙ text_joined (flat_map tells (take i components)) (flat_map tells (drop i components))
    ∙ ap (λ (rest : List ℕ). text tells (take i components) ++ rest)
    (rw add-one (ap (text tells) (drop-cons components i d inside)) ∙ text_joined (tells (get_or components i d)) (flat_map tells (drop (i + 1) components)))

one_more_told : {C : Type 0} (tells : C → List (List ℕ)) (components : List C) (i : ℕ) (d : C) (start before after : Option (List ℕ)) → i < length components
    → before ≡ with_more start (text tells (take i components)) → after ≡ with_more before (text_of (tells (get_or components i d)))
    → after ≡ with_more start (text tells (take (i + 1) components))
one_more_told {C} tells components i d start before after inside so_far more =
    more ∙ ap (λ (h : Option (List ℕ)). with_more h (text_of (tells (get_or components i d)))) so_far
    ∙ with_both start (text tells (take i components)) (text_of (tells (get_or components i d)))
    ∙ ap (with_more start) (sym (text_more tells components i d inside))

part_told : {C : Type 0} (tells : C → List (List ℕ)) (components : List C) (i : ℕ) (d : C) (start before after : Option (List ℕ)) → i < length components
    → before ≡ with_more start (text tells (take i components)) → HoldsPart before after (text_of (tells (get_or components i d)))
    → HoldsPart start after (text tells components)
part_told {C} tells components i d start before after inside so_far part =
    let front = text tells (take i components) in
    let own = text_of (tells (get_or components i d)) in
    let rest = text tells (drop (i + 1) components) in
    let whole = text_whole tells components i d inside in
    let long : length (text tells components) ≡ length front + (length own + length rest) = ap length whole ∙ length-append front (own ++ rest) ∙ ap (λ (n : ℕ). length front + n) (length-append own rest) in
    let low : part.count ≤ length own = (let p = part.part in omega arith) in
    let taken : take (length front + part.count) (text tells components) ≡ front ++ take part.count own =
    ap (take (length front + part.count)) whole ∙ take-append-add front (own ++ rest) part.count ∙ ap (λ (ls : List ℕ). front ++ ls) (take-append-le part.count own rest low) in
    record {
      count = length front + part.count;
      part = (let p = part.part in omega (arith, long));
      written = part.written ∙ ap (λ (h : Option (List ℕ)). with_more h (take part.count own)) so_far ∙ with_both start front (take part.count own) ∙ ap (with_more start) (sym taken);
    }

-- ---- how they stand behind the cycle

get_set_other : {C : Type 0} (xs : List C) (k n : ℕ) (y : C) → (n ≡ k → ⊥) → slice_get (slice_set xs k y) n ≡ slice_get xs n
get_set_other [] k n y apart = refl
get_set_other (x ∷ xs) zero zero y apart = absurd (apart refl)
get_set_other (x ∷ xs) zero (suc n) y apart = refl
get_set_other (x ∷ xs) (suc k) zero y apart = refl
get_set_other (x ∷ xs) (suc k) (suc n) y apart = get_set_other xs k n y (λ e. apart (ap suc e))

get_set_same : {C : Type 0} (xs : List C) (k : ℕ) (y : C) → k < length xs → slice_get (slice_set xs k y) k ≡ Some y
get_set_same [] k y inside = absurd (omega arith)
get_set_same (x ∷ xs) zero y inside = refl
get_set_same (x ∷ xs) (suc k) y inside = get_set_same xs k y (omega arith)

some_same : {C : Type 0} (x y : C) → Some x ≡ Some y → x ≡ y
some_same x y e = cc

-- those before a place are behind the cycle, and the others as they were
pub record AreBehind {C : Type 0} (Follows : C → C → Type 0) (start now : List C) (i : ℕ) : Type 0 where
  pub before : (k : ℕ) (old new : C) → k < i → slice_get start k ≡ Some old → slice_get now k ≡ Some new → Follows old new
  pub rest : (k : ℕ) → i ≤ k → slice_get now k ≡ slice_get start k

pub none_behind : {C : Type 0} (Follows : C → C → Type 0) (start : List C) → AreBehind Follows start start 0
none_behind {C} Follows start = record { before = λ k old new low a b. absurd (omega arith); rest = λ k high. refl }

pub one_more_behind : {C : Type 0} (Follows : C → C → Type 0) (start now : List C) (i : ℕ) (d new : C) → i < length now → AreBehind Follows start now i
    → Follows (get_or now i d) new → AreBehind Follows start (slice_set now i new) (i + 1)
one_more_behind {C} Follows start now i d new inside are follows =
    record {
      before = λ k old after low a b. elim (cases_order k i) [
        | inl e ↦ (let at : slice_get start i ≡ Some (get_or now i d) = sym (are.rest i (omega arith)) ∙ slice_get-get_or now i d inside in
            let was : old ≡ get_or now i d = some_same old (get_or now i d) (sym a ∙ ap (slice_get start) e ∙ at) in
            let is : after ≡ new = some_same after new (sym b ∙ ap (slice_get (slice_set now i new)) e ∙ get_set_same now i new inside) in
            subst (λ (x : C). Follows x after) (sym was) (subst (λ (x : C). Follows (get_or now i d) x) (sym is) follows))
        | inr (inl below) ↦ are.before k old after below a (sym (get_set_other now i k new (λ e. omega (arith, e, below))) ∙ b)
        | inr (inr above) ↦ absurd (omega arith)
      ];
      rest = λ k high. get_set_other now i k new (λ e. omega (arith, e, high)) ∙ are.rest k (omega arith);
    }

-- a count that rose since a later moment rose since an earlier one
pub rose_since : (start before after : ℕ) → start ≤ before → Rose before after → Rose start after
rose_since start before after grows rose = omega arith

-- ---- what is counted

same_counts : (a b c d a' b' c' d' : ℕ) → a ≡ a' → b ≡ b' → c ≡ c' → d ≡ d' →
    let one : Counts = record { taken = a; answered = b; delivered = c; dropped = d } in
    let two : Counts = record { taken = a'; answered = b'; delivered = c'; dropped = d' } in
    one ≡ two
same_counts a b c d a' b' c' d' p q r s = rw (p, q, r, s) refl

one_more_counted : {C : Type 0} (counts : C → Counts) (components : List C) (i : ℕ) (d : C) (start sum after : Counts) → i < length components
    → sum ≡ with_counts start (counted_together counts (take i components)) → after ≡ with_counts sum (counts (get_or components i d))
    → after ≡ with_counts start (counted_together counts (take (i + 1) components))
one_more_counted {C} counts components i d start sum after inside so_far more =
    let a = sum_by_more (λ (c : C). (counts c).taken) components i d inside in
    let b = sum_by_more (λ (c : C). (counts c).answered) components i d inside in
    let e = sum_by_more (λ (c : C). (counts c).delivered) components i d inside in
    let f = sum_by_more (λ (c : C). (counts c).dropped) components i d inside in
    more ∙ ap (λ (s : Counts). with_counts s (counts (get_or components i d))) so_far
    ∙ same_counts _ _ _ _ _ _ _ _ (omega (arith, a)) (omega (arith, b)) (omega (arith, e)) (omega (arith, f))

pub room_for_one : (n i : ℕ) (sum : Counts) → i < n → HaveRoom (n - i) sum → HaveRoom 1 sum
room_for_one n i sum low room = record {
  taken = (let h = room.taken in omega arith);
  answered = (let h = room.answered in omega arith);
  delivered = (let h = room.delivered in omega arith);
  dropped = (let h = room.dropped in omega arith);
}

pub room_behind : (n i : ℕ) (sum more after : Counts) → i < n → HaveRoom (n - i) sum → AreFew more → after ≡ with_counts sum more → HaveRoom (n - (i + 1)) after
room_behind n i sum more after low room few is =
    let room_in : HaveRoom (n - (i + 1)) (with_counts sum more) = record {
      taken = (let h = room.taken in let f = few.taken in omega arith);
      answered = (let h = room.answered in let f = few.answered in omega arith);
      delivered = (let h = room.delivered in let f = few.delivered in omega arith);
      dropped = (let h = room.dropped in let f = few.dropped in omega arith);
    } in
    subst (HaveRoom (n - (i + 1))) (sym is) room_in

-- so is the room for more
pub room_left_for_all : (n more : ℕ) (sum : Counts) → HaveRoom (n + more) sum → HaveRoom (n - 0 + more) sum
room_left_for_all n more sum room = let same : n - 0 + more ≡ n + more = omega arith in subst (λ (m : ℕ). HaveRoom m sum) (sym same) room

pub room_left_behind : (n i rest : ℕ) (sum more after : Counts) → i < n → HaveRoom (n - i + rest) sum → AreFew more → after ≡ with_counts sum more → HaveRoom (n - (i + 1) + rest) after
room_left_behind n i rest sum more after low room few is =
    let room_in : HaveRoom (n - (i + 1) + rest) (with_counts sum more) = record {
      taken = (let h = room.taken in let f = few.taken in omega arith);
      answered = (let h = room.answered in let f = few.answered in omega arith);
      delivered = (let h = room.delivered in let f = few.delivered in omega arith);
      dropped = (let h = room.dropped in let f = few.dropped in omega arith);
    } in
    subst (HaveRoom (n - (i + 1) + rest)) (sym is) room_in

pub room_at_end : (n i rest : ℕ) (sum : Counts) → n ≤ i → HaveRoom (n - i + rest) sum → HaveRoom rest sum
room_at_end n i rest sum high room = let same : n - i + rest ≡ rest = omega arith in subst (λ (m : ℕ). HaveRoom m sum) same room

-- ---- the same of an item that stands at the place

pub next_fits_at : {C : Type 0} (sets : C → List Level) (first_fits : (row : List Word) (one other : List Level) → AllFit row (one ++ other) → AllFit row one)
    (row : List Word) (components : List C) (i : ℕ) (x : C) → x ≡ get_or components i x → i < length components → AllFit row (flat_map sets (drop i components)) → AllFit row (sets x)
next_fits_at {C} sets first_fits row components i x at inside fits = subst (λ (y : C). AllFit row (sets y)) (sym at) (next_fits sets first_fits row components i x inside fits)

pub one_more_set_at : {C : Type 0} (sets : C → List Level) (in_two : (row : List Word) (one other : List Level) → set_levels row (one ++ other) ≡ set_levels (set_levels row one) other)
    (second_fits : (row : List Word) (one other : List Level) → AllFit row (one ++ other) → AllFit (set_levels row one) other)
    (start row new : List Word) (components : List C) (i : ℕ) (x : C) → x ≡ get_or components i x → i < length components → row ≡ set_levels start (flat_map sets (take i components))
    → AllFit row (flat_map sets (drop i components)) → new ≡ set_levels row (sets x)
    → (new ≡ set_levels start (flat_map sets (take (i + 1) components))) × AllFit new (flat_map sets (drop (i + 1) components))
one_more_set_at {C} sets in_two second_fits start row new components i x at inside set fits is =
    one_more_set sets in_two second_fits start row new components i x inside set fits (is ∙ ap (λ (y : C). set_levels row (sets y)) at)

pub one_more_told_at : {C : Type 0} (tells : C → List (List ℕ)) (components : List C) (i : ℕ) (x : C) (start before after : Option (List ℕ)) → x ≡ get_or components i x → i < length components
    → before ≡ with_more start (text tells (take i components)) → after ≡ with_more before (text_of (tells x)) → after ≡ with_more start (text tells (take (i + 1) components))
one_more_told_at {C} tells components i x start before after at inside so_far more =
    one_more_told tells components i x start before after inside so_far (more ∙ ap (λ (y : C). with_more before (text_of (tells y))) at)

pub part_told_at : {C : Type 0} (tells : C → List (List ℕ)) (components : List C) (i : ℕ) (x : C) (start before after : Option (List ℕ)) (own : List ℕ) → x ≡ get_or components i x → i < length components
    → before ≡ with_more start (text tells (take i components)) → HoldsPart before after own → own ≡ text_of (tells x) → HoldsPart start after (text tells components)
part_told_at {C} tells components i x start before after own at inside so_far part is =
    part_told tells components i x start before after inside so_far (subst (HoldsPart before after) (is ∙ ap (λ (y : C). text_of (tells y)) at) part)

pub one_more_counted_at : {C : Type 0} (counts : C → Counts) (components : List C) (i : ℕ) (x : C) (start sum more after : Counts) → x ≡ get_or components i x → i < length components
    → sum ≡ with_counts start (counted_together counts (take i components)) → more ≡ counts x → after ≡ with_counts sum more
    → after ≡ with_counts start (counted_together counts (take (i + 1) components))
one_more_counted_at {C} counts components i x start sum more after at inside so_far own is =
    one_more_counted counts components i x start sum after inside so_far (is ∙ ap (with_counts sum) (own ∙ ap counts at))

pub none_counted : (start : Counts) → start ≡ with_counts start (record { taken = 0; answered = 0; delivered = 0; dropped = 0 })
none_counted start = same_counts start.taken start.answered start.delivered start.dropped _ _ _ _ (omega arith) (omega arith) (omega arith) (omega arith)

pub room_for_all : (n : ℕ) (sum : Counts) → HaveRoom n sum → HaveRoom (n - 0) sum
room_for_all n sum room = let same : n - 0 ≡ n = omega arith in subst (λ (m : ℕ). HaveRoom m sum) (sym same) room

-- what stands at a place is inside the list
pub inside : {C : Type 0} (xs : List C) (k : ℕ) (x : C) → slice_get xs k ≡ Some x → k < length xs
inside [] k x e = absurd (let n : None ≡ Some x = e in cc)
inside (y ∷ xs) zero x e = omega arith
inside (y ∷ xs) (suc k) x e = let low = inside xs k x e in omega arith

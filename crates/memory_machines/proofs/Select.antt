-- A narrow beat has the operations of the wide beat that holds its lanes.
use Rattle.std.proofs.Common.{ℕ, zero, suc, ◌<◌, ◌≤◌, ◌≡◌, ◌+◌, ◌-◌, ◌*◌, ◌/◌, ◌%◌, ◌^◌, [], ◌∷◌, ◌++◌, Bool, true, false, arith, refl, sym, ap, ap₂, ◌∙◌, append-nil, map, filter, flat_map, nat_eq, if◌then◌else◌, min, zero-mul, mul-div_cancel, mul_assoc}
use Rattle.std.proofs.lemmas.List.Elements.{filter-append}
use Rattle.std.proofs.lemmas.Nat.{pow-add}
use Rattle.std.proofs.Math.Nat.{div-div-eq-div-mul, pow-suc, one-le-pow, mul-mod_left, zero-div, div-eq_of_lt, mod-le}
use Rattle.histories.specs.History.{numbers}
use Rattle.memory_runs.specs.Views.{Shape}
use Rattle.memory_runs.specs.Operations.{Beat, is_enabled, filled_of_piece, filled_lanes, operation_at, operation_of_kind, operations_of, pieces}
use Rattle.memory_machines.specs.Machines.{select_of}
use Rattle.memory_runs.specs.Laws.{same_pieces}
use Rattle.memory_machines.proofs.Pieces.{same_lanes}

numbers_split : (from n m : ℕ) → numbers from (n + m) ≡ numbers from n ++ numbers (from + n) m
numbers_split from zero m = let same : from + 0 ≡ from = omega arith in let none : 0 + m ≡ m = omega arith in ap₂ (λ a b. numbers a b) (sym same) none
numbers_split from (suc n) m =
    let more : suc n + m ≡ suc (n + m) = omega arith in
    let next : suc from + n ≡ from + suc n = omega arith in
    ap (numbers from) more ∙ ap (λ l. from ∷ l) (numbers_split (suc from) n m ∙ ap (λ a. numbers (suc from) n ++ numbers a m) next)

none_there : (t : ℕ → Bool) (from n : ℕ) → ((i : ℕ) → i < n → t (from + i) ≡ false) → filter t (numbers from n) ≡ []
none_there t from zero none = refl
none_there t from (suc n) none =
    let here : t from ≡ false = (let same : from + 0 ≡ from = omega arith in ap t (sym same) ∙ none 0 (omega arith)) in
    let rest = none_there t (suc from) n (λ i h. let next : suc from + i ≡ from + suc i = omega arith in ap t next ∙ none (suc i) (omega arith)) in
    ap (λ b. if b then from ∷ filter t (numbers (suc from) n) else filter t (numbers (suc from) n)) here ∙ rest

-- a number that is moved up by `s` digits
moved : (b x s i : ℕ) → 0 < b → (x * b ^ s) / b ^ (s + i) ≡ x / b ^ i
moved b x s i positive =
    ap (λ n. (x * b ^ s) / n) (pow-add b s i) ∙ sym (div-div-eq-div-mul (x * b ^ s) (b ^ s) (b ^ i)) ∙ ap (λ n. n / b ^ i) (mul-div_cancel x (one-le-pow s b positive))

-- its low digits are 0
low_none : (e s i : ℕ) → i < s → is_enabled (e * 2 ^ s) i ≡ false
low_none e s i h =
    let size : s ≡ suc (s - i - 1) + i = omega arith in
    let parts : e * 2 ^ s ≡ (e * 2 ^ suc (s - i - 1)) * 2 ^ i = ap (λ n. e * 2 ^ n) size ∙ ap (λ n. e * n) (pow-add 2 (suc (s - i - 1)) i) ∙ sym (mul_assoc e (2 ^ suc (s - i - 1)) (2 ^ i)) in
    let cut : (e * 2 ^ s) / 2 ^ i ≡ e * 2 ^ suc (s - i - 1) = ap (λ n. n / 2 ^ i) parts ∙ mul-div_cancel (e * 2 ^ suc (s - i - 1)) (one-le-pow i 2 (omega arith)) in
    let even : e * 2 ^ suc (s - i - 1) ≡ (e * 2 ^ (s - i - 1)) * 2 = ap (λ n. e * n) (pow-suc 2 (s - i - 1)) ∙ sym (mul_assoc e (2 ^ (s - i - 1)) 2) in
    ap (λ n. nat_eq (n % 2) 1) (cut ∙ even) ∙ ap (λ n. nat_eq n 1) (mul-mod_left (e * 2 ^ (s - i - 1)) 2)

-- and so are those past its length
high_none : (e s u i : ℕ) → e < 2 ^ u → is_enabled (e * 2 ^ s) ((s + u) + i) ≡ false
high_none e s u i h =
    let place : (s + u) + i ≡ s + (u + i) = omega arith in
    let none : e / 2 ^ (u + i) ≡ 0 = ap (λ n. e / n) (pow-add 2 u i) ∙ sym (div-div-eq-div-mul e (2 ^ u) (2 ^ i)) ∙ ap (λ n. n / 2 ^ i) (div-eq_of_lt h) ∙ zero-div (2 ^ i) in
    ap (λ n. nat_eq (((e * 2 ^ s) / 2 ^ n) % 2) 1) place ∙ ap (λ n. nat_eq (n % 2) 1) (moved 2 e s (u + i) (omega arith) ∙ none)

module _ (narrow wide target : Shape) (span : ℕ) (words : 0 < narrow.word_bytes) (same_words : wide.word_bytes ≡ target.word_bytes) (enables : target.has_enables ≡ true) (beat : Beat)
    (fits : beat.address % target.word_bytes + narrow.word_bytes ≤ target.word_bytes) (few : beat.enables < 2 ^ narrow.word_bytes) where
  narrow_lanes : filled_lanes narrow target beat.enables ≡ filter (is_enabled beat.enables) (numbers 0 narrow.word_bytes)
  narrow_lanes =
      let least : min narrow.word_bytes target.word_bytes ≡ narrow.word_bytes = omega arith in
      let one : pieces narrow target ≡ 1 = ap (λ n. narrow.word_bytes / n) least ∙ (let same = same_pieces narrow words in let self : min narrow.word_bytes narrow.word_bytes ≡ narrow.word_bytes = omega arith in ap (λ n. narrow.word_bytes / n) (sym self) ∙ same) in
      let none = zero-mul narrow.word_bytes in
      ap (λ n. flat_map (filled_of_piece narrow target beat.enables) (numbers 0 n)) one ∙ append-nil _ ∙ rw (enables, least, none) refl

  wide_lanes : (e : ℕ) → filled_lanes wide target e ≡ filter (is_enabled e) (numbers 0 target.word_bytes)
  wide_lanes e =
      let least : min wide.word_bytes target.word_bytes ≡ target.word_bytes = omega (arith, same_words) in
      let one : pieces wide target ≡ 1 = ap (λ n. n / min n target.word_bytes) same_words ∙ same_pieces target (omega arith) in
      let none = zero-mul target.word_bytes in
      ap (λ n. flat_map (filled_of_piece wide target e) (numbers 0 n)) one ∙ append-nil _ ∙ rw (enables, least, none) refl

  lane_agrees : (i : ℕ) → i < narrow.word_bytes →
      (is_enabled beat.enables (0 + i) ≡ is_enabled (select_of target.word_bytes beat).enables (beat.address % target.word_bytes + i))
      × (operation_at span beat (0 + i) ≡ operation_at span (select_of target.word_bytes beat) (beat.address % target.word_bytes + i))
  lane_agrees i h =
      let at : 0 + i ≡ i = omega arith in
      let low = mod-le beat.address target.word_bytes in
      let there : beat.address + i ≡ (beat.address - beat.address % target.word_bytes) + (beat.address % target.word_bytes + i) = omega (arith, low) in
      rw at (
        ap (λ n. nat_eq (n % 2) 1) (sym (moved 2 beat.enables (beat.address % target.word_bytes) i (omega arith))),
        ap₂ (λ a n. operation_of_kind beat.kind (a % span) (n % 256)) there (sym (moved 256 beat.word (beat.address % target.word_bytes) i (omega arith))),
      )

  pub beat_is_selected : operations_of narrow target span beat ≡ operations_of wide target span (select_of target.word_bytes beat)
  beat_is_selected =
      let s = beat.address % target.word_bytes in
      let u = narrow.word_bytes in
      let r = target.word_bytes - s - u in
      let size : target.word_bytes ≡ s + (u + r) = omega (arith, fits) in
      let t' = is_enabled (select_of target.word_bytes beat).enables in
      let f' = operation_at span (select_of target.word_bytes beat) in
      let first : filter t' (numbers 0 s) ≡ [] = none_there t' 0 s (λ i h. low_none beat.enables s (0 + i) (omega arith)) in
      let last : filter t' (numbers (s + u) r) ≡ [] = none_there t' (s + u) r (λ i h. high_none beat.enables s u i few) in
      let agree = same_lanes (is_enabled beat.enables) t' (operation_at span beat) f' u 0 s lane_agrees in
      let middle : map (operation_at span beat) (filter (is_enabled beat.enables) (numbers 0 u)) ≡ map f' (filter t' (numbers s u)) = agree.0 in
      let at : 0 + s ≡ s = omega arith in
      let split : numbers 0 (s + (u + r)) ≡ numbers 0 s ++ (numbers s u ++ numbers (s + u) r) =
      numbers_split 0 s (u + r) ∙ ap (λ a. numbers 0 s ++ numbers a (u + r)) at ∙ ap (λ l. numbers 0 s ++ l) (numbers_split s u r) in
      let parts : filter t' (numbers 0 (s + (u + r))) ≡ filter t' (numbers s u) =
      ap (filter t') split ∙ filter-append t' (numbers 0 s) (numbers s u ++ numbers (s + u) r) ∙ ap₂ (λ a b. a ++ b) first (filter-append t' (numbers s u) (numbers (s + u) r) ∙ ap (λ l. filter t' (numbers s u) ++ l) last ∙ append-nil _) in
      ap (map (operation_at span beat)) narrow_lanes ∙ middle ∙ ap (map f') (sym parts) ∙ ap (λ n. map f' (filter t' (numbers 0 n))) (sym size) ∙ ap (map f') (sym (wide_lanes (select_of target.word_bytes beat).enables))

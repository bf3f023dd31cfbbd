-- A beat has the operations of its pieces.
use Rattle.std.proofs.Common.{ℕ, zero, suc, ◌<◌, ◌≤◌, ◌≡◌, ◌+◌, ◌-◌, ◌*◌, ◌/◌, ◌%◌, ◌^◌, [], ◌∷◌, ◌++◌, List, Bool, true, false, ◌||◌, arith, refl, sym, ap, ap₂, ◌∙◌, append-nil, map, filter, flat_map, nat_eq, if◌then◌else◌, min, zero-mul}
use Rattle.std.specs.List.{list_any}
use Rattle.std.proofs.lemmas.List.{map-append}
use Rattle.std.proofs.lemmas.Nat.{div-mul-add, mod-mul-add, pow-add}
use Rattle.std.proofs.Math.Arith.{mod-mul}
use Rattle.std.proofs.Math.Nat.{mod-lt, div-div-eq-div-mul, pow-suc, one-le-pow}
use Rattle.histories.specs.History.{numbers}
use Rattle.memory_runs.specs.Views.{Shape}
use Rattle.memory_runs.specs.Operations.{Beat, is_enabled, filled_of_piece, filled_lanes, operation_at, operation_of_kind, operations_of, pieces}
use Rattle.memory_machines.specs.Machines.{piece_of}
use Rattle.memory_runs.specs.Laws.{same_pieces}

-- a low digit of the digits from place `a` on is a digit of the whole
low_digit : (b y i k : ℕ) → 0 < b → ((y % b ^ (suc k + i)) / b ^ i) % b ≡ (y / b ^ i) % b
low_digit b y i k positive =
    let low : 0 < b ^ i = one-le-pow i b positive in
    let high : 0 < b ^ suc k = one-le-pow (suc k) b positive in
    let some : 0 < b ^ k = one-le-pow k b positive in
    let parts : y % b ^ (suc k + i) ≡ (y / b ^ i % b ^ suc k) * b ^ i + y % b ^ i = ap (λ n. y % n) (pow-add b (suc k) i) ∙ mod-mul y high low in
    let cut : (y % b ^ (suc k + i)) / b ^ i ≡ y / b ^ i % b ^ suc k = ap (λ n. n / b ^ i) parts ∙ div-mul-add (y / b ^ i % b ^ suc k) (b ^ i) (y % b ^ i) (mod-lt y low) in
    let last : y / b ^ i % b ^ suc k ≡ (y / b ^ i / b % b ^ k) * b + y / b ^ i % b = ap (λ n. y / b ^ i % n) (pow-suc b k) ∙ mod-mul (y / b ^ i) some positive in
    ap (λ n. n % b) (cut ∙ last) ∙ mod-mul-add (y / b ^ i / b % b ^ k) b (y / b ^ i % b) (mod-lt (y / b ^ i) positive)

pub digit_of_piece : (b x a d i : ℕ) → 0 < b → i < d → ((x / b ^ a % b ^ d) / b ^ i) % b ≡ (x / b ^ (a + i)) % b
digit_of_piece b x a d i positive h =
    let size : d ≡ suc (d - i - 1) + i = omega arith in
    ap (λ n. ((x / b ^ a % b ^ n) / b ^ i) % b) size ∙ low_digit b (x / b ^ a) i (d - i - 1) positive
    ∙ ap (λ n. n % b) (div-div-eq-div-mul x (b ^ a) (b ^ i)) ∙ ap (λ n. (x / n) % b) (sym (pow-add b a i))

-- lists of lanes from two places, where what is asked of the lanes is the same
module _ {A : Type 0} (t t' : ℕ → Bool) (f f' : ℕ → A) where
  one : (b b' : ℕ) (l l' : List ℕ) (x x' : Bool) → x ≡ x' → f b ≡ f' b' → map f l ≡ map f' l' → map f (if x then b ∷ l else l) ≡ map f' (if x' then b' ∷ l' else l')
  one b b' l l' true true test value rest = ap₂ (λ y ys. y ∷ ys) value rest
  one b b' l l' false false test value rest = rest
  one b b' l l' true false test value rest = cc
  one b b' l l' false true test value rest = cc

  pub same_lanes : (n b b' : ℕ) → ((i : ℕ) → i < n → (t (b + i) ≡ t' (b' + i)) × (f (b + i) ≡ f' (b' + i))) →
      (map f (filter t (numbers b n)) ≡ map f' (filter t' (numbers b' n))) × (list_any t (numbers b n) ≡ list_any t' (numbers b' n)) × (map f (numbers b n) ≡ map f' (numbers b' n))
  same_lanes zero b b' same = (refl, refl, refl)
  same_lanes (suc n) b b' same =
      let here = same 0 (omega arith) in
      let first : b + 0 ≡ b = omega arith in
      let first' : b' + 0 ≡ b' = omega arith in
      let test : t b ≡ t' b' = ap t (sym first) ∙ here.0 ∙ ap t' first' in
      let value : f b ≡ f' b' = ap f (sym first) ∙ here.1 ∙ ap f' first' in
      let rest = same_lanes n (suc b) (suc b') (λ i h.
      let next : suc b + i ≡ b + suc i = omega arith in
      let next' : suc b' + i ≡ b' + suc i = omega arith in
      let there = same (suc i) (omega arith) in
      (ap t next ∙ there.0 ∙ ap t' (sym next'), ap f next ∙ there.1 ∙ ap f' (sym next'))) in
      (one b b' (filter t (numbers (suc b) n)) (filter t' (numbers (suc b') n)) (t b) (t' b') test value rest.0, ap₂ (λ x y. x || y) test rest.1, ap₂ (λ y ys. y ∷ ys) value rest.2)

map_flat : {X A B : Type 0} (f : A → B) (g : X → List A) (h : X → List B) → ((x : X) → map f (g x) ≡ h x) → (xs : List X) → map f (flat_map g xs) ≡ flat_map h xs
map_flat f g h same [] = refl
map_flat f g h same (x ∷ xs) = map-append f (g x) (flat_map g xs) ∙ ap₂ (λ a b. a ++ b) (same x) (map_flat f g h same xs)

module _ {A : Type 0} (t t' : ℕ → Bool) (f f' : ℕ → A) (l l' : List ℕ) where
  where_any : (x x' : Bool) → x ≡ x' → map f l ≡ map f' l' → map f (if x then l else []) ≡ map f' (if x' then l' else [])
  where_any true true e rest = rest
  where_any false false e rest = refl
  where_any true false e rest = cc
  where_any false true e rest = cc

  filled_agree : (has : Bool) → (map f (filter t l) ≡ map f' (filter t' l')) × (list_any t l ≡ list_any t' l') × (map f l ≡ map f' l') →
      map f (if has then filter t l else if list_any t l then l else []) ≡ map f' (if has then filter t' l' else if list_any t' l' then l' else [])
  filled_agree true agree = agree.0
  filled_agree false agree = where_any (list_any t l) (list_any t' l') agree.1 agree.2

module _ (wide narrow target : Shape) (span : ℕ) (words : 0 < target.word_bytes) (same_words : narrow.word_bytes ≡ target.word_bytes) (fits : target.word_bytes ≤ wide.word_bytes) (beat : Beat) where
  narrow_pieces : pieces narrow target ≡ 1
  narrow_pieces = ap (λ n. n / min n target.word_bytes) same_words ∙ same_pieces target words

  abbrev filled_at : Bool → ℕ → ℕ → List ℕ
  filled_at has enables piece =
      if has then filter (is_enabled enables) (numbers (piece * target.word_bytes) target.word_bytes)
      else if list_any (is_enabled enables) (numbers (piece * target.word_bytes) target.word_bytes) then numbers (piece * target.word_bytes) target.word_bytes
      else []

  wide_filled : (piece : ℕ) → filled_of_piece wide target beat.enables piece ≡ filled_at target.has_enables beat.enables piece
  wide_filled piece = let least : min wide.word_bytes target.word_bytes ≡ target.word_bytes = omega arith in rw least refl

  narrow_filled : (enables : ℕ) → filled_lanes narrow target enables ≡ filled_at target.has_enables enables 0
  narrow_filled enables =
      let least : min narrow.word_bytes target.word_bytes ≡ target.word_bytes = omega (arith, same_words) in
      ap (λ n. flat_map (filled_of_piece narrow target enables) (numbers 0 n)) narrow_pieces ∙ append-nil _ ∙ rw least refl

  lanes_agree : (piece i : ℕ) → i < target.word_bytes →
      (is_enabled beat.enables (piece * target.word_bytes + i) ≡ is_enabled (piece_of target.word_bytes beat piece).enables (0 * target.word_bytes + i))
      × (operation_at span beat (piece * target.word_bytes + i) ≡ operation_at span (piece_of target.word_bytes beat piece) (0 * target.word_bytes + i))
  lanes_agree piece i h =
      let at : 0 * target.word_bytes + i ≡ i = ap (λ n. n + i) (zero-mul target.word_bytes) ∙ omega arith in
      let there : beat.address + (piece * target.word_bytes + i) ≡ (beat.address + piece * target.word_bytes) + i = omega arith in
      rw at (
        ap (λ n. nat_eq n 1) (sym (digit_of_piece 2 beat.enables (piece * target.word_bytes) target.word_bytes i (omega arith) h)),
        ap₂ (λ a byte. operation_of_kind beat.kind (a % span) byte) there (sym (digit_of_piece 256 beat.word (piece * target.word_bytes) target.word_bytes i (omega arith) h)),
      )

  one_piece : (piece : ℕ) → map (operation_at span beat) (filled_of_piece wide target beat.enables piece) ≡ operations_of narrow target span (piece_of target.word_bytes beat piece)
  one_piece piece =
      let agree = same_lanes (is_enabled beat.enables) (is_enabled (piece_of target.word_bytes beat piece).enables) (operation_at span beat) (operation_at span (piece_of target.word_bytes beat piece))
      target.word_bytes (piece * target.word_bytes) (0 * target.word_bytes) (lanes_agree piece) in
      ap (map (operation_at span beat)) (wide_filled piece) ∙ filled_agree (is_enabled beat.enables) (is_enabled (piece_of target.word_bytes beat piece).enables) (operation_at span beat) (operation_at span (piece_of target.word_bytes beat piece))
      (numbers (piece * target.word_bytes) target.word_bytes) (numbers (0 * target.word_bytes) target.word_bytes) target.has_enables agree ∙ sym (ap (map (operation_at span (piece_of target.word_bytes beat piece))) (narrow_filled (piece_of target.word_bytes beat piece).enables))

  -- a wide beat has the operations of its pieces, in order
  pub beat_is_pieces : operations_of wide target span beat ≡ flat_map (λ piece. operations_of narrow target span (piece_of target.word_bytes beat piece)) (numbers 0 (pieces wide target))
  beat_is_pieces = map_flat (operation_at span beat) (filled_of_piece wide target beat.enables) (λ piece. operations_of narrow target span (piece_of target.word_bytes beat piece)) one_piece (numbers 0 (pieces wide target))

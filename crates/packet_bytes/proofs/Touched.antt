-- The bytes of enabled lanes are those from the first lane on.
use Rattle.std.proofs.Common.{◌≡◌, ℕ, zero, suc, ◌+◌, ◌-◌, ◌*◌, ◌≤◌, inl, inr, cond, true, false, List, [], ◌∷◌, ◌++◌, length, take, drop, refl, sym, ap, ◌∙◌, append_assoc, arith}
use Rattle.std.specs.Prelude.{nat_le, nat_lt, ◌&&◌}
use Rattle.std.specs.Int.{byte_at, bytes_low_first}
use Rattle.std.proofs.lemmas.Bool.Decides.{nat_tests, leb_tells}
use Rattle.packet_bytes.specs.Codes.{size_in}
use Rattle.packet_bytes.specs.Commands.{first_lane, is_touched}
use Rattle.packet_bytes.specs.Answers.{bytes_read, bytes_of}
use Rattle.packet_bytes.specs.Touched.{enabled_from, enabled_bytes}
use Rattle.packet_bytes.proofs.Answering.{length-bytes_low_first}

-- those of a list that stand between two places, where the first stands at this one
abbrev between : ℕ → ℕ → ℕ → List ℕ → List ℕ
between first last place [] = []
between first last place (x ∷ xs) = cond (nat_le first place && nat_lt place last) (x ∷ []) [] ++ between first last (place + 1) xs

between-append : (first last place : ℕ) (xs ys : List ℕ) → between first last place (xs ++ ys) ≡ between first last place xs ++ between first last (place + length xs) ys
between-append first last place [] ys = let e : place ≡ place + 0 = omega arith in ap (λ n. between first last n ys) e
between-append first last place (x ∷ xs) ys =
    let one = cond (nat_le first place && nat_lt place last) (x ∷ []) [] in
    let e : place + 1 + length xs ≡ place + suc (length xs) = omega arith in
    ap (λ rest. one ++ rest) (between-append first last (place + 1) xs ys) ∙ sym (append_assoc one (between first last (place + 1) xs) (between first last (place + 1 + length xs) ys))
    ∙ ap (λ n. (one ++ between first last (place + 1) xs) ++ between first last n ys) e

abbrev nothing : List ℕ
nothing = []

none_taken : (count : ℕ) → nothing ≡ take count nothing
none_taken zero = refl
none_taken (suc count) = refl

none_left : (count place : ℕ) → nothing ≡ take count (drop place nothing)
none_left count zero = none_taken count
none_left count (suc place) = none_taken count

-- behind the first place
from_within : (first size place : ℕ) (xs : List ℕ) → first ≤ place → between first (first + size) place xs ≡ take (first + size - place) xs
from_within first size place [] l = none_taken (first + size - place)
from_within first size place (x ∷ xs) l = elim (leb_tells (first + size) place) [
  | inl h ↦ (
      let past = h.1 in
      let no : (nat_le first place && nat_lt place (first + size)) ≡ false = grind (arith, nat_tests) in
      let none : first + size - (place + 1) ≡ 0 = omega arith in
      let nothing : first + size - place ≡ 0 = omega arith in
      ap (λ b. cond b (x ∷ []) [] ++ between first (first + size) (place + 1) xs) no ∙ from_within first size (place + 1) xs (omega arith) ∙ ap (λ n. take n xs) none ∙ ap (λ n. take n (x ∷ xs)) (sym nothing)
      )
  | inr h ↦ (
      let inside = h.1 in
      let yes : (nat_le first place && nat_lt place (first + size)) ≡ true = grind (arith, nat_tests) in
      let more : suc (first + size - (place + 1)) ≡ first + size - place = omega arith in
      ap (λ b. cond b (x ∷ []) [] ++ between first (first + size) (place + 1) xs) yes ∙ ap (λ rest. x ∷ rest) (from_within first size (place + 1) xs (omega arith)) ∙ ap (λ n. take n (x ∷ xs)) more
      )
]

-- and before it
from_before : (first size place : ℕ) (xs : List ℕ) → place ≤ first → between first (first + size) place xs ≡ take size (drop (first - place) xs)
from_before first size place [] l = none_left size (first - place)
from_before first size place (x ∷ xs) l = elim (leb_tells first place) [
  | inl h ↦ (
      let at = h.1 in
      let e : first + size - place ≡ size = omega arith in
      let none : first - place ≡ 0 = omega arith in
      from_within first size place (x ∷ xs) at ∙ ap (λ n. take n (x ∷ xs)) e ∙ ap (λ n. take size (drop n (x ∷ xs))) (sym none)
      )
  | inr h ↦ (
      let past = h.1 in
      let no : (nat_le first place && nat_lt place (first + size)) ≡ false = grind (arith, nat_tests) in
      let less : suc (first - (place + 1)) ≡ first - place = omega arith in
      ap (λ b. cond b (x ∷ []) [] ++ between first (first + size) (place + 1) xs) no ∙ from_before first size (place + 1) xs (omega arith) ∙ ap (λ n. take size (drop n (x ∷ xs))) less
      )
]

lanes_between : (word_bytes : ℕ) (bytes : List ℕ) (word value lane count : ℕ)
    → enabled_from word_bytes bytes word value lane count ≡ between (first_lane word_bytes bytes) (first_lane word_bytes bytes + size_in bytes) (word * word_bytes + lane) (bytes_low_first lane count value)
lanes_between word_bytes bytes word value lane zero = refl
lanes_between word_bytes bytes word value lane (suc count) =
    let first = first_lane word_bytes bytes in
    let one = cond (is_touched word_bytes bytes word lane) (byte_at lane value ∷ []) [] in
    let e : word * word_bytes + suc lane ≡ word * word_bytes + lane + 1 = omega arith in
    ap (λ rest. one ++ rest) (lanes_between word_bytes bytes word value (suc lane) count ∙ ap (λ n. between first (first + size_in bytes) n (bytes_low_first (suc lane) count value)) e)

words_between : (word_bytes : ℕ) (bytes : List ℕ) (word : ℕ) (words : List ℕ)
    → enabled_bytes word_bytes bytes word words ≡ between (first_lane word_bytes bytes) (first_lane word_bytes bytes + size_in bytes) (word * word_bytes) (bytes_of word_bytes words)
words_between word_bytes bytes word [] = refl
words_between word_bytes bytes word (value ∷ rest) =
    let first = first_lane word_bytes bytes in
    let last = first + size_in bytes in
    let lanes = bytes_low_first 0 word_bytes value in
    let here : word * word_bytes + 0 ≡ word * word_bytes = omega arith in
    let there : (word + 1) * word_bytes ≡ word * word_bytes + word_bytes = omega arith in
    ap (λ xs. xs ++ enabled_bytes word_bytes bytes (word + 1) rest) (lanes_between word_bytes bytes word value 0 word_bytes ∙ ap (λ n. between first last n lanes) here)
    ∙ ap (λ xs. between first last (word * word_bytes) lanes ++ xs)
    (words_between word_bytes bytes (word + 1) rest ∙ ap (λ n. between first last n (bytes_of word_bytes rest)) (there ∙ ap (λ n. word * word_bytes + n) (sym (length-bytes_low_first 0 word_bytes value))))
    ∙ sym (between-append first last (word * word_bytes) lanes (bytes_of word_bytes rest))

pub enabled_are_read : (word_bytes : ℕ) (bytes words : List ℕ) → enabled_bytes word_bytes bytes 0 words ≡ bytes_read word_bytes bytes (bytes_of word_bytes words)
enabled_are_read word_bytes bytes words =
    let first = first_lane word_bytes bytes in
    let none : 0 * word_bytes ≡ 0 = omega arith in
    let same : first - 0 ≡ first = omega arith in
    words_between word_bytes bytes 0 words ∙ ap (λ n. between first (first + size_in bytes) n (bytes_of word_bytes words)) none
    ∙ from_before first (size_in bytes) 0 (bytes_of word_bytes words) (omega arith) ∙ ap (λ n. take (size_in bytes) (drop n (bytes_of word_bytes words))) same

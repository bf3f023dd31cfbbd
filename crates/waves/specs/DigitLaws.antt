-- Laws of numbers that digits write. No contract reads a proof of theirs; the crates above cite them.
use Rattle.std.proofs.Common.{◌≡◌, ℕ, ◌+◌, ◌*◌, ◌^◌, ◌<◌, ◌≤◌, List, ◌∷◌, length, drop, get_or, true, refl, sym, ap, subst, ◌∙◌, arith}
use Rattle.std.specs.List.{list_all}
use Rattle.std.proofs.lemmas.Bool.{and_parts}
use Rattle.std.proofs.lemmas.List.{drop_more}
use Rattle.waves.specs.Digits.{is_decimal, is_digit, digit_value, number_behind}
use Rattle.std.proofs.Math.Pow.{pow_mono}
use Rattle.std.proofs.lemmas.Nat.{pow-add}

pub sixteen : (k : ℕ) → 2 ^ (4 * (k + 1)) ≡ 16 * 2 ^ (4 * k)
sixteen k = let e : 4 * (k + 1) ≡ 4 + 4 * k = omega arith in rw e (pow-add 2 4 (4 * k))

pub one_more : (n d k : ℕ) → n < 2 ^ (4 * k) → d < 16 → n * 16 + d < 2 ^ (4 * (k + 1))
one_more n d k h s = rw (sixteen k) (omega arith)

pub within : (n d k : ℕ) → n < 2 ^ (4 * k) → d < 16 → k < 32 → n * 16 + d < 2 ^ 128
within n d k h s l =
    let more = one_more n d k h s in
    let top : 2 ^ (4 * (k + 1)) ≤ 2 ^ 128 = pow_mono {i = 4 * (k + 1)} {j = 128} (omega arith) in
    omega arith

-- a digit more
pub next_digit : (text : List ℕ) (i n d : ℕ) → i < length text → number_behind 16 0 text ≡ number_behind 16 n (drop i text)
    → list_all is_digit (drop i text) ≡ true
    → n < 2 ^ (4 * i) → d ≡ digit_value (get_or text i 0) → d < 16
    → (number_behind 16 0 text ≡ number_behind 16 (n * 16 + d) (drop (i + 1) text))
    × (list_all is_digit (drop (i + 1) text) ≡ true) × (n * 16 + d < 2 ^ (4 * (i + 1)))
next_digit text i n d lt e a l v s =
    let at : drop i text ≡ get_or text i 0 ∷ drop (i + 1) text = drop_more text i 0 lt in
    let all : list_all is_digit (get_or text i 0 ∷ drop (i + 1) text) ≡ true = subst (λ xs. list_all is_digit xs ≡ true) at a in (
      e ∙ ap (number_behind 16 n) at
          ∙ ap (λ v. number_behind 16 (n * 16 + v) (drop (i + 1) text)) (sym v),
      (and_parts (is_digit (get_or text i 0)) _ all).1,
      one_more n d i l s,
    )

-- decimal digits write no more than as many hexadecimal ones
pub within_twenty : (n d k : ℕ) → n < 2 ^ (4 * k) → d < 16 → k < 5 → n * 10 + d < 2 ^ 20
within_twenty n d k h s l =
    let more = one_more n d k h s in
    let top : 2 ^ (4 * (k + 1)) ≤ 2 ^ 20 = pow_mono {i = 4 * (k + 1)} {j = 20} (omega arith) in
    omega arith

pub decimal_is_digit : (text : List ℕ) (i : ℕ) → i < length text → list_all is_decimal (drop i text) ≡ true
    → is_digit (get_or text i 0) ≡ true
decimal_is_digit text i lt a =
    let all : list_all is_decimal (get_or text i 0 ∷ drop (i + 1) text) ≡ true = subst
    (λ xs. list_all is_decimal xs ≡ true) (drop_more text i 0 lt) a in
    let first : is_decimal (get_or text i 0) ≡ true = (and_parts (is_decimal (get_or text i 0)) _ all).0 in
    rw first refl

pub next_decimal : (text : List ℕ) (i n d : ℕ) → i < length text → number_behind 10 0 text ≡ number_behind 10 n (drop i text)
    → list_all is_decimal (drop i text) ≡ true
    → n < 2 ^ (4 * i) → d ≡ digit_value (get_or text i 0) → d < 16
    → (number_behind 10 0 text ≡ number_behind 10 (n * 10 + d) (drop (i + 1) text))
    × (list_all is_decimal (drop (i + 1) text) ≡ true) × (n * 10 + d < 2 ^ (4 * (i + 1)))
next_decimal text i n d lt e a l v s =
    let at : drop i text ≡ get_or text i 0 ∷ drop (i + 1) text = drop_more text i 0 lt in
    let all : list_all is_decimal (get_or text i 0 ∷ drop (i + 1) text) ≡ true = subst
    (λ xs. list_all is_decimal xs ≡ true) at a in
    let more = one_more n d i l s in (
      e ∙ ap (number_behind 10 n) at
          ∙ ap (λ v. number_behind 10 (n * 10 + v) (drop (i + 1) text)) (sym v),
      (and_parts (is_decimal (get_or text i 0)) _ all).1,
      omega arith,
    )

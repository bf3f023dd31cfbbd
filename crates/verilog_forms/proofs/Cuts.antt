-- What begins two equal texts.
use Rattle.std.proofs.Common.{◌≡◌, ℕ, ◌<◌, ◌^◌, Bool, true, false, not, List, [], ◌∷◌, ◌++◌, length, take, drop, take_at, drop_at, refl, sym, ap, ◌∙◌, arith, decimal}
use Rattle.std.specs.List.{list_all, prefix_len}
use Rattle.std.specs.Char.{is_digit}
use Rattle.std.specs.Str.Parse.{AllDigits, digits_value}
use Rattle.std.proofs.lemmas.Bool.{and_parts, lt-ltb, ltb-true, not-true}
use Rattle.std.proofs.lemmas.Fmt.{decimal_is_IsNumeral, decimal_injective}
use Rattle.verilog_forms.specs.Spellings.{stops, prefix_run, digit, decimal_passes}

abbrev pub first : List ℕ → ℕ
first [] = 0
first (b ∷ bs) = b

abbrev pub behind : List ℕ → List ℕ
behind [] = []
behind (b ∷ bs) = bs

pub record Cut (u v r s : List ℕ) : Type 0 where
  pub run : u ≡ v
  pub rest : r ≡ s

not_both : (b : Bool) → b ≡ true → not b ≡ true → ⊥
not_both b y n = let f : b ≡ false = not-true b n in cc

no_stop : {X : Type 0} (p : ℕ → Bool) (b : ℕ) → p b ≡ true → not (p b) ≡ true → X
no_stop p b y n = absurd (not_both (p b) y n)

-- equal texts that begin with runs of bytes that pass, up to one that doesn't
pub cut : (p : ℕ → Bool) (u v r s : List ℕ) → list_all p u ≡ true → list_all p v ≡ true → stops p r ≡ true → stops p s ≡ true → u ++ r ≡ v ++ s → Cut u v r s
cut p [] [] r s hu hv hr hs e = record { run = refl; rest = e }
cut p [] (y ∷ v) r s hu hv hr hs e = no_stop p y (and_parts (p y) (list_all p v) hv).0 (ap (stops p) (sym e) ∙ hr)
cut p (x ∷ u) [] r s hu hv hr hs e = no_stop p x (and_parts (p x) (list_all p u) hu).0 (ap (stops p) e ∙ hs)
cut p (x ∷ u) (y ∷ v) r s hu hv hr hs e =
    let below = cut p u v r s (and_parts (p x) (list_all p u) hu).1 (and_parts (p y) (list_all p v) hv).1 hr hs (ap behind e) in
    let head : x ≡ y = ap first e in
    record { run = ap (λ (b : ℕ). b ∷ u) head ∙ ap (λ (t : List ℕ). y ∷ t) below.run; rest = below.rest }

-- a number, and the text behind its digits
pub record Number : Type 0 where
  pub value : ℕ
  pub rest : List ℕ

abbrev pub number : List ℕ → Number
number bytes = let k = prefix_len digit bytes in record { value = digits_value 10 (take k bytes); rest = drop k bytes }

abbrev pub numbered : ℕ → List ℕ → Number
numbered n rest = record { value = n; rest = rest }

pub number_reads : (n : ℕ) (r : List ℕ) → n < 2 ^ 64 → stops digit r ≡ true → number (decimal n ++ r) ≡ numbered n r
number_reads n r h stop =
    let run = prefix_run digit (decimal n) r (decimal_passes n h) stop in
    rw (run, take_at (decimal n) r (length (decimal n)) refl, drop_at (decimal n) r (length (decimal n)) refl, (decimal_is_IsNumeral n h).1) refl

-- equal texts that begin with numbers
pub record Numbers (m n : ℕ) (r s : List ℕ) : Type 0 where
  pub same : m ≡ n
  pub rest : r ≡ s

pub cut_numbers : (m n : ℕ) (r s : List ℕ) → m < 2 ^ 64 → n < 2 ^ 64 → stops digit r ≡ true → stops digit s ≡ true → decimal m ++ r ≡ decimal n ++ s → Numbers m n r s
cut_numbers m n r s hm hn hr hs e =
    let c = cut digit (decimal m) (decimal n) r s (decimal_passes m hm) (decimal_passes n hn) hr hs e in
    record { same = decimal_injective m n hm hn c.run; rest = c.rest }

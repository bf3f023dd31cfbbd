-- The numbers on the nets of a channel.
use Rattle.std.proofs.Common.{◌≡◌, ℕ, zero, suc, ◌-◌, ◌^◌, ◌<◌, Bool, true, false, not, ◌&&◌, ◌||◌, ◌==◌, nat_lt, nat_le, if◌then◌else◌, bit_and, refl, ap, ◌∙◌, arith}
use Rattle.std.proofs.lemmas.Bool.{ltb-true, ltb-false, le-leb, lt-leb}

-- valid where a test lets it through
pub shown_where : (t : Bool) (v : ℕ) → ((if t then v else 0) == 1) ≡ ((v == 1) && t)
shown_where t v = by_test t (v == 1) refl
  where
    by_test : (t s : Bool) → (v == 1) ≡ s → ((if t then v else 0) == 1) ≡ (s && t)
    by_test true true e = e
    by_test true false e = e
    by_test false true e = refl
    by_test false false e = refl

pub or_none : (t s : Bool) → t ≡ (t || (false && s))
or_none true s = refl
or_none false s = refl

pub le_not_lt : (a b : ℕ) → nat_le a b ≡ not (nat_lt b a)
le_not_lt a b = by_test (nat_lt b a) refl
  where
    by_test : (t : Bool) → nat_lt b a ≡ t → nat_le a b ≡ not t
    by_test true above = lt-leb a b (ltb-true b a above)
    by_test false within = le-leb a b (ltb-false b a within)

and_none : (v : ℕ) → v < 2 → bit_and v 0 ≡ 0
and_none zero h = refl
and_none (suc zero) h = refl
and_none (suc (suc v)) h = absurd (omega arith)

and_one : (v : ℕ) → v < 2 → bit_and v 1 ≡ v
and_one zero h = refl
and_one (suc zero) h = refl
and_one (suc (suc v)) h = absurd (omega arith)

-- valid gated by an inverted bit
pub gated : (valid above within shown width : ℕ) (t : Bool) → above ≡ (if t then 1 else 0) → width ≡ 1 → within ≡ 2 ^ width - 1 - above → shown ≡ bit_and valid within → valid < 2 → shown ≡ (if not t then valid else 0)
gated valid above within shown width true a w is e h = e ∙ ap (bit_and valid) (is ∙ ap (λ n. 2 ^ n - 1 - above) w ∙ ap (λ n. 2 ^ 1 - 1 - n) a) ∙ and_none valid h
gated valid above within shown width false a w is e h = e ∙ ap (bit_and valid) (is ∙ ap (λ n. 2 ^ n - 1 - above) w ∙ ap (λ n. 2 ^ 1 - 1 - n) a) ∙ and_one valid h

pub bit_of_test : (t : Bool) → ((if t then 1 else 0) == 1) ≡ t
bit_of_test true = refl
bit_of_test false = refl

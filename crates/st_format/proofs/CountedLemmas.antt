-- What choices of nets make of counts.
use Rattle.std.proofs.Common.{◌≡◌, ℕ, ◌+◌, ◌-◌, ◌%◌, ◌^◌, ◌<◌, ◌≤◌, Bool, true, false, ◌==◌, nat_lt, if◌then◌else◌, refl, ap, ◌∙◌, arith}
use Rattle.std.proofs.lemmas.Bool.{ltb-false}
use Rattle.std.proofs.Math.Nat.{add-mod_right, mod-eq_of_lt}
use Rattle.stage_core.specs.Groups.{Shown}
use Rattle.net_parts.specs.Bits.{chosen_high}
use Rattle.st_format.specs.Counted.{counted}

-- a bit that says what a test says
pub test_high : (t : Bool) (n : ℕ) → n ≡ (if t then 1 else 0) → (n == 1) ≡ t
test_high true n e = ap (λ k. k == 1) e
test_high false n e = ap (λ k. k == 1) e

pub counted_shown : (count : ℕ) (x y : Shown) (own none empty : ℕ) → x ≡ y → y.beat.last < 2 → own ≡ y.beat.empty % 2 ^ count → none ≡ 0 → empty ≡ (if y.beat.last == 0 then none else own) →
    (record { valid = x.valid; beat = record { word = x.beat.word; channel = x.beat.channel; error = x.beat.error; first = x.beat.first; last = x.beat.last; empty = empty } }) ≡ counted count y
counted_shown count x y own none empty same small is zeroed e =
    let chosen : empty ≡ (if y.beat.last == 1 then y.beat.empty % 2 ^ count else 0) = e ∙ chosen_high y.beat.last own none small ∙ ap (λ n. if y.beat.last == 1 then n else none) is ∙ ap (λ n. if y.beat.last == 1 then y.beat.empty % 2 ^ count else n) zeroed in
    ap (λ (z : Shown). record z { beat = record z.beat { empty = empty } }) same ∙ ap (λ n. record y { beat = record y.beat { empty = n } }) chosen

-- 0 where the bit is high
pub none_where : (more none n e : ℕ) → more < 2 → none ≡ 0 → e ≡ (if more == 0 then n else none) → e ≡ (if more == 1 then 0 else n)
none_where more none n e small zeroed is = is ∙ chosen_high more none n small ∙ ap (λ k. if more == 1 then k else n) zeroed

-- what is left of a count, where it is as large as another
pub left_where : (w more count behind left none e k : ℕ) → count < 2 ^ w → more < 2 → (more == 1) ≡ nat_lt count k → behind ≡ k → left ≡ (count + (2 ^ w - behind)) % 2 ^ w → none ≡ 0 → e ≡ (if more == 0 then left else none) →
    e ≡ (if nat_lt count k then 0 else count - k)
left_where w more count behind left none e k below small follows is gone zeroed chosen =
    let now : e ≡ (if nat_lt count k then 0 else left) = none_where more none left e small zeroed chosen ∙ ap (λ t. if t then 0 else left) follows in
    now ∙ by_test (nat_lt count k) refl (gone ∙ ap (λ n. (count + (2 ^ w - n)) % 2 ^ w) is)
  where
    -- a difference that doesn't wrap
    taken : k ≤ count → (count + (2 ^ w - k)) % 2 ^ w ≡ count - k
    taken most =
        let sum : count + (2 ^ w - k) ≡ count - k + 2 ^ w = omega (arith, most, below) in
        ap (λ n. n % 2 ^ w) sum ∙ add-mod_right (count - k) (2 ^ w) ∙ mod-eq_of_lt (omega (arith, below))

    by_test : (t : Bool) → nat_lt count k ≡ t → left ≡ (count + (2 ^ w - k)) % 2 ^ w → (if t then 0 else left) ≡ (if t then 0 else count - k)
    by_test true e is = refl
    by_test false e is = is ∙ taken (ltb-false count k e)

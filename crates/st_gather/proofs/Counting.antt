-- Counts side by side, and what a count comes to.
use Rattle.std.specs.Prelude.{ℕ, zero, suc, ◌+◌, ◌-◌, ◌*◌, ◌/◌, ◌%◌, ◌^◌, ◌<◌, ◌≤◌, ◌≡◌, ◌⊎◌, Bool, true, false, ◌&&◌, ◌==◌, if◌then◌else◌}
use Rattle.std.proofs.Common.{refl, sym, ap, ◌∙◌, inl, inr, arith, subst}
use Rattle.std.proofs.lemmas.Bool.{cases_Bool, cases_lt, cond-true, cond-false, eqb-true, eqb-false, ne_eqb, eq-eqb}
use Rattle.std.proofs.lemmas.Nat.{field_of, mod-pow-add, pow_pos, pow-add, div-mul-add, mod-mul-add}
use Rattle.std.proofs.Math.Nat.{mod-lt, mod-eq_of_lt}
use Rattle.std.proofs.Math.Pow.{mod-mod-pow}
use Rattle.netlist.specs.Nets.{NetValue}
use Rattle.netlist.specs.Runs.{Cycle}
use Rattle.net_parts.specs.Bits.{chosen_high}
use Rattle.st_gather.specs.Counts.{field, Picks, AreLater}

-- twice as many numbers with one bit more
pub two_halves : (b : ℕ) → 2 ^ suc b ≡ 2 ^ b + 2 ^ b
two_halves b =
    let one : suc b ≡ b + 1 = omega arith in
    ap (λ n. 2 ^ n) one ∙ pow-add 2 b 1 ∙ omega arith

two_fits : (b : ℕ) → 2 ^ suc b ≡ 2 ^ (1 + b)
two_fits b = let same : suc b ≡ 1 + b = omega arith in ap (λ n. 2 ^ n) same

-- ---- one of several

module _ (value : ℕ → ℕ) (index b from count : ℕ) where
  -- a bit less tells as many apart as it has numbers
  pub picks_fewer : (item : ℕ) → count ≤ 2 ^ b → Picks value index b from count item → Picks value index (suc b) from count item
  picks_fewer item few picks k below is =
      picks k below
      (sym (mod-mod-pow index 1 b) ∙ ap (λ n. index % n % 2 ^ b) (sym (two_fits b)) ∙ ap (λ n. n % 2 ^ b) is ∙ mod-eq_of_lt (omega (arith, below, few)))

  -- the highest bit tells both halves apart
  pub picks_halves : (bit low high item : ℕ) → bit ≡ index / 2 ^ b % 2 ^ 1 → item ≡ (if bit == 0 then low else high)
      → Picks value index b from (2 ^ b) low → Picks value index b (from + 2 ^ b) (count - 2 ^ b) high → Picks value index (suc b) from count item
  picks_halves bit low high item bit_is chosen in_front in_back k below is = by_bit (cases_Bool (bit == 0))
    where
      parts : k ≡ (index / 2 ^ b % 2 ^ 1) * 2 ^ b + index % 2 ^ b
      parts = sym is ∙ ap (λ n. index % n) (two_fits b) ∙ mod-pow-add index 1 b

      inner : index % 2 ^ b < 2 ^ b
      inner = mod-lt index (pow_pos b)

      by_bit : ((bit == 0) ≡ true) ⊎ ((bit == 0) ≡ false) → item ≡ value (from + k)
      by_bit (inl zero_bit) =
          let none : bit ≡ 0 = eqb-true _ _ zero_bit in
          let here : k ≡ index % 2 ^ b = parts ∙ ap (λ n. n * 2 ^ b + index % 2 ^ b) (sym bit_is ∙ none) ∙ omega arith in
          chosen ∙ cond-true (bit == 0) _ _ zero_bit ∙ in_front k (omega (arith, here, inner)) (sym here)
      by_bit (inr one_bit) =
          let some = eqb-false _ _ one_bit in
          let few : index / 2 ^ b % 2 ^ 1 < 2 ^ 1 = mod-lt (index / 2 ^ b) (pow_pos 1) in
          let one : index / 2 ^ b % 2 ^ 1 ≡ 1 = omega (arith, few, some, bit_is) in
          let there : k ≡ 2 ^ b + index % 2 ^ b = parts ∙ ap (λ n. n * 2 ^ b + index % 2 ^ b) one ∙ omega arith in
          let place : from + 2 ^ b + index % 2 ^ b ≡ from + k = omega (arith, there) in
          chosen ∙ cond-false (bit == 0) _ _ one_bit ∙ in_back (index % 2 ^ b) (omega (arith, there, below)) refl ∙ ap value place

-- ---- side by side

-- a part below those above it
field_below : (bits count number parts : ℕ) → number < count → field bits number (parts % 2 ^ (bits * count)) ≡ field bits number parts
field_below bits count number parts h =
    ap (λ n. parts % 2 ^ n / 2 ^ (bits * number) % 2 ^ bits) width
    ∙ ap (λ n. n % 2 ^ bits) (field_of parts (bits * rest + bits) (bits * number))
    ∙ mod-mod-pow (parts / 2 ^ (bits * number)) (bits * rest) bits
  where
    rest : ℕ
    rest = count - number - 1

    width : bits * count ≡ bits * rest + bits + bits * number
    width = let whole : count ≡ rest + 1 + number = omega (arith, h) in ap (λ n. bits * n) whole ∙ omega arith

pub field_lower : (bits count number high low : ℕ) → low < 2 ^ (bits * count) → number < count → field bits number (high * 2 ^ (bits * count) + low) ≡ field bits number low
field_lower bits count number high low fits h =
    sym (field_below bits count number (high * 2 ^ (bits * count) + low) h) ∙ ap (λ n. field bits number n) (mod-mul-add high (2 ^ (bits * count)) low fits)

pub field_highest : (bits count high low : ℕ) → low < 2 ^ (bits * count) → high < 2 ^ bits → field bits count (high * 2 ^ (bits * count) + low) ≡ high
field_highest bits count high low fits small =
    ap (λ n. n % 2 ^ bits) (div-mul-add high (2 ^ (bits * count)) low fits) ∙ mod-eq_of_lt small

-- a part that is alone
pub field_alone : (bits parts : ℕ) → parts < 2 ^ bits → field bits 0 parts ≡ parts
field_alone bits parts fits =
    let none : bits * 0 ≡ 0 = omega arith in
    let whole : parts / 2 ^ 0 ≡ parts = omega arith in
    ap (λ n. parts / 2 ^ n % 2 ^ bits) none ∙ ap (λ n. n % 2 ^ bits) whole ∙ mod-eq_of_lt fits

pub field_none : (bits number : ℕ) → field bits number 0 ≡ 0
field_none bits number = let some = pow_pos (bits * number) in let more = pow_pos bits in ap (λ n. n % 2 ^ bits) (zero_over (2 ^ (bits * number)) some) ∙ mod-eq_of_lt more
  where
    zero_over : (n : ℕ) → 0 < n → 0 / n ≡ 0
    zero_over n some = let e = div-mul-add 0 n 0 some in let whole : 0 * n + 0 ≡ 0 = omega arith in ap (λ m. m / n) (sym whole) ∙ e

-- with one more above
pub later_more : (counts moves channel next : NetValue) (bits count : ℕ) (lower later : NetValue) (cycle : Cycle) (highest : ℕ) → cycle.net lower.number < 2 ^ (bits * count) → highest < 2 ^ bits
    → cycle.net later.number ≡ highest * 2 ^ (bits * count) + cycle.net lower.number
    → highest ≡ (if (cycle.net moves.number == 1) && (cycle.net channel.number == count) then cycle.net next.number else field bits count (cycle.net counts.number))
    → AreLater counts moves channel next bits count lower cycle → AreLater counts moves channel next bits (count + 1) later cycle
later_more counts moves channel next bits count lower later cycle highest fits small is here was k below = by_place (cases_lt k count)
  where
    by_place : (k < count) ⊎ (count ≤ k) → field bits k (cycle.net later.number) ≡ (if (cycle.net moves.number == 1) && (cycle.net channel.number == k) then cycle.net next.number else field bits k (cycle.net counts.number))
    by_place (inl less) = ap (λ n. field bits k n) is ∙ field_lower bits count k highest (cycle.net lower.number) fits less ∙ was k less
    by_place (inr more) =
        let same : count ≡ k = omega (arith, below, more) in
        subst (λ n. field bits n (cycle.net later.number) ≡ (if (cycle.net moves.number == 1) && (cycle.net channel.number == n) then cycle.net next.number else field bits n (cycle.net counts.number))) same
        (ap (λ n. field bits count n) is ∙ field_highest bits count highest (cycle.net lower.number) fits small ∙ here)

-- the only one
pub later_one : (counts moves channel next : NetValue) (bits count highest : ℕ) (later : NetValue) (cycle : Cycle) → count ≡ highest + 1 → highest ≡ 0 → cycle.net later.number < 2 ^ bits
    → cycle.net later.number ≡ (if (cycle.net moves.number == 1) && (cycle.net channel.number == highest) then cycle.net next.number else field bits highest (cycle.net counts.number))
    → AreLater counts moves channel next bits count later cycle
later_one counts moves channel next bits count highest later cycle one low fits is k below =
    let same : highest ≡ k = omega (arith, one, low, below) in
    subst (λ n. field bits n (cycle.net later.number) ≡ (if (cycle.net moves.number == 1) && (cycle.net channel.number == n) then cycle.net next.number else field bits n (cycle.net counts.number))) same
    (ap (λ n. field bits n (cycle.net later.number)) low ∙ field_alone bits (cycle.net later.number) fits ∙ is)

-- the next count where a word moves, and else the one that was
pub later_here : (here kept next later was : ℕ) (test : Bool) → here < 2 → later ≡ (if here == 0 then kept else next) → (here == 1) ≡ test → kept ≡ was → later ≡ (if test then next else was)
later_here here kept next later was test small is tested same =
    is ∙ chosen_high here next kept small ∙ ap (λ t. if t then next else kept) tested ∙ ap (λ n. if test then next else n) same

pub one_fits : (bits : ℕ) → 1 ≤ bits → 1 < 2 ^ bits
one_fits zero some = absurd (omega (arith, some))
one_fits (suc bits) some = let half = pow_pos bits in let twice = two_halves bits in omega (arith, half, twice)

-- ---- a count goes on

-- the next word is the last one where the count is one below the parts
pub last_of : (parts count last : ℕ) → 2 ≤ parts → last ≡ (if count == parts - 1 then 1 else 0) → (last == 1) ≡ (count + 1 == parts)
last_of parts count last some is = by_test (cases_Bool (count == parts - 1))
  where
    by_test : ((count == parts - 1) ≡ true) ⊎ ((count == parts - 1) ≡ false) → (last == 1) ≡ (count + 1 == parts)
    by_test (inl holds) =
        let one : last ≡ 1 = is ∙ cond-true (count == parts - 1) 1 0 holds in
        let same = eqb-true _ _ holds in
        eq-eqb last 1 one ∙ sym (eq-eqb (count + 1) parts (omega (arith, some, same)))
    by_test (inr fails) =
        let none : last ≡ 0 = is ∙ cond-false (count == parts - 1) 1 0 fails in
        let apart = eqb-false _ _ fails in
        ne_eqb last 1 (omega (arith, none)) ∙ sym (ne_eqb (count + 1) parts (omega (arith, some, apart)))

-- below the parts it goes on without a carry
pub next_of : (parts bits count : ℕ) → count < parts → parts ≤ 2 ^ bits → (if count + 1 == parts then 0 else (count + 1) % 2 ^ bits) ≡ (if count + 1 == parts then 0 else count + 1)
next_of parts bits count few fits = by_test (cases_Bool (count + 1 == parts))
  where
    by_test : ((count + 1 == parts) ≡ true) ⊎ ((count + 1 == parts) ≡ false) → (if count + 1 == parts then 0 else (count + 1) % 2 ^ bits) ≡ (if count + 1 == parts then 0 else count + 1)
    by_test (inl holds) = cond-true (count + 1 == parts) 0 _ holds ∙ sym (cond-true (count + 1 == parts) 0 _ holds)
    by_test (inr fails) =
        let apart = eqb-false _ _ fails in
        ap (λ n. if count + 1 == parts then 0 else n) (mod-eq_of_lt (omega (arith, few, apart, fits)))

-- Bits that tests make, and small sums.
use Rattle.std.proofs.Common.{ℕ, zero, suc, ◌<◌, ◌≤◌, ◌≡◌, ◌+◌, ◌-◌, ◌*◌, ◌/◌, ◌%◌, ◌^◌, max, Bool, true, false, not, ◌&&◌, ◌||◌, if◌then◌else◌, ◌==◌, nat_eq, nat_lt, arith, refl, sym, ap, ap₂, subst, ◌∙◌}
use Rattle.std.proofs.lemmas.Bool.{eqb-true, eqb-false, eq-eqb, ne_eqb, lt-ltb, le-ltb, ltb-true, ltb-false}
use Rattle.std.proofs.lemmas.Nat.{pow-add, pow_pos}
use Rattle.std.proofs.Math.Nat.{mod-eq_of_lt, add-mod_right, max-eq_left, max-eq_right, div-lt_iff_lt-mul, div-eq_of_lt, mul_comm, mul-le-mul_left, mul-div_cancel_left}
use Rattle.net_parts.specs.Growth.{fit_nets}
use Rattle.std.proofs.Math.Pow.{pow_mono}
use Rattle.histories.specs.History.{is_raised, one_if}
use Rattle.command_nets.specs.Levels.{level_is}
use Rattle.command_nets.specs.Groups.{chosen_raised}
use Rattle.mm_split.specs.Pieces.{lane, is_marked}
use Rattle.mm_split.proofs.Numbers.{power_within}

pub some_or : (x one other : ℕ) → (if nat_lt 0 x then other else one) ≡ (if x == 0 then one else other)
some_or zero one other = refl
some_or (suc x) one other = let high : nat_lt 0 (suc x) ≡ true = lt-ltb 0 (suc x) (omega arith) in let some : (suc x == 0) ≡ false = ne_eqb (suc x) 0 (omega arith) in rw (high, some) refl

one_small : (b : Bool) → one_if b % 2 ^ 5 ≡ one_if b
one_small true = refl
one_small false = refl

pub least_or : (x : ℕ) (b : Bool) → (if nat_lt 0 x then x else one_if b % 2 ^ 5) ≡ (if x == 0 then one_if b else x)
least_or x b = some_or x (one_if b % 2 ^ 5) x ∙ ap (λ n. if x == 0 then n else x) (one_small b)

pub none_fits : (k : ℕ) → 0 < 2 ^ k
none_fits k = pow_pos k

pub greater_is : (x y : ℕ) → (if nat_lt x y then y else x) ≡ max x y
greater_is x y = by_test (nat_lt x y) refl
  where
    by_test : (b : Bool) → nat_lt x y ≡ b → (if b then y else x) ≡ max x y
    by_test true e = let less = ltb-true x y e in sym (max-eq_right (omega (arith, less)))
    by_test false e = let most = ltb-false x y e in sym (max-eq_left (omega (arith, most)))

quotient_fits : (a w k : ℕ) → a < 2 ^ w → k ≤ w → a / 2 ^ k < 2 ^ (w - k)
quotient_fits a w k fits within =
    let sum : w - k + k ≡ w = omega (arith, within) in
    let power : 2 ^ (w - k) * 2 ^ k ≡ 2 ^ w = sym (pow-add 2 (w - k) k) ∙ ap (λ n. 2 ^ n) sum in
    (div-lt_iff_lt-mul (pow_pos k)).1 (omega (arith, fits, power))

-- bits of a word that another word of so many bits replaces
pub replaced : (a w k : ℕ) (high offset net width : ℕ) → a < 2 ^ w → k ≤ w → (w ≡ k → ⊥) → width ≡ k → high ≡ a / 2 ^ k % 2 ^ (w - 1 - k + 1) → net ≡ high * 2 ^ width + offset → net ≡ a / 2 ^ k * 2 ^ k + offset
replaced a w k high offset net width fits within other wide is whole =
    let same : w - 1 - k + 1 ≡ w - k = omega (arith, other) in
    let top : a / 2 ^ k < 2 ^ (w - k) = quotient_fits a w k fits within in
    whole ∙ ap₂ (λ x y. x * 2 ^ y + offset) (is ∙ ap (λ n. a / 2 ^ k % 2 ^ n) same ∙ mod-eq_of_lt top) wide

pub bit_is : (x : ℕ) (b : Bool) → x < 2 → is_raised x ≡ b → x ≡ one_if b
bit_is x b small e = level_is x small ∙ ap one_if e

-- a place of a few bits in five bits
pub place_is : (bits place wide : ℕ) → bits ≤ 4 → place < 2 ^ bits → wide ≡ place % 2 ^ 5 → wide ≡ place
place_is bits place wide few small is = is ∙ mod-eq_of_lt (let most : 2 ^ bits ≤ 2 ^ 5 = pow_mono {j = 5} (omega (arith, few)) in omega (arith, small, most))

pub place_small : (bits place : ℕ) → bits ≤ 4 → place < 2 ^ bits → place < 16
place_small bits place few small = let most : 2 ^ bits ≤ 2 ^ 4 = pow_mono few in omega (arith, small, most)

less_one : (count : ℕ) → 1 ≤ count → count < 2 ^ 5 → (count + (2 ^ 5 - 1)) % 2 ^ 5 ≡ count - 1
less_one count some few = omega (arith, some, few)

last_of_five : (place parts : ℕ) → place < 16 → parts < 2 ^ 5 → nat_eq place ((parts + (2 ^ 5 - 1)) % 2 ^ 5) ≡ nat_eq (suc place) parts
last_of_five place parts small few = by_same (nat_eq (suc place) parts) refl
  where
    by_same : (b : Bool) → nat_eq (suc place) parts ≡ b → nat_eq place ((parts + (2 ^ 5 - 1)) % 2 ^ 5) ≡ b
    by_same true e = let same = eqb-true (suc place) parts e in eq-eqb _ _ (omega (arith, same, few))
    by_same false e = let apart = eqb-false (suc place) parts e in ne_eqb _ _ (λ same. apart (omega (arith, same, small, few)))

-- the last place of so many parts
pub last_place : (width place parts : ℕ) → width ≡ 5 → place < 16 → parts < 2 ^ 5 → nat_eq place ((parts + (2 ^ width - 1)) % 2 ^ width) ≡ nat_eq (suc place) parts
last_place width place parts five small few = ap (λ w. nat_eq place ((parts + (2 ^ w - 1)) % 2 ^ w)) five ∙ last_of_five place parts small few

past_of_five : (place count : ℕ) → count < 2 ^ 5 → (nat_eq count 0 || not (nat_lt place ((count + (2 ^ 5 - 1)) % 2 ^ 5))) ≡ nat_lt count (suc (suc place))
past_of_five place count few = by_none (nat_eq count 0) refl
  where
    by_less : (b : Bool) → nat_lt place (count - 1) ≡ b → 1 ≤ count → not b ≡ nat_lt count (suc (suc place))
    by_less true e some = let less = ltb-true place (count - 1) e in sym (le-ltb count (suc (suc place)) (omega (arith, less)))
    by_less false e some = let most = ltb-false place (count - 1) e in sym (lt-ltb count (suc (suc place)) (omega (arith, most, some)))

    by_none : (b : Bool) → nat_eq count 0 ≡ b → (b || not (nat_lt place ((count + (2 ^ 5 - 1)) % 2 ^ 5))) ≡ nat_lt count (suc (suc place))
    by_none true e = let none = eqb-true count 0 e in sym (lt-ltb count (suc (suc place)) (omega (arith, none)))
    by_none false e =
        let apart = eqb-false count 0 e in
        let some : 1 ≤ count = omega (arith, apart) in
        ap (λ n. not (nat_lt place n)) (less_one count some few) ∙ by_less (nat_lt place (count - 1)) refl some

-- no place is left behind this one
pub past_last : (width place count : ℕ) → width ≡ 5 → count < 2 ^ 5 → (nat_eq count 0 || not (nat_lt place ((count + (2 ^ width - 1)) % 2 ^ width))) ≡ nat_lt count (suc (suc place))
past_last width place count five few = ap (λ w. nat_eq count 0 || not (nat_lt place ((count + (2 ^ w - 1)) % 2 ^ w))) five ∙ past_of_five place count few

pub low_address : (a w k x : ℕ) → a < 2 ^ w → w ≡ k → x ≡ a / 2 ^ k * 2 ^ k + x
low_address a w k x fits same = let none : a / 2 ^ k ≡ 0 = div-eq_of_lt (subst (λ n. a < 2 ^ n) same fits) in sym (ap (λ n. n * 2 ^ k + x) none ∙ omega arith)

pub fit_two : (bits wanted : ℕ) → fit_nets bits wanted ≤ 2
fit_two bits wanted = by_same (bits == wanted)
  where
    by_same : (b : Bool) → (if b then 0 else 2) ≤ 2
    by_same true = omega arith
    by_same false = omega arith

pub address_put : (a w k width low high offset net : ℕ) → width ≡ w → low ≡ k → a < 2 ^ w → k ≤ w → (width ≡ low → ⊥) → high ≡ a / 2 ^ low % 2 ^ (width - 1 - low + 1) → net ≡ high * 2 ^ k + offset → net ≡ a / 2 ^ k * 2 ^ k + offset
address_put a w k width low high offset net e f fits within apart is whole =
    replaced a w k high offset net k fits within (λ same. apart (e ∙ same ∙ sym f)) refl (is ∙ ap₂ (λ x y. a / 2 ^ y % 2 ^ (x - 1 - y + 1)) e f) whole

one_more : (limit count : ℕ) → count + 1 < limit → (count + 1) % limit ≡ suc count
one_more limit count few = mod-eq_of_lt {n = count + 1} {m = limit} few ∙ omega arith

-- the highest number more is one less
one_fewer : (limit count high : ℕ) → 1 ≤ count → count < limit → high + 1 ≡ limit → (count + high) % limit ≡ count - 1
one_fewer limit count high some few whole =
    let round : count + high ≡ (count - 1) + limit = omega (arith, some, whole) in
    ap (λ n. n % limit) round ∙ add-mod_right (count - 1) limit ∙ mod-eq_of_lt {n = count - 1} {m = limit} (omega (arith, some, few))

fewer_is : (some : Bool) (limit count high : ℕ) → nat_lt 0 count ≡ some → count < limit → high + 1 ≡ limit → (if some then (count + high) % limit else count) ≡ count - 1
fewer_is true limit count high e few whole = one_fewer limit count high (ltb-true 0 count e) few whole
fewer_is false limit count high e few whole = let none = ltb-false 0 count e in omega (arith, none)

moved : (limit count high : ℕ) (comes goes : Bool) → count + one_if comes < limit → high + 1 ≡ limit →
    (if (if comes then not goes else goes) && (comes || nat_lt 0 count) then (count + (if comes then 1 else high)) % limit else count) ≡ (count + one_if comes) - one_if goes
moved limit count high true true few whole = omega arith
moved limit count high true false few whole = one_more limit count few ∙ omega arith
moved limit count high false true few whole = fewer_is (nat_lt 0 count) limit count high refl (omega (arith, few)) whole ∙ omega arith
moved limit count high false false few whole = omega arith

-- one comes, one goes, or both
pub counted : (width bits count high : ℕ) (comes goes : Bool) → width ≡ bits → count + one_if comes < 2 ^ bits → high + 1 ≡ 2 ^ bits →
    (if (if comes then not goes else goes) && (comes || nat_lt 0 count) then (count + (if comes then 1 else high)) % 2 ^ width else count) ≡ (count + one_if comes) - one_if goes
counted width bits count high comes goes same few whole =
    ap (λ w. if (if comes then not goes else goes) && (comes || nat_lt 0 count) then (count + (if comes then 1 else high)) % 2 ^ w else count) same ∙ moved (2 ^ bits) count high comes goes few whole

-- ---- the places of a word's pieces

pub lanes_of_places : (pieces narrow bits lanes : ℕ) → pieces ≡ 2 ^ bits → pieces * narrow ≡ lanes → narrow * 2 ^ bits ≡ lanes
lanes_of_places pieces narrow bits lanes power whole = mul_comm narrow (2 ^ bits) ∙ ap (λ n. n * narrow) (sym power) ∙ whole

pub word_of_places : (pieces narrow bits lanes : ℕ) → pieces ≡ 2 ^ bits → pieces * narrow ≡ lanes → narrow * 8 * 2 ^ bits ≡ lanes * 8
word_of_places pieces narrow bits lanes power whole = let same = lanes_of_places pieces narrow bits lanes power whole in omega (arith, same)

pub taken_is : (bits word number : ℕ) → word / 2 ^ (bits * number) % 2 ^ bits ≡ lane bits word number
taken_is bits word number = ap (λ n. word / 2 ^ n % 2 ^ bits) (mul_comm bits number)

pub place_within : (pieces narrow bits wide : ℕ) → pieces ≡ 2 ^ bits → pieces * narrow ≡ 2 ^ wide → 1 ≤ narrow → bits ≤ wide
place_within pieces narrow bits wide power whole some = power_within bits wide (let least : pieces * 1 ≤ pieces * narrow = mul-le-mul_left pieces some in omega (arith, power, whole, least))

-- where a piece begins
pub narrow_power : (pieces narrow bits wide : ℕ) → pieces ≡ 2 ^ bits → pieces * narrow ≡ 2 ^ wide → bits ≤ wide → 2 ^ (wide - bits) ≡ narrow
narrow_power pieces narrow bits wide power whole within =
    let sum : bits + (wide - bits) ≡ wide = omega (arith, within) in
    let product : 2 ^ bits * 2 ^ (wide - bits) ≡ 2 ^ bits * narrow = sym (pow-add 2 bits (wide - bits)) ∙ ap (λ n. 2 ^ n) sum ∙ sym whole ∙ ap (λ n. n * narrow) power in
    sym (mul-div_cancel_left (2 ^ (wide - bits)) {n = 2 ^ bits} (pow_pos bits)) ∙ ap (λ n. n / 2 ^ bits) product ∙ mul-div_cancel_left narrow {n = 2 ^ bits} (pow_pos bits)

-- what is kept stays where all pieces are asked and the last one is
pub whole_chosen : (all : Bool) (set number last kept low net : ℕ) → all ≡ true → last ≡ lane 1 set number → net ≡ (if last == 0 then low else kept) → net ≡ (if all && is_marked set number then kept else low)
whole_chosen true set number last kept low net e is whole = whole ∙ chosen_raised last kept low ∙ ap (λ n. if is_raised n then kept else low) is
whole_chosen false set number last kept low net e is whole = cc

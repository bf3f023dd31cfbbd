-- Words that are filled piece by piece.
use Rattle.std.proofs.Common.{ℕ, zero, suc, ◌<◌, ◌≤◌, ◌≡◌, ◌+◌, ◌-◌, ◌*◌, ◌/◌, ◌%◌, ◌^◌, Bool, true, false, if◌then◌else◌, nat_eq, arith, refl, sym, ap, ap₂, ◌∙◌, add-mul, one-mul}
use Rattle.std.proofs.lemmas.Bool.{eqb-true, eqb-false}
use Rattle.std.proofs.lemmas.Nat.{pow-add, field_of, div-mul-add, pow_pos, mod-pow-add}
use Rattle.std.proofs.Math.Nat.{mod-lt, mod-eq_of_lt, mod-one, mul-le-mul_right}
use Rattle.mm_split.specs.Pieces.{lane, fill}
use Rattle.mm_split.proofs.Marks.{last_of, last_fits}
use Rattle.mm_split.proofs.Masks.{low_bits}

-- all pieces fill the wide word
pub whole_bits : (pieces bytes wide : ℕ) → 2 ≤ pieces → pieces * bytes ≡ wide → bytes * 8 + (pieces - 1) * (bytes * 8) ≡ wide * 8
whole_bits pieces bytes wide many whole =
    let sum = last_fits pieces (bytes * 8) (omega (arith, many)) in
    let turned : bytes * 8 + (pieces - 1) * (bytes * 8) ≡ (pieces - 1) * (bytes * 8) + bytes * 8 = omega arith in
    turned ∙ sum ∙ (let e : pieces * (bytes * 8) ≡ pieces * bytes * 8 = omega arith in e) ∙ ap (λ n. n * 8) whole

pub first_filled : (test : ℕ → Bool) (bits word piece count net : ℕ) → count ≡ 1 → net ≡ (if test (count - 1) then piece else lane bits word (count - 1)) → net ≡ fill test bits word piece count
first_filled test bits word piece count net one is =
    is ∙ ap (λ n. if test (n - 1) then piece else lane bits word (n - 1)) one ∙ alone (if test 0 then piece else lane bits word 0) ∙ sym (ap (fill test bits word piece) one)
  where
    alone : (x : ℕ) → x ≡ x * 2 ^ (0 * bits) + 0
    alone x = let e : 0 * bits ≡ 0 = omega arith in let unit : x ≡ x * 2 ^ 0 + 0 = omega arith in unit ∙ ap (λ n. x * 2 ^ n + 0) (sym e)

pub more_filled : (test : ℕ → Bool) (bits word piece count lane_net low width net : ℕ) → 1 ≤ count →
    lane_net ≡ (if test (count - 1) then piece else lane bits word (count - 1)) → low ≡ fill test bits word piece (count - 1) → width ≡ (count - 1) * bits → net ≡ lane_net * 2 ^ width + low → net ≡ fill test bits word piece count
more_filled test bits word piece count lane_net low width net some is below wide whole =
    whole ∙ ap₂ (λ x y. x * 2 ^ y + low) is wide ∙ ap (λ n. (if test (count - 1) then piece else lane bits word (count - 1)) * 2 ^ ((count - 1) * bits) + n) below
    ∙ sym (ap (fill test bits word piece) (last_of count some))

low_none : (test : ℕ → Bool) (bits word piece k : ℕ) → ((j : ℕ) → j < k → test j ≡ false) → fill test bits word piece k ≡ word % 2 ^ (k * bits)
low_none test bits word piece zero none = sym (let e : 0 * bits ≡ 0 = omega arith in ap (λ n. word % 2 ^ n) e ∙ mod-one word)
low_none test bits word piece (suc k) none =
    let size : bits + k * bits ≡ suc k * bits = omega arith in
    ap₂ (λ t n. (if t then piece else lane bits word k) * 2 ^ (k * bits) + n) (none k (omega arith)) (low_none test bits word piece k (λ j less. none j (omega (arith, less))))
    ∙ sym (mod-pow-add word bits (k * bits)) ∙ ap (λ n. word % 2 ^ n) size

-- a word in which no piece is meant stays
pub fill_none : (test : ℕ → Bool) (bits word piece k : ℕ) → word < 2 ^ (k * bits) → ((j : ℕ) → j < k → test j ≡ false) → fill test bits word piece k ≡ word
fill_none test bits word piece k fits none = low_none test bits word piece k none ∙ mod-eq_of_lt fits

-- ---- the lanes of such a word

-- a sum below a power of two
sum_fits : (bits x low k : ℕ) → x < 2 ^ bits → low < 2 ^ (k * bits) → x * 2 ^ (k * bits) + low < 2 ^ (suc k * bits)
sum_fits bits x low k small fits =
    let size : suc k * bits ≡ bits + k * bits = omega arith in
    let power : 2 ^ (suc k * bits) ≡ 2 ^ bits * 2 ^ (k * bits) = ap (λ n. 2 ^ n) size ∙ pow-add 2 bits (k * bits) in
    let more : (x + 1) * 2 ^ (k * bits) ≤ 2 ^ bits * 2 ^ (k * bits) = mul-le-mul_right (2 ^ (k * bits)) (omega (arith, small)) in
    let last = add-mul x 1 (2 ^ (k * bits)) in
    let one = one-mul (2 ^ (k * bits)) in
    omega (arith, power, more, last, one, fits)

lane_small : (test : Bool) (bits word piece k : ℕ) → piece < 2 ^ bits → (if test then piece else lane bits word k) < 2 ^ bits
lane_small true bits word piece k small = small
lane_small false bits word piece k small = mod-lt (word / 2 ^ (k * bits)) (pow_pos bits)

fill_fits : (test : ℕ → Bool) (bits word piece k : ℕ) → piece < 2 ^ bits → fill test bits word piece k < 2 ^ (k * bits)
fill_fits test bits word piece zero small = pow_pos (0 * bits)
fill_fits test bits word piece (suc k) small = sum_fits bits (if test k then piece else lane bits word k) (fill test bits word piece k) k (lane_small (test k) bits word piece k small) (fill_fits test bits word piece k small)

-- what stands above leaves the lower lanes
pub lower_lane : (bits x low k j : ℕ) → j < k → lane bits (x * 2 ^ (k * bits) + low) j ≡ lane bits low j
lower_lane bits x low k j h =
    let most : suc j * bits ≤ k * bits = mul-le-mul_right bits h in
    let size : suc j * bits ≡ bits + j * bits = omega arith in
    sym (field_of (x * 2 ^ (k * bits) + low) bits (j * bits)) ∙ ap (λ n. n / 2 ^ (j * bits)) (low_bits x low (bits + j * bits) (k * bits) (omega (arith, most, size))) ∙ field_of low bits (j * bits)

pub top_lane : (bits x low k : ℕ) → x < 2 ^ bits → low < 2 ^ (k * bits) → lane bits (x * 2 ^ (k * bits) + low) k ≡ x
top_lane bits x low k small fits = ap (λ n. n % 2 ^ bits) (div-mul-add x (2 ^ (k * bits)) low fits) ∙ mod-eq_of_lt small

pub filled_lane : (test : ℕ → Bool) (bits word piece k j : ℕ) → piece < 2 ^ bits → j < k → lane bits (fill test bits word piece k) j ≡ (if test j then piece else lane bits word j)
filled_lane test bits word piece zero j small h = absurd (omega (arith, h))
filled_lane test bits word piece (suc k) j small h = by_same (λ less. filled_lane test bits word piece k j small less) (nat_eq j k) refl
  where
    by_same : (j < k → lane bits (fill test bits word piece k) j ≡ (if test j then piece else lane bits word j)) → (b : Bool) → nat_eq j k ≡ b → lane bits ((if test k then piece else lane bits word k) * 2 ^ (k * bits) + fill test bits word piece k) j ≡ (if test j then piece else lane bits word j)
    by_same lower true e =
        let same = eqb-true j k e in
        ap (lane bits ((if test k then piece else lane bits word k) * 2 ^ (k * bits) + fill test bits word piece k)) same
        ∙ top_lane bits (if test k then piece else lane bits word k) (fill test bits word piece k) k (lane_small (test k) bits word piece k small) (fill_fits test bits word piece k small)
        ∙ sym (ap (λ n. if test n then piece else lane bits word n) same)
    by_same lower false e =
        let apart = eqb-false j k e in
        lower_lane bits (if test k then piece else lane bits word k) (fill test bits word piece k) k j (omega (arith, h, apart))
        ∙ lower (omega (arith, h, apart))

-- and of one with the piece above it too
pub whole_lane : (test : ℕ → Bool) (bits word piece count j : ℕ) → piece < 2 ^ bits → 1 ≤ count → j < count - 1 →
    lane bits (piece * 2 ^ ((count - 1) * bits) + fill test bits word piece (count - 1)) j ≡ (if test j then piece else lane bits word j)
whole_lane test bits word piece count j small some h = lower_lane bits piece (fill test bits word piece (count - 1)) (count - 1) j h ∙ filled_lane test bits word piece (count - 1) j small h

pub last_lane : (test : ℕ → Bool) (bits word piece k : ℕ) → piece < 2 ^ bits → lane bits (piece * 2 ^ (k * bits) + fill test bits word piece k) k ≡ piece
last_lane test bits word piece k small = top_lane bits piece (fill test bits word piece k) k small (fill_fits test bits word piece k small)

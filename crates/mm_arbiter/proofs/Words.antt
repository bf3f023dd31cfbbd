-- Bits of a number: the lowest one that is high, and those above a place.
use Rattle.std.proofs.Common.{◌≡◌, ℕ, zero, suc, ◌+◌, ◌-◌, ◌*◌, ◌/◌, ◌%◌, ◌^◌, ◌<◌, ◌≤◌, Bool, true, false, ◌==◌, bit_and, not, ◌||◌, nat_eq, List, [], ◌∷◌, length, get_or, nat_lt, nat_le, if◌then◌else◌, Option, Some, None, is_some, ◌&&◌, mul_assoc, refl, sym, ap, ◌∙◌, arith}
use Rattle.std.proofs.lemmas.Bool.{ne_eqb, lt-ltb, ltb-true, ltb-false, leb-true, leb-false}
use Rattle.std.proofs.Math.Pow.{pow_mono}
use Rattle.std.proofs.lemmas.Nat.{and_block, pow-add}
use Rattle.std.proofs.lemmas.Nat.Bits.{and_high_mask, and_pow, bit_at-suc}
use Rattle.std.proofs.Math.Nat.{mod-eq_of_lt, mod_self, div-div-eq-div-mul, mul-div_cancel, div-eq_of_lt}
use Rattle.std.specs.Int.{bit_at}
use Rattle.histories.specs.History.{is_raised, one_if}
use Rattle.command_nets.specs.Levels.{level_is, raised_and}
use Rattle.command_nets.specs.Groups.{chosen_raised}
use Rattle.net_parts.specs.Bits.{of_chosen}
use Rattle.mm_arbiter.specs.Asks.{number, one_more, first_high, past, or_else, first_after, seat_bit, stays_on, chosen_seat}

pub power_some : (k : ℕ) → 0 < 2 ^ k
power_some zero = omega arith
power_some (suc k) = let h = power_some k in omega (arith, h)

one_if_fits : (t : Bool) → one_if t < 2
one_if_fits true = omega arith
one_if_fits false = omega arith

pub number_fits : (bits : List Bool) → number bits < 2 ^ length bits
number_fits [] = omega arith
number_fits (bit ∷ bits) =
    let h = number_fits bits in
    let size : 2 ^ suc (length bits) ≡ 2 * 2 ^ length bits = omega arith in
    let small = one_if_fits bit in
    let is : one_if bit + 2 * number bits < 2 ^ suc (length bits) = omega (arith, h, size, small) in
    is

-- a bit below others
block : (a b r s : ℕ) → r < 2 → s < 2 → bit_and (r + 2 * a) (s + 2 * b) ≡ bit_and r s + 2 * bit_and a b
block a b r s h k =
    let e : r + 2 * a ≡ a * 2 ^ 1 + r = omega arith in
    let f : s + 2 * b ≡ b * 2 ^ 1 + s = omega arith in
    let g = and_block 1 a b r s (omega arith) (omega arith) in
    ap (λ n. bit_and n (s + 2 * b)) e ∙ ap (bit_and (a * 2 ^ 1 + r)) f ∙ g ∙ omega arith

-- ---- the lowest high bit

-- what is taken from zero
abbrev minus : ℕ → ℕ → ℕ
minus size n = (0 + (size - n)) % size

-- no bit is high both in a number and in its complement
apart : (bits : List Bool) → bit_and (number bits) (2 ^ length bits - 1 - number bits) ≡ 0
apart [] = refl
apart (true ∷ bits) =
    let h = number_fits bits in
    let e : 2 ^ suc (length bits) - 1 - (1 + 2 * number bits) ≡ 0 + 2 * (2 ^ length bits - 1 - number bits) = omega (arith, h) in
    ap (bit_and (1 + 2 * number bits)) e ∙ block (number bits) (2 ^ length bits - 1 - number bits) 1 0 (omega arith) (omega arith) ∙ ap (λ n. 0 + 2 * n) (apart bits)
apart (false ∷ bits) =
    let h = number_fits bits in
    let e : 2 ^ suc (length bits) - 1 - (0 + 2 * number bits) ≡ 1 + 2 * (2 ^ length bits - 1 - number bits) = omega (arith, h) in
    ap (bit_and (0 + 2 * number bits)) e ∙ block (number bits) (2 ^ length bits - 1 - number bits) 0 1 (omega arith) (omega arith) ∙ ap (λ n. 0 + 2 * n) (apart bits)

minus_even : (size n : ℕ) → 0 < size → n < size → minus (2 * size) (0 + 2 * n) ≡ 0 + 2 * minus size n
minus_even size zero some h =
    let e : 0 + (2 * size - (0 + 2 * 0)) ≡ 2 * size = omega arith in
    let f : 0 + (size - 0) ≡ size = omega arith in
    ap (λ m. m % (2 * size)) e ∙ mod_self (2 * size) ∙ sym (ap (λ m. 0 + 2 * (m % size)) f ∙ ap (λ m. 0 + 2 * m) (mod_self size))
minus_even size (suc n) some h =
    let e : (0 + (2 * size - (0 + 2 * suc n))) % (2 * size) ≡ 0 + (2 * size - (0 + 2 * suc n)) = mod-eq_of_lt (omega (arith, h, some)) in
    let f : (0 + (size - suc n)) % size ≡ 0 + (size - suc n) = mod-eq_of_lt (omega (arith, h, some)) in
    e ∙ (let x : 0 + (2 * size - (0 + 2 * suc n)) ≡ 0 + 2 * (0 + (size - suc n)) = omega (arith, h) in x) ∙ ap (λ m. 0 + 2 * m) (sym f)

seat_more : (o : Option ℕ) → 0 + 2 * seat_bit o ≡ seat_bit (one_more o)
seat_more None = refl
seat_more (Some k) = (let e : 0 + 2 * 2 ^ k ≡ 2 ^ suc k = omega arith in e)

pub lowest_is : (bits : List Bool) → bit_and (number bits) (minus (2 ^ length bits) (number bits)) ≡ seat_bit (first_high bits)
lowest_is [] = refl
lowest_is (true ∷ bits) =
    let h = number_fits bits in
    let size : 2 ^ suc (length bits) ≡ 2 * 2 ^ length bits = omega arith in
    let e : (0 + (2 ^ suc (length bits) - (1 + 2 * number bits))) % 2 ^ suc (length bits) ≡ 0 + (2 ^ suc (length bits) - (1 + 2 * number bits)) = mod-eq_of_lt (omega (arith, h, size)) in
    let f : 0 + (2 ^ suc (length bits) - (1 + 2 * number bits)) ≡ 1 + 2 * (2 ^ length bits - 1 - number bits) = omega (arith, h, size) in
    ap (bit_and (1 + 2 * number bits)) (e ∙ f) ∙ block (number bits) (2 ^ length bits - 1 - number bits) 1 1 (omega arith) (omega arith) ∙ ap (λ n. 1 + 2 * n) (apart bits)
lowest_is (false ∷ bits) =
    let h = number_fits bits in
    let size : 2 ^ suc (length bits) ≡ 2 * 2 ^ length bits = omega arith in
    ap (λ m. bit_and (0 + 2 * number bits) (minus m (0 + 2 * number bits))) size
    ∙ ap (bit_and (0 + 2 * number bits)) (minus_even (2 ^ length bits) (number bits) (power_some (length bits)) h)
    ∙ block (number bits) (minus (2 ^ length bits) (number bits)) 0 0 (omega arith) (omega arith) ∙ ap (λ n. 0 + 2 * n) (lowest_is bits) ∙ seat_more (first_high bits)

-- ---- the bits from a place on

halved : (r n k : ℕ) → r < 2 → (r + 2 * n) / 2 ^ suc k ≡ n / 2 ^ k
halved r n k h =
    let size : 2 ^ suc k ≡ 2 * 2 ^ k = omega arith in
    let half : (r + 2 * n) / 2 ≡ n = omega (arith, h) in
    ap (λ m. (r + 2 * n) / m) size ∙ sym (div-div-eq-div-mul (r + 2 * n) 2 (2 ^ k)) ∙ ap (λ m. m / 2 ^ k) half

cut_step : (q k : ℕ) → 0 + 2 * (q * 2 ^ k) ≡ q * 2 ^ suc k
cut_step q k =
    let size : 2 ^ suc k ≡ 2 ^ k * 2 = omega arith in
    let e : 0 + 2 * (q * 2 ^ k) ≡ (q * 2 ^ k) * 2 = omega arith in
    e ∙ mul_assoc q (2 ^ k) 2 ∙ ap (λ n. q * n) (sym size)

pub past_is : (k : ℕ) (bits : List Bool) → number (past k bits) ≡ number bits / 2 ^ k * 2 ^ k
past_is zero bits = omega arith
past_is (suc k) [] =
    let none : 0 / 2 ^ suc k ≡ 0 = omega arith in
    let e : 0 ≡ 0 * 2 ^ suc k = omega arith in
    e ∙ sym (ap (λ n. n * 2 ^ suc k) none)
past_is (suc k) (bit ∷ bits) =
    ap (λ n. 0 + 2 * n) (past_is k bits) ∙ cut_step (number bits / 2 ^ k) k ∙ ap (λ n. n * 2 ^ suc k) (sym (halved (one_if bit) (number bits) k (one_if_fits bit)))

pub past_length : (k : ℕ) (bits : List Bool) → length (past k bits) ≡ length bits
past_length zero bits = refl
past_length (suc k) [] = refl
past_length (suc k) (bit ∷ bits) = ap suc (past_length k bits)

pub masked_is : (bits : List Bool) (k : ℕ) → k < length bits → bit_and (number bits) (2 ^ length bits - 2 ^ (k + 1)) ≡ number (past (suc k) bits)
masked_is bits k h =
    let same : k + 1 ≡ suc k = omega arith in
    and_high_mask (length bits) (k + 1) (omega (arith, h)) (number bits) (number_fits bits) ∙ ap (λ n. number bits / 2 ^ n * 2 ^ n) same ∙ sym (past_is (suc k) bits)

low_bit : (t : Bool) (n : ℕ) → bit_at (one_if t + 2 * n) 0 ≡ one_if t
low_bit true n = omega arith
low_bit false n = omega arith

half_is : (t : Bool) (n : ℕ) → (one_if t + 2 * n) / 2 ≡ n
half_is true n = omega arith
half_is false n = omega arith

-- bit k of the number is bit k
pub bit_is : (bits : List Bool) (k : ℕ) → bit_at (number bits) k ≡ one_if (get_or bits k false)
bit_is [] k = (let e : 0 / 2 ^ k ≡ 0 = omega arith in ap (λ n. n % 2) e)
bit_is (bit ∷ bits) zero = low_bit bit (number bits)
bit_is (bit ∷ bits) (suc k) = bit_at-suc (one_if bit + 2 * number bits) k ∙ ap (λ n. bit_at n k) (half_is bit (number bits)) ∙ bit_is bits k

pub own_is : (bits : List Bool) (k : ℕ) → bit_and (number bits) (2 ^ k) ≡ seat_bit (if get_or bits k false then Some k else None)
own_is bits k = and_pow (number bits) k ∙ ap (λ n. n * 2 ^ k) (bit_is bits k) ∙ by_bit (get_or bits k false)
  where
    by_bit : (t : Bool) → one_if t * 2 ^ k ≡ seat_bit (if t then Some k else None)
    by_bit true = omega arith
    by_bit false = omega arith

-- ---- whether some bit is high

some_step : (o : Option ℕ) (n : ℕ) → 0 < seat_bit o → 0 < n → 0 < seat_bit (one_more o)
some_step None n h k = absurd (omega arith)
some_step (Some j) n h k = power_some (suc j)

-- a number that isn't 0 has a first high bit
abbrev pub is_seat : Option ℕ → Bool
is_seat None = false
is_seat (Some k) = true

seat_later : (o : Option ℕ) → is_seat (one_more o) ≡ is_seat o
seat_later None = refl
seat_later (Some k) = refl

zero_twice : (n : ℕ) → (0 + 2 * n == 0) ≡ (n == 0)
zero_twice zero = refl
zero_twice (suc n) = ne_eqb (0 + 2 * suc n) 0 (λ e. absurd (omega (arith, e))) ∙ sym (ne_eqb (suc n) 0 (λ e. absurd (omega (arith, e))))

pub some_high : (bits : List Bool) → (number bits == 0) ≡ (if is_seat (first_high bits) then false else true)
some_high [] = refl
some_high (true ∷ bits) = ne_eqb (1 + 2 * number bits) 0 (λ e. absurd (omega (arith, e)))
some_high (false ∷ bits) = zero_twice (number bits) ∙ some_high bits ∙ ap (λ (t : Bool). if t then false else true) (sym (seat_later (first_high bits)))

pub seat_zero : (o : Option ℕ) → (seat_bit o == 0) ≡ (if is_seat o then false else true)
seat_zero None = refl
seat_zero (Some k) = ne_eqb (2 ^ k) 0 (λ e. (let some = power_some k in absurd (omega (arith, some, e))))

pub by_first : (one other : Option ℕ) → (if (if is_seat one then false else true) then seat_bit other else seat_bit one) ≡ seat_bit (or_else one other)
by_first None other = refl
by_first (Some k) other = refl

-- ---- what the makers compute

pub lowest_level : (width count none bits minus low : ℕ) (high : List Bool) → width ≡ count → length high ≡ count → bits ≡ number high → none ≡ 0 → minus ≡ (none + (2 ^ width - bits)) % 2 ^ width → low ≡ bit_and bits minus → low ≡ seat_bit (first_high high)
lowest_level width count none bits minus low high w l b z m e =
    e ∙ ap (bit_and bits) (m ∙ ap (λ n. (n + (2 ^ width - bits)) % 2 ^ width) z ∙ ap (λ n. (0 + (2 ^ n - bits)) % 2 ^ n) (w ∙ sym l)) ∙ ap (λ n. bit_and n ((0 + (2 ^ length high - n)) % 2 ^ length high)) b ∙ lowest_is high

below_top : (k count : ℕ) → k + 1 < count → 2 ^ (k + 1) < 2 ^ count
below_top k count h =
    let more : 2 ^ suc (k + 1) ≤ 2 ^ count = pow_mono (omega (arith, h)) in
    let size : 2 ^ suc (k + 1) ≡ 2 * 2 ^ (k + 1) = omega arith in
    let some = power_some (k + 1) in
    omega (arith, more, size, some)

below_others : (k count : ℕ) → k + 1 < count → 2 ^ k < 2 ^ (count - 1)
below_others k count h =
    let more : 2 ^ suc k ≤ 2 ^ (count - 1) = pow_mono (omega (arith, h)) in
    let size : 2 ^ suc k ≡ 2 * 2 ^ k = omega arith in
    let some = power_some k in
    omega (arith, more, size, some)

pub next_level : (count k holder others wide low next : ℕ) → 2 ≤ count → k < count → holder ≡ 2 ^ k → others ≡ holder / 2 ^ 0 % 2 ^ (count - 2 - 0 + 1) → wide ≡ 1 → low ≡ 0 → next ≡ others * 2 ^ wide + low → next ≡ 2 ^ (k + 1) % 2 ^ count
next_level count k holder others wide low next some lt h o w z e = by_top (nat_lt (k + 1) count) refl
  where
    whole : next ≡ others * 2
    whole = e ∙ ap (λ n. others * 2 ^ n + low) w ∙ ap (λ n. others * 2 ^ 1 + n) z ∙ omega arith

    size : count - 2 - 0 + 1 ≡ count - 1
    size = omega (arith, some)

    less : others ≡ 2 ^ k % 2 ^ (count - 1)
    less = o ∙ ap (λ n. holder / 2 ^ 0 % 2 ^ n) size ∙ (let one : holder / 2 ^ 0 ≡ holder = omega arith in ap (λ n. n % 2 ^ (count - 1)) (one ∙ h))

    by_top : (t : Bool) → nat_lt (k + 1) count ≡ t → next ≡ 2 ^ (k + 1) % 2 ^ count
    by_top true f =
        let below = ltb-true (k + 1) count f in
        let double : 2 ^ (k + 1) ≡ 2 ^ k * 2 = pow-add 2 k 1 in
        whole ∙ ap (λ n. n * 2) (less ∙ mod-eq_of_lt (below_others k count below)) ∙ sym double ∙ sym (mod-eq_of_lt (below_top k count below))
    by_top false f =
        let top = ltb-false (k + 1) count f in
        let same : count - 1 ≡ k = omega (arith, top, lt, some) in
        let last : count ≡ k + 1 = omega (arith, top, lt, some) in
        whole ∙ ap (λ n. n * 2) (less ∙ ap (λ n. 2 ^ k % 2 ^ n) same ∙ mod_self (2 ^ k)) ∙ sym (ap (λ n. 2 ^ (k + 1) % 2 ^ n) last ∙ mod_self (2 ^ (k + 1)))

pub above_level : (width count k none next above : ℕ) → width ≡ count → k < count → none ≡ 0 → next ≡ 2 ^ (k + 1) % 2 ^ count → above ≡ (none + (2 ^ width - next)) % 2 ^ width → above ≡ 2 ^ count - 2 ^ (k + 1)
above_level width count k none next above w lt z n e = by_top (nat_lt (k + 1) count) refl
  where
    whole : above ≡ (0 + (2 ^ count - next)) % 2 ^ count
    whole = e ∙ ap (λ m. (m + (2 ^ width - next)) % 2 ^ width) z ∙ ap (λ m. (0 + (2 ^ m - next)) % 2 ^ m) w

    by_top : (t : Bool) → nat_lt (k + 1) count ≡ t → above ≡ 2 ^ count - 2 ^ (k + 1)
    by_top true f =
        let below = below_top k count (ltb-true (k + 1) count f) in
        let some = power_some (k + 1) in
        let is : next ≡ 2 ^ (k + 1) = n ∙ mod-eq_of_lt below in
        whole ∙ ap (λ m. (0 + (2 ^ count - m)) % 2 ^ count) is ∙ mod-eq_of_lt (omega (arith, below, some)) ∙ omega arith
    by_top false f =
        let top = ltb-false (k + 1) count f in
        let last : count ≡ k + 1 = omega (arith, top, lt) in
        let is : next ≡ 0 = n ∙ ap (λ m. 2 ^ (k + 1) % 2 ^ m) last ∙ mod_self (2 ^ (k + 1)) in
        let all : 0 + (2 ^ count - 0) ≡ 2 ^ count = omega arith in
        let same : 2 ^ count ≡ 2 ^ (k + 1) = ap (λ m. 2 ^ m) last in
        whole ∙ ap (λ m. (0 + (2 ^ count - m)) % 2 ^ count) is ∙ ap (λ m. m % 2 ^ count) all ∙ mod_self (2 ^ count) ∙ omega (arith, same)

pub behind_level : (count asks above behind k : ℕ) (bits : List Bool) → length bits ≡ count → k < count → asks ≡ number bits → above ≡ 2 ^ count - 2 ^ (k + 1) → behind ≡ bit_and asks above → behind ≡ number (past (k + 1) bits)
behind_level count asks above behind k bits l lt a b e =
    let same : suc k ≡ k + 1 = omega arith in
    e ∙ ap (λ n. bit_and n above) a ∙ ap (bit_and (number bits)) (b ∙ ap (λ n. 2 ^ n - 2 ^ (k + 1)) (sym l)) ∙ masked_is bits k (omega (arith, l, lt)) ∙ ap (λ n. number (past n bits)) same

some_choice : (t : Bool) (x y : ℕ) → (if (if t then 0 else 1) == 0 then y else x) ≡ (if t then y else x)
some_choice true x y = refl
some_choice false x y = refl

pub first_level : (behind next again some first : ℕ) (high bits : List Bool) → behind ≡ number high → next ≡ seat_bit (first_high high) → again ≡ seat_bit (first_high bits) → some ≡ (if behind == 0 then 0 else 1) → first ≡ (if some == 0 then again else next) →
    first ≡ seat_bit (or_else (first_high high) (first_high bits))
first_level behind next again some first high bits b n a s e =
    e ∙ ap (λ m. if m == 0 then again else next) (s ∙ ap (λ m. if m == 0 then 0 else 1) b) ∙ some_choice (number high == 0) next again ∙ ap (λ m. if number high == 0 then m else next) a ∙ ap (λ m. if number high == 0 then seat_bit (first_high bits) else m) n
    ∙ ap (λ (t : Bool). if t then seat_bit (first_high bits) else seat_bit (first_high high)) (some_high high) ∙ by_first (first_high high) (first_high bits)

-- ---- one high bit among some

power_cut : (k from size : ℕ) → from ≤ k → k < from + size → 2 ^ k / 2 ^ from % 2 ^ size ≡ 2 ^ (k - from)
power_cut k from size le lt =
    let split : 2 ^ (k - from + from) ≡ 2 ^ (k - from) * 2 ^ from = pow-add 2 (k - from) from in
    let same : k - from + from ≡ k = omega (arith, le) in
    let is : 2 ^ k / 2 ^ from ≡ 2 ^ (k - from) = ap (λ n. 2 ^ n / 2 ^ from) (sym same) ∙ ap (λ n. n / 2 ^ from) split ∙ mul-div_cancel (2 ^ (k - from)) (power_some from) in
    let more : 2 ^ suc (k - from) ≤ 2 ^ size = pow_mono (omega (arith, le, lt)) in
    let twice : 2 ^ suc (k - from) ≡ 2 * 2 ^ (k - from) = omega arith in
    let some = power_some (k - from) in
    ap (λ n. n % 2 ^ size) is ∙ mod-eq_of_lt (omega (arith, more, twice, some))

power_low : (k from size : ℕ) → k < from → 2 ^ k / 2 ^ from % 2 ^ size ≡ 0
power_low k from size lt =
    let more : 2 ^ suc k ≤ 2 ^ from = pow_mono (omega (arith, lt)) in
    let twice : 2 ^ suc k ≡ 2 * 2 ^ k = omega arith in
    let some = power_some k in
    let none : 2 ^ k / 2 ^ from ≡ 0 = div-eq_of_lt (omega (arith, more, twice, some)) in
    ap (λ n. n % 2 ^ size) none ∙ mod-eq_of_lt (power_some size)

pub from_level : (from to k bits part here : ℕ) → from < to → k < to → bits ≡ 2 ^ k → part ≡ bits / 2 ^ from % 2 ^ (to - 1 - from + 1) → here ≡ (if part == 0 then 0 else 1) → here ≡ (if nat_le from k then 1 else 0)
from_level from to k bits part here order lt b p e = by_order (nat_le from k) refl
  where
    is : part ≡ 2 ^ k / 2 ^ from % 2 ^ (to - 1 - from + 1)
    is = p ∙ ap (λ n. n / 2 ^ from % 2 ^ (to - 1 - from + 1)) b

    by_order : (t : Bool) → nat_le from k ≡ t → here ≡ (if nat_le from k then 1 else 0)
    by_order true f =
        let le = leb-true from k f in
        let value = is ∙ power_cut k from (to - 1 - from + 1) le (omega (arith, order, lt, le)) in
        let high : (2 ^ (k - from) == 0) ≡ false = ne_eqb (2 ^ (k - from)) 0 (λ z. (let some = power_some (k - from) in absurd (omega (arith, some, z)))) in
        e ∙ ap (λ n. if n == 0 then 0 else 1) value ∙ ap (λ (t : Bool). if t then 0 else 1) high ∙ sym (ap (λ (t : Bool). if t then 1 else 0) f)
    by_order false f = e ∙ ap (λ n. if n == 0 then 0 else 1) (is ∙ power_low k from (to - 1 - from + 1) (leb-false from k f)) ∙ sym (ap (λ (t : Bool). if t then 1 else 0) f)

-- ---- who asks

pub ask_level : (ask : ℕ) (t : Bool) → ask < 2 → is_raised ask ≡ t → ask ≡ one_if t
ask_level ask t h e = level_is ask h ∙ ap one_if e

pub ask_alone : (ask : ℕ) (t : Bool) → ask < 2 → is_raised ask ≡ t → ask ≡ number (t ∷ [])
ask_alone ask t h e = ask_level ask t h e ∙ omega arith

-- a bit below others
pub bit_below : (width above low bits held more : ℕ) → width ≡ 1 → bits ≡ above * 2 ^ width + low → low ≡ held → above ≡ more → bits ≡ held + 2 * more
bit_below width above low bits held more one e f g = e ∙ ap (λ n. above * 2 ^ n + low) one ∙ omega (arith, f, g)

-- ---- which seat is chosen

pub any_raised : (n any : ℕ) → any ≡ (if n == 0 then 0 else 1) → is_raised any ≡ nat_lt 0 n
any_raised zero any e = ap is_raised e
any_raised (suc n) any e =
    let some : (suc n == 0) ≡ false = ne_eqb (suc n) 0 (λ z. absurd (omega (arith, z))) in
    ap is_raised (e ∙ ap (λ (t : Bool). if t then 0 else 1) some) ∙ sym (lt-ltb 0 (suc n) (omega arith))

pub any_seat : (o : Option ℕ) (n any : ℕ) → n ≡ seat_bit o → any ≡ (if n == 0 then 0 else 1) → is_raised any ≡ is_some o
any_seat None n any e f = ap is_raised (f ∙ ap (λ m. if m == 0 then 0 else 1) e)
any_seat (Some k) n any e f = any_raised n any f ∙ ap (nat_lt 0) e ∙ lt-ltb 0 (2 ^ k) (power_some k)

some_own : (t : Bool) (k : ℕ) → is_some (if t then Some k else None) ≡ t
some_own true k = refl
some_own false k = refl

pub own_level : (asks holder seat k : ℕ) (bits : List Bool) → asks ≡ number bits → holder ≡ 2 ^ k → seat ≡ bit_and asks holder → seat ≡ seat_bit (if get_or bits k false then Some k else None)
own_level asks holder seat k bits a h e = e ∙ ap (λ n. bit_and n holder) a ∙ ap (bit_and (number bits)) h ∙ own_is bits k

pub stays_level : (seat left asking rest stays k : ℕ) (bits : List Bool) → seat ≡ seat_bit (if get_or bits k false then Some k else None) → asking ≡ (if seat == 0 then 0 else 1) → rest ≡ (if left == 0 then 0 else 1) →
    is_raised stays ≡ (is_raised asking && is_raised rest) → is_raised stays ≡ stays_on k left bits
stays_level seat left asking rest stays k bits s a r e =
    e ∙ ap (λ (t : Bool). t && is_raised rest) (any_seat (if get_or bits k false then Some k else None) seat asking s a ∙ some_own (get_or bits k false) k) ∙ ap (λ (t : Bool). get_or bits k false && t) (any_raised left rest r)

pub turn_level : (inside own turn seat stays first holder left k : ℕ) (bits : List Bool) → own ≡ seat_bit (if get_or bits k false then Some k else None) → is_raised stays ≡ stays_on k left bits → first ≡ seat_bit (first_after k bits) → holder ≡ 2 ^ k →
    turn ≡ (if stays == 0 then first else holder) → seat ≡ (if inside == 0 then turn else own) → seat ≡ seat_bit (chosen_seat (is_raised inside) k left bits)
turn_level inside own turn seat stays first holder left k bits o s f h t e =
    let turn_is : turn ≡ seat_bit (if stays_on k left bits then Some k else first_after k bits) =
    t ∙ chosen_raised stays holder first ∙ ap (λ (b : Bool). if b then holder else first) s ∙ ap (λ n. if stays_on k left bits then n else first) h ∙ ap (λ n. if stays_on k left bits then 2 ^ k else n) f
    ∙ sym (of_chosen seat_bit (stays_on k left bits) (Some k) (first_after k bits)) in
    e ∙ chosen_raised inside own turn ∙ ap (λ n. if is_raised inside then n else turn) o ∙ ap (λ n. if is_raised inside then seat_bit (if get_or bits k false then Some k else None) else n) turn_is
    ∙ sym (of_chosen seat_bit (is_raised inside) (if get_or bits k false then Some k else None) (if stays_on k left bits then Some k else first_after k bits))

-- ---- what the registers take

pub left_level : (width left one less none begun stays some spare next : ℕ) → width ≡ 6 → left < 2 ^ 6 → one ≡ 1 → less ≡ (left + (2 ^ width - one)) % 2 ^ width → none ≡ 0 → begun ≡ (if some == 0 then none else spare) → next ≡ (if stays == 0 then begun else less) →
    (is_raised stays ≡ true → 0 < left) → next ≡ (if is_raised stays then left - 1 else (if is_raised some then spare else 0))
left_level width left one less none begun stays some spare next w fits o l n b e positive =
    let begun_is : begun ≡ (if is_raised some then spare else 0) = b ∙ chosen_raised some spare none ∙ ap (λ m. if is_raised some then spare else m) n in
    e ∙ chosen_raised stays less begun ∙ ap (λ m. if is_raised stays then less else m) begun_is ∙ by_stays (is_raised stays) refl
  where
    whole : less ≡ (left + 63) % 64
    whole = l ∙ ap (λ m. (left + (2 ^ width - m)) % 2 ^ width) o ∙ ap (λ m. (left + (2 ^ m - 1)) % 2 ^ m) w

    by_stays : (t : Bool) → is_raised stays ≡ t → (if is_raised stays then less else (if is_raised some then spare else 0)) ≡ (if is_raised stays then left - 1 else (if is_raised some then spare else 0))
    by_stays true f =
        let p = positive f in
        let is : less ≡ left - 1 = whole ∙ omega (arith, p, fits) in
        ap (λ m. if is_raised stays then m else (if is_raised some then spare else 0)) is
    by_stays false f = ap (λ (t : Bool). if t then less else (if is_raised some then spare else 0)) f ∙ sym (ap (λ (t : Bool). if t then left - 1 else (if is_raised some then spare else 0)) f)

-- ---- what comes back

bit_low : (x k : ℕ) → bit_at x k < 2
bit_low x k = omega arith

turned_bit : (b : ℕ) → b < 2 → is_raised (2 ^ 1 - 1 - b) ≡ not (b == 1)
turned_bit zero h = refl
turned_bit (suc zero) h = refl
turned_bit (suc (suc b)) h = absurd (omega arith)

pub wait_level : (chosen seat width here other below wait : ℕ) → width ≡ seat - seat + 1 → here ≡ chosen / 2 ^ seat % 2 ^ (seat - seat + 1) → other ≡ 2 ^ width - 1 - here → is_raised wait ≡ (is_raised other || is_raised below) → is_raised wait ≡ (not (bit_at chosen seat == 1) || is_raised below)
wait_level chosen seat width here other below wait w h o e =
    let one : seat - seat + 1 ≡ 1 = omega arith in
    let here_is : here ≡ bit_at chosen seat = h ∙ ap (λ n. chosen / 2 ^ seat % 2 ^ n) one in
    let other_is : other ≡ 2 ^ 1 - 1 - bit_at chosen seat = o ∙ ap (λ n. 2 ^ n - 1 - here) (w ∙ one) ∙ ap (λ n. 2 ^ 1 - 1 - n) here_is in
    let low = bit_low chosen seat in
    e ∙ ap (λ (t : Bool). t || is_raised below) (ap is_raised other_is ∙ turned_bit (bit_at chosen seat) low)

pub valid_level : (host tag answer number mine valid : ℕ) → answer < 2 → number ≡ host → mine ≡ (if tag == number then 1 else 0) → valid ≡ bit_and answer mine → is_raised valid ≡ (is_raised answer && nat_eq tag host)
valid_level host tag answer number mine valid fits n m e =
    let is : mine ≡ one_if (nat_eq tag host) = m ∙ ap (λ k. if tag == k then 1 else 0) n in
    let small = one_if_fits (nat_eq tag host) in
    raised_and answer mine valid fits (omega (arith, is, small)) e ∙ ap (λ (t : Bool). is_raised answer && t) (ap is_raised is ∙ raised_one (nat_eq tag host))
  where
    raised_one : (t : Bool) → is_raised (one_if t) ≡ t
    raised_one true = refl
    raised_one false = refl

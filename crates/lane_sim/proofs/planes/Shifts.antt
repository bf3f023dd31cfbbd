-- Shifts of numbers of 128 bits by their halves of 64, and the bits of one number above those of another.
use Rattle.std.proofs.Common.{◌≡◌, ℕ, ◌+◌, ◌-◌, ◌*◌, ◌/◌, ◌%◌, ◌^◌, ◌<◌, ◌≤◌, bit_or, refl, sym, subst, ap, ◌∙◌, arith}
use Rattle.std.proofs.Math.Nat.{mod-eq_of_lt, div-eq_of_lt, div-div-eq-div-mul, div-le_self, add-mul-div_right, mul_comm, mul_assoc, pow-le-pow_right}
use Rattle.std.proofs.lemmas.Nat.{mod-pow-add, pow_pos, pow-add, div_below, div-mul-add, mod-mul-add, mul-add-lt, or_shifted}
use Rattle.std.specs.Int.Bits.{or_shifted_r}
use Rattle.lane_sim.proofs.planes.Halves.{halves, low_of_low}

power_split : (j k n : ℕ) → j + k ≡ n → 2 ^ n ≡ 2 ^ j * 2 ^ k
power_split j k n e = ap (λ m. 2 ^ m) (sym e) ∙ pow-add 2 j k

pub power_le : (a b : ℕ) → a ≤ b → 2 ^ a ≤ 2 ^ b
power_le a b le = pow-le-pow_right {n = 2} (omega arith) le

pub below_shift : (n j k m : ℕ) → j + k ≡ m → n < 2 ^ m → n / 2 ^ k < 2 ^ j
below_shift n j k m e lt = div_below n (2 ^ k) (2 ^ j) (pow_pos k) (subst (λ p. n < p) (power_split j k m e) lt)

pub joined_below : (w v a b m : ℕ) → w + v ≡ m → a < 2 ^ w → b < 2 ^ v → a * 2 ^ v + b < 2 ^ m
joined_below w v a b m e p q = subst (λ n. a * 2 ^ v + b < n) (mul_comm (2 ^ v) (2 ^ w) ∙ sym (power_split w v m e)) (mul-add-lt a (2 ^ v) b (2 ^ w) p q)

-- the low bits of a number above another
pub placed : (a b j k n : ℕ) → j + k ≡ n → b < 2 ^ k → (a * 2 ^ k + b) % 2 ^ n ≡ a % 2 ^ j * 2 ^ k + b
placed a b j k n e lt =
    ap (λ m. (a * 2 ^ k + b) % 2 ^ m) (sym e) ∙ mod-pow-add (a * 2 ^ k + b) j k
    ∙ ap (λ m. m % 2 ^ j * 2 ^ k + (a * 2 ^ k + b) % 2 ^ k) (div-mul-add a (2 ^ k) b lt)
    ∙ ap (λ m. a % 2 ^ j * 2 ^ k + m) (mod-mul-add a (2 ^ k) b lt)

pub placed_alone : (a j k n : ℕ) → j + k ≡ n → a * 2 ^ k % 2 ^ n ≡ a % 2 ^ j * 2 ^ k
placed_alone a j k n e =
    let z : a * 2 ^ k ≡ a * 2 ^ k + 0 = omega arith in
    let y : a % 2 ^ j * 2 ^ k + 0 ≡ a % 2 ^ j * 2 ^ k = omega arith in
    ap (λ m. m % 2 ^ n) z ∙ placed a 0 j k n e (pow_pos k) ∙ y

-- a shift to the right, of the whole and of the halves
halves_shifted : (x j k : ℕ) → j + k ≡ 64 → x / 2 ^ k ≡ x / 2 ^ 64 * 2 ^ j + x % 2 ^ 64 / 2 ^ k
halves_shifted x j k e =
    let p : x / 2 ^ 64 * 2 ^ 64 ≡ x / 2 ^ 64 * 2 ^ j * 2 ^ k = ap (λ n. x / 2 ^ 64 * n) (power_split j k 64 e) ∙ sym (mul_assoc (x / 2 ^ 64) (2 ^ j) (2 ^ k)) in
    let whole : x ≡ x % 2 ^ 64 + x / 2 ^ 64 * 2 ^ j * 2 ^ k = omega (arith, halves x, p) in
    ap (λ n. n / 2 ^ k) whole ∙ add-mul-div_right (x % 2 ^ 64) (x / 2 ^ 64 * 2 ^ j) (pow_pos k) ∙ omega arith

pub shifted_low : (x j k : ℕ) → j + k ≡ 64 → bit_or (x % 2 ^ 64 / 2 ^ k) (x / 2 ^ 64 * 2 ^ j % 2 ^ 64) ≡ x / 2 ^ k % 2 ^ 64
shifted_low x j k e =
    let turned : k + j ≡ 64 = omega arith in
    let lt : x % 2 ^ 64 / 2 ^ k < 2 ^ j = below_shift (x % 2 ^ 64) j k 64 e (omega arith) in
    ap (bit_or (x % 2 ^ 64 / 2 ^ k)) (placed_alone (x / 2 ^ 64) k j 64 turned) ∙ or_shifted_r (x / 2 ^ 64 % 2 ^ k) j (x % 2 ^ 64 / 2 ^ k) lt
    ∙ sym (placed (x / 2 ^ 64) (x % 2 ^ 64 / 2 ^ k) k j 64 turned lt) ∙ ap (λ n. n % 2 ^ 64) (sym (halves_shifted x j k e))

pub shifted_high : (x k : ℕ) → x / 2 ^ 64 / 2 ^ k ≡ x / 2 ^ k / 2 ^ 64
shifted_high x k = div-div-eq-div-mul x (2 ^ 64) (2 ^ k) ∙ ap (λ n. x / n) (mul_comm (2 ^ 64) (2 ^ k)) ∙ sym (div-div-eq-div-mul x (2 ^ k) (2 ^ 64))

shifted_past : (x i k : ℕ) → 64 + i ≡ k → x / 2 ^ k ≡ x / 2 ^ 64 / 2 ^ i
shifted_past x i k e = ap (λ n. x / n) (power_split 64 i k e) ∙ sym (div-div-eq-div-mul x (2 ^ 64) (2 ^ i))

pub past_low : (x i k : ℕ) → 64 + i ≡ k → x < 2 ^ 128 → x / 2 ^ 64 / 2 ^ i ≡ x / 2 ^ k % 2 ^ 64
past_low x i k e lt =
    let le = div-le_self (x / 2 ^ 64) (2 ^ i) in
    let small : x / 2 ^ 64 / 2 ^ i < 2 ^ 64 = omega arith in
    sym (mod-eq_of_lt small) ∙ ap (λ n. n % 2 ^ 64) (sym (shifted_past x i k e))

pub past_high : (x i k : ℕ) → 64 + i ≡ k → x < 2 ^ 128 → x / 2 ^ k / 2 ^ 64 ≡ 0
past_high x i k e lt =
    let le = div-le_self (x / 2 ^ 64) (2 ^ i) in
    let small : x / 2 ^ 64 / 2 ^ i < 2 ^ 64 = omega arith in
    ap (λ n. n / 2 ^ 64) (shifted_past x i k e) ∙ div-eq_of_lt small

-- ---- one number above another: x of v bits above y of k

-- all within the low half
pub above_narrow : (w v k x y l : ℕ) → v + k ≡ w → w ≤ 64 → x < 2 ^ v → y < 2 ^ k → l ≡ bit_or (x % 2 ^ 64 * 2 ^ k % 2 ^ 64) (y % 2 ^ 64) → l % 2 ^ w ≡ x * 2 ^ k + y
above_narrow w v k x y l e le hx hy is =
    let few : v ≤ 64 = omega arith in
    let small : k ≤ 64 = omega arith in
    let px = power_le v 64 few in
    let py = power_le k 64 small in
    let x_is : x % 2 ^ 64 ≡ x = mod-eq_of_lt (omega (arith, px, hx)) in
    let y_is : y % 2 ^ 64 ≡ y = mod-eq_of_lt (omega (arith, py, hy)) in
    let fits : x * 2 ^ k + y < 2 ^ w = joined_below v k x y w e hx hy in
    let pw = power_le w 64 le in
    let alone : x * 2 ^ k % 2 ^ 64 ≡ x * 2 ^ k = mod-eq_of_lt (omega (arith, pw, fits)) in
    ap (λ n. n % 2 ^ w) (is ∙ ap (λ n. bit_or (n * 2 ^ k % 2 ^ 64) (y % 2 ^ 64)) x_is ∙ ap (λ n. bit_or (x * 2 ^ k % 2 ^ 64) n) y_is ∙ ap (λ n. bit_or n y) alone ∙ or_shifted x k y hy)
    ∙ mod-eq_of_lt fits

-- by the halves of the whole
whole_is : (w s h l : ℕ) → s < 2 ^ w → h ≡ s / 2 ^ 64 → l ≡ s % 2 ^ 64 → (h * 2 ^ 64 + l) % 2 ^ w ≡ s
whole_is w s h l fits eh el = ap (λ n. (n * 2 ^ 64 + l) % 2 ^ w) eh ∙ ap (λ n. (s / 2 ^ 64 * 2 ^ 64 + n) % 2 ^ w) el ∙ ap (λ n. n % 2 ^ w) (halves s) ∙ mod-eq_of_lt fits

-- the lower number ends within the low half; j bits are left there
pub above_within : (w v k j x y h l : ℕ) → v + k ≡ w → w ≤ 128 → j + k ≡ 64 → x < 2 ^ v → y < 2 ^ k → h ≡ bit_or (x / 2 ^ 64 * 2 ^ k % 2 ^ 64) (x % 2 ^ 64 / 2 ^ j) → l ≡ bit_or (x % 2 ^ 64 * 2 ^ k % 2 ^ 64) (y % 2 ^ 64) →
    (h * 2 ^ 64 + l) % 2 ^ w ≡ x * 2 ^ k + y
above_within w v k j x y h l e le room hx hy eh el =
    let fits : x * 2 ^ k + y < 2 ^ w = joined_below v k x y w e hx hy in
    let pw = power_le w 128 le in
    let py = power_le k 64 (omega arith) in
    let y_is : y % 2 ^ 64 ≡ y = mod-eq_of_lt (omega (arith, py, hy)) in
    let turned : k + j ≡ 64 = omega arith in
    let apart : j ≤ 64 = omega arith in
    let whole : (x * 2 ^ k + y) / 2 ^ 64 ≡ x / 2 ^ j =
    ap (λ n. (x * 2 ^ k + y) / n) (power_split k j 64 turned) ∙ sym (div-div-eq-div-mul (x * 2 ^ k + y) (2 ^ k) (2 ^ j)) ∙ ap (λ n. n / 2 ^ j) (div-mul-add x (2 ^ k) y hy) in
    let parts : x / 2 ^ j ≡ x / 2 ^ 64 * 2 ^ k + x % 2 ^ 64 / 2 ^ j = halves_shifted x k j turned in
    let part_below : x % 2 ^ 64 / 2 ^ j < 2 ^ k = below_shift (x % 2 ^ 64) k j 64 turned (omega arith) in
    let few : (x * 2 ^ k + y) / 2 ^ 64 < 2 ^ 64 = (let s : x * 2 ^ k + y < 2 ^ 128 = omega (arith, pw, fits) in below_shift (x * 2 ^ k + y) 64 64 128 refl s) in
    let alone : x / 2 ^ 64 * 2 ^ k % 2 ^ 64 ≡ x / 2 ^ 64 * 2 ^ k = mod-eq_of_lt (omega (arith, few, whole, parts)) in
    let high : h ≡ (x * 2 ^ k + y) / 2 ^ 64 = eh ∙ ap (λ n. bit_or n (x % 2 ^ 64 / 2 ^ j)) alone ∙ or_shifted (x / 2 ^ 64) k (x % 2 ^ 64 / 2 ^ j) part_below ∙ sym parts ∙ sym whole in
    let low : l ≡ (x * 2 ^ k + y) % 2 ^ 64 = el ∙ ap (bit_or (x % 2 ^ 64 * 2 ^ k % 2 ^ 64)) y_is
    ∙ ap (λ n. bit_or n y) (placed_alone (x % 2 ^ 64) j k 64 room)
    ∙ or_shifted (x % 2 ^ 64 % 2 ^ j) k y hy
    ∙ ap (λ n. n * 2 ^ k + y) (low_of_low x j apart)
    ∙ sym (placed x y j k 64 room hy) in
    whole_is w (x * 2 ^ k + y) h l fits high low

-- it ends where the low half does
pub above_at : (w v k x y h l : ℕ) → v + k ≡ w → w ≤ 128 → k ≡ 64 → x < 2 ^ v → y < 2 ^ k → h ≡ x % 2 ^ 64 → l ≡ y % 2 ^ 64 → (h * 2 ^ 64 + l) % 2 ^ w ≡ x * 2 ^ k + y
above_at w v k x y h l e le ek hx hy eh el =
    let fits : x * 2 ^ k + y < 2 ^ w = joined_below v k x y w e hx hy in
    let px = power_le v 64 (omega arith) in
    let x_is : x % 2 ^ 64 ≡ x = mod-eq_of_lt (omega (arith, px, hx)) in
    let y_fits : y < 2 ^ 64 = subst (λ n. y < 2 ^ n) ek hy in
    let y_is : y % 2 ^ 64 ≡ y = mod-eq_of_lt y_fits in
    ap (λ n. (n * 2 ^ 64 + l) % 2 ^ w) (eh ∙ x_is) ∙ ap (λ n. (x * 2 ^ 64 + n) % 2 ^ w) (el ∙ y_is) ∙ ap (λ n. (x * 2 ^ n + y) % 2 ^ w) (sym ek) ∙ mod-eq_of_lt fits

-- it ends within the high half, i bits above the low one
pub above_past : (w v k i x y h l : ℕ) → v + k ≡ w → w ≤ 128 → 64 + i ≡ k → x < 2 ^ v → y < 2 ^ k → h ≡ bit_or (y / 2 ^ 64) (x % 2 ^ 64 * 2 ^ i % 2 ^ 64) → l ≡ y % 2 ^ 64 → (h * 2 ^ 64 + l) % 2 ^ w ≡ x * 2 ^ k + y
above_past w v k i x y h l e le over hx hy eh el =
    let fits : x * 2 ^ k + y < 2 ^ w = joined_below v k x y w e hx hy in
    let px = power_le v 64 (omega arith) in
    let x_is : x % 2 ^ 64 ≡ x = mod-eq_of_lt (omega (arith, px, hx)) in
    let turned : i + 64 ≡ k = omega arith in
    let y_high : y / 2 ^ 64 < 2 ^ i = below_shift y i 64 k turned hy in
    let split : x * 2 ^ k ≡ x * 2 ^ i * 2 ^ 64 = ap (λ n. x * n) (power_split i 64 k turned) ∙ sym (mul_assoc x (2 ^ i) (2 ^ 64)) in
    let room : x * 2 ^ i < 2 ^ 64 = (let u : v + i ≤ 64 = omega arith in let pu = power_le (v + i) 64 u in let z = joined_below v i x 0 (v + i) refl hx (pow_pos i) in omega (arith, pu, z)) in
    let alone : x * 2 ^ i % 2 ^ 64 ≡ x * 2 ^ i = mod-eq_of_lt room in
    let high : h ≡ x * 2 ^ i + y / 2 ^ 64 = eh ∙ ap (λ n. bit_or (y / 2 ^ 64) (n * 2 ^ i % 2 ^ 64)) x_is ∙ ap (bit_or (y / 2 ^ 64)) alone ∙ or_shifted_r x i (y / 2 ^ 64) y_high in
    let sum : (x * 2 ^ i + y / 2 ^ 64) * 2 ^ 64 + y % 2 ^ 64 ≡ x * 2 ^ k + y = omega (arith, split, halves y) in
    ap (λ n. (n * 2 ^ 64 + l) % 2 ^ w) high ∙ ap (λ n. ((x * 2 ^ i + y / 2 ^ 64) * 2 ^ 64 + n) % 2 ^ w) el ∙ ap (λ n. n % 2 ^ w) sum ∙ mod-eq_of_lt fits

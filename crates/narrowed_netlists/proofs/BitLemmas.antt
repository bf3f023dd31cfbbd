-- Bits of numbers.
use Rattle.std.proofs.Common.{◌≡◌, ℕ, zero, suc, ◌+◌, ◌-◌, ◌*◌, ◌/◌, ◌%◌, ◌^◌, ◌<◌, ◌≤◌, inl, inr, Bool, true, false, sym, ap, subst, ◌∙◌, arith, bit_and, bit_or, max}
use Rattle.std.specs.Prelude.{bit_xor, if◌then◌else◌}
use Rattle.std.specs.Int.{bit_at}
use Rattle.std.proofs.lemmas.Bool.{cases_lt}
use Rattle.std.proofs.Math.Nat.{mod-add-mod}
use Rattle.std.proofs.lemmas.Nat.{pow_pos, shr-shr, shr_split, mod_below}
use Rattle.std.proofs.lemmas.Nat.Bits.{bit_at-lt, bit_at-zero, bit_at_ones, bit_at_and, bit_at_or, bit_at_xor, bit_at_above, bit_at_cat_low, bit_at_cat_high, same_from_bits_below}
use Rattle.narrowed_netlists.specs.Masks.{AreIn}

-- ---- operators

pub in_or_l : (w n a b : ℕ) → AreIn w n a → AreIn w n (bit_or a b)
in_or_l w n a b h i lt = let e = bit_at_or a b i in let g = h i lt in omega (arith, e, g)

pub in_or_r : (w n a b : ℕ) → AreIn w n b → AreIn w n (bit_or a b)
in_or_r w n a b h i lt = let e = bit_at_or a b i in let g = h i lt in omega (arith, e, g)

pub in_and : (w x y a b : ℕ) → AreIn w x a → AreIn w y b → AreIn w (bit_and x y) (bit_and a b)
in_and w x y a b h k i lt = let e = bit_at_and x y i in let f = bit_at_and a b i in let g = h i lt in let j = k i lt in omega (arith, e, f, g, j)

pub in_or : (w x y a b : ℕ) → AreIn w x a → AreIn w y b → AreIn w (bit_or x y) (bit_or a b)
in_or w x y a b h k i lt = let e = bit_at_or x y i in let f = bit_at_or a b i in let g = h i lt in let j = k i lt in omega (arith, e, f, g, j)

pub in_xor : (w x y a b : ℕ) → AreIn w x a → AreIn w y b → AreIn w (bit_xor x y) (bit_or a b)
in_xor w x y a b h k i lt =
    let e = bit_at_xor x y i in let f = bit_at_or a b i in let g = h i lt in let j = k i lt in let p = bit_at-lt x i in let q = bit_at-lt y i in
    mixed (bit_at (bit_xor x y) i) (bit_at (bit_or a b) i) (bit_at x i) (bit_at y i) (bit_at a i) (bit_at b i) e f g j p q
  where
    mixed : (r s x y a b : ℕ) → r ≡ (x + y) % 2 → s ≡ max a b → x ≤ a → y ≤ b → x < 2 → y < 2 → r ≤ s
    mixed r s x y a b e f g j p q = omega arith

pub in_choice : (w x y a b : ℕ) (t : Bool) → AreIn w x a → AreIn w y b → AreIn w (if t then y else x) (bit_or a b)
in_choice w x y a b true h k = in_or_r w y a b k
in_choice w x y a b false h k = in_or_l w x a b h

pub in_trans : (w a b c : ℕ) → AreIn w a b → AreIn w b c → AreIn w a c
in_trans w a b c h k i lt = let g = h i lt in let j = k i lt in omega (arith, g, j)

-- a mask that holds a sum of bits unchanged
pub in_same : (w n mask more : ℕ) → bit_or mask more ≡ mask → AreIn w n more → AreIn w n mask
in_same w n mask more e h = subst (AreIn w n) e (in_or_r w n mask more h)

-- ---- cuts

pub bit_at_mod : (n k i : ℕ) → i < k → bit_at (n % 2 ^ k) i ≡ bit_at n i
bit_at_mod n k i lt = sym (bit_at_cat_low (n / 2 ^ k) k (n % 2 ^ k) i lt) ∙ ap (λ x. bit_at x i) (shr_split n k)

pub bit_at_shr : (n k i : ℕ) → bit_at (n / 2 ^ k) i ≡ bit_at n (k + i)
bit_at_shr n k i = ap (λ x. x % 2) (shr-shr n k i)

pub in_cut : (w n mask : ℕ) → AreIn w n mask → AreIn w n (mask % 2 ^ w)
in_cut w n mask h i lt = let e = bit_at_mod mask w i lt in let g = h i lt in omega (arith, e, g)

-- ---- the number's own bits

pub in_ones : (w n mask : ℕ) → ((i : ℕ) → i < w → bit_at mask i ≡ 1) → AreIn w n mask
in_ones w n mask h i lt = let e = h i lt in let f = bit_at-lt n i in omega (arith, e, f)

pub in_one : (w n : ℕ) → n < 2 → AreIn w n 1
in_one w zero lt i l = let e = bit_at-zero i in omega (arith, e)
in_one w (suc zero) lt i l = omega arith
in_one w (suc (suc n)) lt i l = absurd (omega arith)

pub in_slice : (v w x mask low k : ℕ) → x < 2 ^ v → AreIn v x mask → AreIn w (x / 2 ^ low % 2 ^ k) (mask / 2 ^ low)
in_slice v w x mask low k fits h i lt = elim (cases_lt i k) [
  | inl less ↦ (let e = bit_at_mod (x / 2 ^ low) k i less in let f = bit_at_shr x low i in let g = bit_at_shr mask low i in
      elim (cases_lt (low + i) v) [
        | inl inside ↦ (let j = h (low + i) inside in omega (arith, e, f, g, j))
        | inr over ↦ (let j = bit_at_above x v (low + i) fits over in omega (arith, e, f, j))
      ])
  | inr more ↦ (let e = bit_at_above (x / 2 ^ low % 2 ^ k) k i (mod_below (x / 2 ^ low) (2 ^ k) (pow_pos k)) more in omega (arith, e))
]

-- the bits of one number before those of another, where 2 ^ 128 is too much
pub in_concat : (v w k x y a b : ℕ) → w ≤ 128 → v + k ≡ w → y < 2 ^ k → AreIn v x a → AreIn k y b → AreIn w (x * 2 ^ k + y) (bit_or (a * 2 ^ k % 2 ^ 128) b)
in_concat v w k x y a b small sum fits h g i lt =
    let o = bit_at_or (a * 2 ^ k % 2 ^ 128) b i in
    let m = bit_at_mod (a * 2 ^ k) 128 i (omega arith) in
    elim (cases_lt i k) [
      | inl less ↦ (let e = bit_at_cat_low x k y i less in let j = g i less in omega (arith, o, e, j))
      | inr more ↦
          (let e = bit_at_cat_high x k y i fits more in
          let plain : a * 2 ^ k + 0 ≡ a * 2 ^ k = omega arith in
          let f = bit_at_cat_high a k 0 i (pow_pos k) more in
          let s = ap (λ t. bit_at t i) plain in
          let j = h (i - k) (omega (arith, lt, more, sum)) in
          omega (arith, o, m, e, f, s, j))
    ]

-- ---- low zeros

pub low_zeros_are : (x t : ℕ) → ((i : ℕ) → i < t → bit_at x i ≡ 0) → x % 2 ^ t ≡ 0
low_zeros_are x t h =
    same_from_bits_below t (x % 2 ^ t) 0 (mod_below x (2 ^ t) (pow_pos t)) (pow_pos t) (λ i lt. bit_at_mod x t i lt ∙ h i lt ∙ sym (bit_at-zero i))

multiple : (x t i : ℕ) → x % 2 ^ t ≡ 0 → i < t → bit_at x i ≡ 0
multiple x t i e lt = sym (bit_at_mod x t i lt) ∙ ap (λ y. bit_at y i) e ∙ bit_at-zero i

sum_zero : (x y m : ℕ) → x % m ≡ 0 → y % m ≡ 0 → (x + y) % m ≡ 0
sum_zero x y m e f = let plain : 0 + y ≡ y = omega arith in sym (mod-add-mod x m y) ∙ ap (λ t. (t + y) % m) e ∙ ap (λ t. t % m) plain ∙ f

pub in_sum : (w x y a b bits t : ℕ) → AreIn w x a → AreIn w y b → ((i : ℕ) → i < t → bit_at (bit_or a b) i ≡ 0) → ((i : ℕ) → t ≤ i → i < w → bit_at bits i ≡ 1) → AreIn w ((x + y) % 2 ^ w) bits
in_sum w x y a b bits t h k below above i lt = elim (cases_lt i t) [
  | inr from ↦ (let e = above i from lt in let f = bit_at-lt ((x + y) % 2 ^ w) i in omega (arith, e, f))
  | inl less ↦ (let x_zero = low_zeros_are x (suc i) (λ j l. zero_bit x a less j l (h j) (in_or_l w a a b (λ e f. omega arith) j)) in
      let y_zero = low_zeros_are y (suc i) (λ j l. zero_bit y b less j l (k j) (in_or_r w b a b (λ e f. omega arith) j)) in
      let e = bit_at_mod (x + y) w i lt in
      let f = multiple (x + y) (suc i) i (sum_zero x y (2 ^ suc i) x_zero y_zero) (omega arith) in
      omega (arith, e, f))
] where
  zero_bit : (n c : ℕ) → i < t → (j : ℕ) → j < suc i → (j < w → bit_at n j ≤ bit_at c j) → (j < w → bit_at c j ≤ bit_at (bit_or a b) j) → bit_at n j ≡ 0
  zero_bit n c less_than j l p q =
      let inside : j < w = omega (arith, l, lt) in
      let e = p inside in let f = q inside in let g = below j (omega (arith, l, less_than)) in omega (arith, e, f, g)

-- ---- masks

pub all_ones_shl : (t i : ℕ) → t ≤ i → i < 128 → bit_at (340282366920938463463374607431768211455 * 2 ^ t % 2 ^ 128) i ≡ 1
all_ones_shl t i from lt =
    let plain : (2 ^ 128 - 1) * 2 ^ t + 0 ≡ (2 ^ 128 - 1) * 2 ^ t = omega arith in
    bit_at_mod ((2 ^ 128 - 1) * 2 ^ t) 128 i lt ∙ sym (ap (λ x. bit_at x i) plain) ∙ bit_at_cat_high (2 ^ 128 - 1) t 0 i (pow_pos t) from ∙ bit_at_ones 128 (i - t) (omega (arith, from, lt))

-- ones in a gap alone
gap_low : (a low i : ℕ) → i < low → i < 128 → bit_at (a * 2 ^ low % 2 ^ 128) i ≡ 0
gap_low a low i less lt =
    let plain : a * 2 ^ low + 0 ≡ a * 2 ^ low = omega arith in
    bit_at_mod (a * 2 ^ low) 128 i lt ∙ sym (ap (λ x. bit_at x i) plain) ∙ bit_at_cat_low a low 0 i less ∙ bit_at-zero i

gap_high : (a low zeros i : ℕ) → a < 2 ^ zeros → low + zeros ≤ i → i < 128 → bit_at (a * 2 ^ low % 2 ^ 128) i ≡ 0
gap_high a low zeros i few more lt =
    let plain : a * 2 ^ low + 0 ≡ a * 2 ^ low = omega arith in
    bit_at_mod (a * 2 ^ low) 128 i lt ∙ sym (ap (λ x. bit_at x i) plain) ∙ bit_at_cat_high a low 0 i (pow_pos low) (omega (arith, more)) ∙ bit_at_above a zeros (i - low) few (omega (arith, more))

turned : (m i : ℕ) → i < 128 → bit_at m i ≡ 0 → bit_at (bit_xor 340282366920938463463374607431768211455 m) i ≡ 1
turned m i lt e = bit_at_xor (2 ^ 128 - 1) m i ∙ ap (λ b. (bit_at (2 ^ 128 - 1) i + b) % 2) e ∙ ap (λ b. (b + 0) % 2) (bit_at_ones 128 i lt)

pub below_gap : (low zeros i : ℕ) → i < low → low ≤ 128 → bit_at (bit_xor 340282366920938463463374607431768211455 ((340282366920938463463374607431768211455 % 2 ^ zeros) * 2 ^ low % 2 ^ 128)) i ≡ 1
below_gap low zeros i less small = turned _ i (omega arith) (gap_low (340282366920938463463374607431768211455 % 2 ^ zeros) low i less (omega arith))

pub above_gap : (low zeros i : ℕ) → low + zeros ≤ i → i < 128 → bit_at (bit_xor 340282366920938463463374607431768211455 ((340282366920938463463374607431768211455 % 2 ^ zeros) * 2 ^ low % 2 ^ 128)) i ≡ 1
above_gap low zeros i more lt = turned _ i lt (gap_high (340282366920938463463374607431768211455 % 2 ^ zeros) low zeros i (mod_below 340282366920938463463374607431768211455 (2 ^ zeros) (pow_pos zeros)) more lt)

-- ---- gaps

-- a number that keeps to a mask with a gap has the gap
pub open_in : (w n mask low zeros : ℕ) → low + zeros ≤ w → AreIn w n mask → mask / 2 ^ low % 2 ^ zeros ≡ 0 → n / 2 ^ low % 2 ^ zeros ≡ 0
open_in w n mask low zeros inside h e =
    low_zeros_are (n / 2 ^ low) zeros (λ i lt. (let f = bit_at_shr n low i in let g = bit_at_shr mask low i in let z = multiple (mask / 2 ^ low) zeros i e lt in
    let j = h (low + i) (omega (arith, inside, lt)) in omega (arith, f, g, z, j)))

-- and a number with the gap keeps to each mask with all bits beside it
pub in_outside : (w n mask low zeros : ℕ) → n / 2 ^ low % 2 ^ zeros ≡ 0 → ((i : ℕ) → i < low → bit_at mask i ≡ 1) → ((i : ℕ) → low + zeros ≤ i → i < w → bit_at mask i ≡ 1) → AreIn w n mask
in_outside w n mask low zeros e below above i lt = elim (cases_lt i low) [
  | inl less ↦ (let f = below i less in let g = bit_at-lt n i in omega (arith, f, g))
  | inr from ↦ elim (cases_lt i (low + zeros)) [
    | inl within ↦
        (let z = multiple (n / 2 ^ low) zeros (i - low) e (omega (arith, from, within)) in
        let s = bit_at_shr n low (i - low) in
        let back : low + (i - low) ≡ i = omega (arith, from) in
        let b = ap (λ x. bit_at n x) back in omega (arith, z, s, b))
    | inr more ↦ (let f = above i more lt in let g = bit_at-lt n i in omega (arith, f, g))
  ]
]

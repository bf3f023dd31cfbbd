-- Numbers of 128 bits by their halves of 64.
use Rattle.std.proofs.Common.{◌≡◌, ℕ, ◌+◌, ◌-◌, ◌*◌, ◌/◌, ◌%◌, ◌^◌, ◌<◌, ◌≤◌, Bool, true, false, List, length, get_or, set, inl, inr, zero, suc, ltb, eqb, bit_or, refl, sym, subst, ap, ◌∙◌, arith}
use Rattle.std.proofs.lemmas.List.{get_or-set_same, get_or-set_other}
use Rattle.std.proofs.lemmas.Option.{get_or_from_slice_get, slice_get_read}
use Rattle.lane_sim.specs.Planes.{lane}
use Rattle.lane_sim.specs.LaneWords.{word_in}
use Rattle.std.specs.Prelude.{if◌then◌else◌}
use Rattle.av_base.specs.Word.{Word, word}
use Rattle.std.proofs.Math.Nat.{mod-eq_of_lt, mod-lt, add-mul-mod_self_right, pow-le-pow_right}
use Rattle.std.proofs.Math.Pow.{mod-mod-pow, not_mod}
use Rattle.std.proofs.lemmas.Bool.{cases_lt, ltb-true, ltb-false, eqb-true, eqb-false, eq-eqb, ne_eqb}
use Rattle.std.proofs.lemmas.Nat.{mod-pow-add, pow_pos, pow-add, le_or_l, le_or_r}

-- the low bits of a number that is given by halves
pub low_of_low : (s w : ℕ) → w ≤ 64 → s % 2 ^ 64 % 2 ^ w ≡ s % 2 ^ w
low_of_low s w le =
    let e : 64 ≡ (64 - w) + w = omega arith in
    ap (λ n. s % 2 ^ n % 2 ^ w) e ∙ mod-mod-pow s (64 - w) w

pub halves : (s : ℕ) → s / 2 ^ 64 * 2 ^ 64 + s % 2 ^ 64 ≡ s
halves s = omega arith

pub low_of_halves : (s w : ℕ) → w ≤ 128 → (s / 2 ^ 64 % 2 ^ 64 * 2 ^ 64 + s % 2 ^ 64) % 2 ^ w ≡ s % 2 ^ w
low_of_halves s w le =
    let whole : s / 2 ^ 64 % 2 ^ 64 * 2 ^ 64 + s % 2 ^ 64 ≡ s % 2 ^ 128 = sym (mod-pow-add s 64 64) in
    let e : 128 ≡ (128 - w) + w = omega arith in
    ap (λ n. n % 2 ^ w) whole ∙ ap (λ n. s % 2 ^ n % 2 ^ w) e ∙ mod-mod-pow s (128 - w) w

-- a carry out of the low half
carry_is : (a b : ℕ) → a < 2 ^ 64 → b < 2 ^ 64 → (if ltb ((a + b) % 2 ^ 64) a then 1 else 0) ≡ (a + b) / 2 ^ 64
carry_is a b h k = by_test (ltb ((a + b) % 2 ^ 64) a) refl where
  by_test : (t : Bool) → ltb ((a + b) % 2 ^ 64) a ≡ t → (if ltb ((a + b) % 2 ^ 64) a then 1 else 0) ≡ (a + b) / 2 ^ 64
  by_test true e = (let lt = ltb-true ((a + b) % 2 ^ 64) a e in let is : 1 ≡ (a + b) / 2 ^ 64 = omega arith in rw e is)
  by_test false e = (let le = ltb-false ((a + b) % 2 ^ 64) a e in let is : 0 ≡ (a + b) / 2 ^ 64 = omega arith in rw e is)

-- the high half of a sum
pub high_sum : (x y : ℕ) → ((x / 2 ^ 64 + y / 2 ^ 64) % 2 ^ 64 + (if ltb ((x % 2 ^ 64 + y % 2 ^ 64) % 2 ^ 64) (x % 2 ^ 64) then 1 else 0)) % 2 ^ 64 ≡ (x + y) / 2 ^ 64 % 2 ^ 64
high_sum x y =
    let c = carry_is (x % 2 ^ 64) (y % 2 ^ 64) (omega arith) (omega arith) in
    ap (λ n. ((x / 2 ^ 64 + y / 2 ^ 64) % 2 ^ 64 + n) % 2 ^ 64) c ∙ omega arith

pub low_sum : (x y : ℕ) → (x % 2 ^ 64 + y % 2 ^ 64) % 2 ^ 64 ≡ (x + y) % 2 ^ 64
low_sum x y = omega arith

-- a number of halves
pub low_half : (h l : ℕ) → l < 2 ^ 64 → l ≡ (h * 2 ^ 64 + l) % 2 ^ 64
low_half h l lt = omega arith

pub high_half : (h l : ℕ) → l < 2 ^ 64 → h ≡ (h * 2 ^ 64 + l) / 2 ^ 64
high_half h l lt = omega arith

pub narrow_is : (h l m w : ℕ) → h ≡ 0 → m ≡ l % 2 ^ w → h * 2 ^ 64 + m ≡ l % 2 ^ w
narrow_is h l m w z e = omega (arith, z, e)

-- a number whose high half was cut
pub wide_is : (h l m w : ℕ) → 64 < w → w ≤ 128 → l < 2 ^ 64 → m ≡ h % 2 ^ (w - 64) → m * 2 ^ 64 + l ≡ (h * 2 ^ 64 + l) % 2 ^ w
wide_is h l m w over le lt e =
    let split : w ≡ (w - 64) + 64 = omega arith in
    let is = mod-pow-add (h * 2 ^ 64 + l) (w - 64) 64 in
    let low : (h * 2 ^ 64 + l) % 2 ^ 64 ≡ l = sym (low_half h l lt) in
    let high : (h * 2 ^ 64 + l) / 2 ^ 64 ≡ h = sym (high_half h l lt) in
    ap (λ n. n * 2 ^ 64 + l) e
    ∙ ap (λ n. n % 2 ^ (w - 64) * 2 ^ 64 + l) (sym high)
    ∙ ap (λ n. (h * 2 ^ 64 + l) / 2 ^ 64 % 2 ^ (w - 64) * 2 ^ 64 + n) (sym low)
    ∙ sym is ∙ ap (λ n. (h * 2 ^ 64 + l) % 2 ^ n) (sym split)

pub below_power : (n w : ℕ) → n % 2 ^ w < 2 ^ w
below_power n w = mod-lt n (pow_pos w)

-- a sum of two halves each
pub narrow_sum : (w x y l : ℕ) → w ≤ 64 → l ≡ (x % 2 ^ 64 + y % 2 ^ 64) % 2 ^ 64 → l % 2 ^ w ≡ (x + y) % 2 ^ w
narrow_sum w x y l le e = ap (λ n. n % 2 ^ w) (e ∙ low_sum x y) ∙ low_of_low (x + y) w le

pub wide_sum : (w x y h l : ℕ) → w ≤ 128 → h ≡ ((x / 2 ^ 64 + y / 2 ^ 64) % 2 ^ 64 + (if ltb l (x % 2 ^ 64) then 1 else 0)) % 2 ^ 64 →
    l ≡ (x % 2 ^ 64 + y % 2 ^ 64) % 2 ^ 64 → (h * 2 ^ 64 + l) % 2 ^ w ≡ (x + y) % 2 ^ w
wide_sum w x y h l le eh el =
    let high : h ≡ (x + y) / 2 ^ 64 % 2 ^ 64 = eh ∙ ap (λ n. ((x / 2 ^ 64 + y / 2 ^ 64) % 2 ^ 64 + (if ltb n (x % 2 ^ 64) then 1 else 0)) % 2 ^ 64) el ∙ high_sum x y in
    ap (λ n. (n * 2 ^ 64 + l) % 2 ^ w) high ∙ ap (λ n. ((x + y) / 2 ^ 64 % 2 ^ 64 * 2 ^ 64 + n) % 2 ^ w) (el ∙ low_sum x y) ∙ low_of_halves (x + y) w le

-- an operator on bits, by halves
pub narrow_bits : (f : ℕ → ℕ → ℕ) → ((a b k : ℕ) → f a b % 2 ^ k ≡ f (a % 2 ^ k) (b % 2 ^ k)) → (w x y l : ℕ) → w ≤ 64 → x < 2 ^ w → y < 2 ^ w → l ≡ f (x % 2 ^ 64) (y % 2 ^ 64) → l % 2 ^ w ≡ f x y
narrow_bits f mods w x y l le hx hy e =
    ap (λ n. n % 2 ^ w) e ∙ ap (λ n. n % 2 ^ w) (sym (mods x y 64)) ∙ low_of_low (f x y) w le ∙ mods x y w
    ∙ ap (λ n. f n (y % 2 ^ w)) (mod-eq_of_lt hx) ∙ ap (f x) (mod-eq_of_lt hy)

pub wide_bits : (f : ℕ → ℕ → ℕ) → ((a b k : ℕ) → f a b % 2 ^ k ≡ f (a % 2 ^ k) (b % 2 ^ k)) → ((a b k : ℕ) → f a b / 2 ^ k ≡ f (a / 2 ^ k) (b / 2 ^ k)) →
    (w x y h l : ℕ) → x < 2 ^ w → y < 2 ^ w → h ≡ f (x / 2 ^ 64) (y / 2 ^ 64) → l ≡ f (x % 2 ^ 64) (y % 2 ^ 64) → (h * 2 ^ 64 + l) % 2 ^ w ≡ f x y
wide_bits f mods divs w x y h l hx hy eh el =
    ap (λ n. (n * 2 ^ 64 + l) % 2 ^ w) (eh ∙ sym (divs x y 64)) ∙ ap (λ n. (f x y / 2 ^ 64 * 2 ^ 64 + n) % 2 ^ w) (el ∙ sym (mods x y 64))
    ∙ ap (λ n. n % 2 ^ w) (halves (f x y)) ∙ mods x y w ∙ ap (λ n. f n (y % 2 ^ w)) (mod-eq_of_lt hx) ∙ ap (f x) (mod-eq_of_lt hy)

-- ---- answers of operators

pub word_is : (w v m n : ℕ) → w ≡ v → m ≡ n → word w m ≡ word v n
word_is w v m n e k = ap (λ u. word u m) e ∙ ap (word v) k

pub fits_in : (w v n : ℕ) → w ≡ v → n < 2 ^ v → n < 2 ^ w
fits_in w v n e h = subst (λ u. n < 2 ^ u) (sym e) h

pub both : (f : ℕ → ℕ → ℕ) (r a b p q : ℕ) → r ≡ f a b → a ≡ p → b ≡ q → r ≡ f p q
both f r a b p q e ea eb = e ∙ ap (λ t. f t b) ea ∙ ap (f p) eb

pub three : (f : ℕ → ℕ → ℕ → ℕ) (r a b c p q t : ℕ) → r ≡ f a b c → a ≡ p → b ≡ q → c ≡ t → r ≡ f p q t
three f r a b c p q t e ea eb ec = e ∙ ap (λ n. f n b c) ea ∙ ap (λ n. f p n c) eb ∙ ap (f p q) ec

-- a difference modulo more than the width
difference_is : (w n x y : ℕ) → w ≤ n → y ≤ 2 ^ w → (x + (2 ^ n - y)) % 2 ^ w ≡ (x + (2 ^ w - y)) % 2 ^ w
difference_is w n x y le h =
    let split : 2 ^ n ≡ 2 ^ (n - w) * 2 ^ w = (let e : n ≡ (n - w) + w = omega arith in ap (λ m. 2 ^ m) e ∙ pow-add 2 (n - w) w) in
    let some : 0 < 2 ^ (n - w) = pow_pos (n - w) in
    let less : (2 ^ (n - w) - 1) * 2 ^ w + 2 ^ w ≡ 2 ^ (n - w) * 2 ^ w = one_less (2 ^ (n - w)) (2 ^ w) some in
    let is : x + (2 ^ n - y) ≡ x + (2 ^ w - y) + (2 ^ (n - w) - 1) * 2 ^ w = omega (arith, split, less, h) in
    ap (λ m. m % 2 ^ w) is ∙ add-mul-mod_self_right (x + (2 ^ w - y)) (2 ^ (n - w) - 1) (2 ^ w) where
      one_less : (a b : ℕ) → 0 < a → (a - 1) * b + b ≡ a * b
      one_less zero b h = absurd (omega arith)
      one_less (suc a) b h = (let e : suc a - 1 ≡ a = omega arith in ap (λ m. m * b + b) e ∙ grind arith)

pub narrow_difference : (w x y l : ℕ) → w ≤ 64 → x < 2 ^ w → y < 2 ^ w → l ≡ (x % 2 ^ 64 + (2 ^ 64 - y % 2 ^ 64)) % 2 ^ 64 → l % 2 ^ w ≡ (x + (2 ^ w - y)) % 2 ^ w
narrow_difference w x y l le hx hy e =
    let p : 2 ^ w ≤ 2 ^ 64 = pow-le-pow_right {n = 2} (omega arith) le in
    let x_is : x % 2 ^ 64 ≡ x = mod-eq_of_lt (omega (arith, p, hx)) in
    let y_is : y % 2 ^ 64 ≡ y = mod-eq_of_lt (omega (arith, p, hy)) in
    ap (λ n. n % 2 ^ w) (e ∙ ap (λ n. (n + (2 ^ 64 - y % 2 ^ 64)) % 2 ^ 64) x_is ∙ ap (λ n. (x + (2 ^ 64 - n)) % 2 ^ 64) y_is)
    ∙ low_of_low (x + (2 ^ 64 - y)) w le ∙ difference_is w 64 x y le (omega arith)

borrow_is : (x y : ℕ) → x < 2 ^ 128 → y < 2 ^ 128 → ((x / 2 ^ 64 + (2 ^ 64 - y / 2 ^ 64)) % 2 ^ 64 + (2 ^ 64 - (if ltb (x % 2 ^ 64) (y % 2 ^ 64) then 1 else 0))) % 2 ^ 64 ≡ (x + (2 ^ 128 - y)) / 2 ^ 64 % 2 ^ 64
borrow_is x y h k = by_test (ltb (x % 2 ^ 64) (y % 2 ^ 64)) refl where
  by_test : (t : Bool) → ltb (x % 2 ^ 64) (y % 2 ^ 64) ≡ t →
      ((x / 2 ^ 64 + (2 ^ 64 - y / 2 ^ 64)) % 2 ^ 64 + (2 ^ 64 - (if ltb (x % 2 ^ 64) (y % 2 ^ 64) then 1 else 0))) % 2 ^ 64 ≡ (x + (2 ^ 128 - y)) / 2 ^ 64 % 2 ^ 64
  by_test true e = (let lt = ltb-true (x % 2 ^ 64) (y % 2 ^ 64) e in
      let is : ((x / 2 ^ 64 + (2 ^ 64 - y / 2 ^ 64)) % 2 ^ 64 + (2 ^ 64 - 1)) % 2 ^ 64 ≡ (x + (2 ^ 128 - y)) / 2 ^ 64 % 2 ^ 64 = omega arith in rw e is)
  by_test false e = (let le = ltb-false (x % 2 ^ 64) (y % 2 ^ 64) e in
      let is : ((x / 2 ^ 64 + (2 ^ 64 - y / 2 ^ 64)) % 2 ^ 64 + (2 ^ 64 - 0)) % 2 ^ 64 ≡ (x + (2 ^ 128 - y)) / 2 ^ 64 % 2 ^ 64 = omega arith in rw e is)

pub wide_difference : (w x y h l : ℕ) → w ≤ 128 → x < 2 ^ w → y < 2 ^ w →
    h ≡ ((x / 2 ^ 64 + (2 ^ 64 - y / 2 ^ 64)) % 2 ^ 64 + (2 ^ 64 - (if ltb (x % 2 ^ 64) (y % 2 ^ 64) then 1 else 0))) % 2 ^ 64 → l ≡ (x % 2 ^ 64 + (2 ^ 64 - y % 2 ^ 64)) % 2 ^ 64 →
    (h * 2 ^ 64 + l) % 2 ^ w ≡ (x + (2 ^ w - y)) % 2 ^ w
wide_difference w x y h l le hx hy eh el =
    let p : 2 ^ w ≤ 2 ^ 128 = pow-le-pow_right {n = 2} (omega arith) le in
    let small_x : x < 2 ^ 128 = omega (arith, p, hx) in
    let small_y : y < 2 ^ 128 = omega (arith, p, hy) in
    let high = eh ∙ borrow_is x y small_x small_y in
    let low : l ≡ (x + (2 ^ 128 - y)) % 2 ^ 64 = el ∙ omega arith in
    ap (λ n. (n * 2 ^ 64 + l) % 2 ^ w) high ∙ ap (λ n. ((x + (2 ^ 128 - y)) / 2 ^ 64 % 2 ^ 64 * 2 ^ 64 + n) % 2 ^ w) low
    ∙ low_of_halves (x + (2 ^ 128 - y)) w le ∙ difference_is w 128 x y le (omega arith)

pub narrow_turned : (w x f l : ℕ) → w ≤ 64 → x < 2 ^ w → f + 1 ≡ 2 ^ 64 → l ≡ (f + (2 ^ 64 - x % 2 ^ 64)) % 2 ^ 64 → l % 2 ^ w ≡ 2 ^ w - 1 - x
narrow_turned w x f l le hx ef e =
    let p : 2 ^ w ≤ 2 ^ 64 = pow-le-pow_right {n = 2} (omega arith) le in
    let is : l ≡ 2 ^ 64 - 1 - x = omega (arith, p, hx, ef, e) in
    let n : 64 ≡ (64 - w) + w = omega arith in
    ap (λ m. m % 2 ^ w) is ∙ ap (λ m. (2 ^ m - 1 - x) % 2 ^ w) n ∙ not_mod (64 - w) w hx

pub wide_turned : (w x f g h l : ℕ) → w ≤ 128 → x < 2 ^ w → f + 1 ≡ 2 ^ 64 → g + 1 ≡ 2 ^ 64 → h ≡ (g + (2 ^ 64 - x / 2 ^ 64)) % 2 ^ 64 → l ≡ (f + (2 ^ 64 - x % 2 ^ 64)) % 2 ^ 64 → (h * 2 ^ 64 + l) % 2 ^ w ≡ 2 ^ w - 1 - x
wide_turned w x f g h l le hx ef eg eh el =
    let p : 2 ^ w ≤ 2 ^ 128 = pow-le-pow_right {n = 2} (omega arith) le in
    let is : h * 2 ^ 64 + l ≡ 2 ^ 128 - 1 - x = omega (arith, p, hx, ef, eg, eh, el) in
    let n : 128 ≡ (128 - w) + w = omega arith in
    ap (λ m. m % 2 ^ w) is ∙ ap (λ m. (2 ^ m - 1 - x) % 2 ^ w) n ∙ not_mod (128 - w) w hx

-- whether one of the halves has a bit
pub some_bit : (x r z o p : ℕ) → r ≡ bit_or (x % 2 ^ 64) (x / 2 ^ 64) → z ≡ 0 → o ≡ 1 → p ≡ (if eqb r 0 then z else o) → p % 2 ^ 1 ≡ (if eqb x 0 then 0 else 1)
some_bit x r z o p er ez eo ep = by_test (eqb r 0) refl where
  by_test : (t : Bool) → eqb r 0 ≡ t → p % 2 ^ 1 ≡ (if eqb x 0 then 0 else 1)
  by_test true e =
      (let none = eqb-true r 0 e in
      let low = le_or_l (x % 2 ^ 64) (x / 2 ^ 64) in
      let high = le_or_r (x % 2 ^ 64) (x / 2 ^ 64) in
      let zero_is : x ≡ 0 = omega (arith, none, er, low, high) in
      ap (λ n. n % 2 ^ 1) (ep ∙ ap (λ t. if t then z else o) e ∙ ez) ∙ ap (λ t. if t then 0 else 1) (sym (eq-eqb x 0 zero_is)))
  by_test false e =
      ap (λ n. n % 2 ^ 1) (ep ∙ ap (λ t. if t then z else o) e ∙ eo)
      ∙ ap (λ t. if t then 0 else 1) (sym (ne_eqb x 0 (λ z. eqb-false r 0 e (er ∙ ap (λ n. bit_or (n % 2 ^ 64) (n / 2 ^ 64)) z))))

pub picked_narrow : (w s l : ℕ) (a b : Word) → w ≤ 64 → w ≡ a.width → a.width ≡ b.width → a.bits < 2 ^ w → b.bits < 2 ^ w → s < 2 → l ≡ (if eqb (s % 2 ^ 64) 0 then b.bits % 2 ^ 64 else a.bits % 2 ^ 64) →
    word w (l % 2 ^ w) ≡ (if eqb s 0 then b else a)
picked_narrow w s l a b le wa ab ha hb hs e =
    let same : s % 2 ^ 64 ≡ s = omega arith in
    let is = e ∙ ap (λ n. if eqb n 0 then b.bits % 2 ^ 64 else a.bits % 2 ^ 64) same in
    by_test (eqb s 0) is where
      by_test : (t : Bool) → l ≡ (if t then b.bits % 2 ^ 64 else a.bits % 2 ^ 64) → word w (l % 2 ^ w) ≡ (if t then b else a)
      by_test true k = word_is w b.width (l % 2 ^ w) b.bits (wa ∙ ab) (ap (λ n. n % 2 ^ w) k ∙ low_of_low b.bits w le ∙ mod-eq_of_lt hb)
      by_test false k = word_is w a.width (l % 2 ^ w) a.bits wa (ap (λ n. n % 2 ^ w) k ∙ low_of_low a.bits w le ∙ mod-eq_of_lt ha)

pub picked_wide : (w s h l : ℕ) (a b : Word) → w ≡ a.width → a.width ≡ b.width → a.bits < 2 ^ w → b.bits < 2 ^ w → s < 2 → h ≡ (if eqb (s % 2 ^ 64) 0 then b.bits / 2 ^ 64 else a.bits / 2 ^ 64) →
    l ≡ (if eqb (s % 2 ^ 64) 0 then b.bits % 2 ^ 64 else a.bits % 2 ^ 64) → word w ((h * 2 ^ 64 + l) % 2 ^ w) ≡ (if eqb s 0 then b else a)
picked_wide w s h l a b wa ab ha hb hs eh el =
    let same : s % 2 ^ 64 ≡ s = omega arith in
    by_test (eqb s 0) (eh ∙ ap (λ n. if eqb n 0 then b.bits / 2 ^ 64 else a.bits / 2 ^ 64) same) (el ∙ ap (λ n. if eqb n 0 then b.bits % 2 ^ 64 else a.bits % 2 ^ 64) same) where
      of_halves : (x : Word) → w ≡ x.width → x.bits < 2 ^ w → h ≡ x.bits / 2 ^ 64 → l ≡ x.bits % 2 ^ 64 → word w ((h * 2 ^ 64 + l) % 2 ^ w) ≡ x
      of_halves x wx hx i k = word_is w x.width ((h * 2 ^ 64 + l) % 2 ^ w) x.bits wx (ap (λ n. (n * 2 ^ 64 + l) % 2 ^ w) i ∙ ap (λ n. (x.bits / 2 ^ 64 * 2 ^ 64 + n) % 2 ^ w) k ∙ ap (λ n. n % 2 ^ w) (halves x.bits) ∙ mod-eq_of_lt hx)

      by_test : (t : Bool) → h ≡ (if t then b.bits / 2 ^ 64 else a.bits / 2 ^ 64) → l ≡ (if t then b.bits % 2 ^ 64 else a.bits % 2 ^ 64) → word w ((h * 2 ^ 64 + l) % 2 ^ w) ≡ (if t then b else a)
      by_test true i k = of_halves b (wa ∙ ab) hb i k
      by_test false i k = of_halves a wa ha i k

-- lanes that are set one after another
pub set_lane : (xs : List ℕ) (n v : ℕ) (f : ℕ → ℕ) → n < length xs → v ≡ f n → ((k : ℕ) → k < n → lane xs k ≡ f k) → (k : ℕ) → k < n + 1 → lane (set xs n v) k ≡ f k
set_lane xs n v f lt e h k below = elim (cases_lt k n) [
  | inl less ↦ get_or-set_other xs n k v 0 (λ z. omega arith) ∙ h k less
  | inr le ↦ (let z : k ≡ n = omega arith in ap (lane (set xs n v)) z ∙ get_or-set_same xs n v 0 lt ∙ e ∙ ap f (sym z))
]

pub word_read : (values : List Word) (n : ℕ) (x : Word) → n < length values → x ≡ get_or values n x → x ≡ word_in values n
word_read values n x lt is = sym (get_or_from_slice_get values n x (word 0 0) (slice_get_read values (length values) n x refl lt is))

-- one value by its halves
pub narrow_value : (x : Word) (l : ℕ) → x.width ≤ 64 → x.bits < 2 ^ x.width → l ≡ x.bits % 2 ^ 64 → word x.width (l % 2 ^ x.width) ≡ x
narrow_value x l le fits e = ap (word x.width) (ap (λ n. n % 2 ^ x.width) e ∙ low_of_low x.bits x.width le ∙ mod-eq_of_lt fits)

pub wide_value : (x : Word) (h l : ℕ) → x.bits < 2 ^ x.width → h ≡ x.bits / 2 ^ 64 → l ≡ x.bits % 2 ^ 64 → word x.width ((h * 2 ^ 64 + l) % 2 ^ x.width) ≡ x
wide_value x h l fits eh el =
    ap (word x.width) (ap (λ n. (n * 2 ^ 64 + l) % 2 ^ x.width) eh ∙ ap (λ n. (x.bits / 2 ^ 64 * 2 ^ 64 + n) % 2 ^ x.width) el ∙ ap (λ n. n % 2 ^ x.width) (halves x.bits) ∙ mod-eq_of_lt fits)

-- where the width is known by another name
pub narrow_at : (w : ℕ) (x : Word) (l : ℕ) → w ≡ x.width → w ≤ 64 → x.bits < 2 ^ x.width → l ≡ x.bits % 2 ^ 64 → word w (l % 2 ^ w) ≡ x
narrow_at w x l e le fits is = ap (λ n. word n (l % 2 ^ n)) e ∙ narrow_value x l (subst (λ n. n ≤ 64) e le) fits is

pub wide_at : (w : ℕ) (x : Word) (h l : ℕ) → w ≡ x.width → x.bits < 2 ^ x.width → h ≡ x.bits / 2 ^ 64 → l ≡ x.bits % 2 ^ 64 → word w ((h * 2 ^ 64 + l) % 2 ^ w) ≡ x
wide_at w x h l e fits eh el = ap (λ n. word n ((h * 2 ^ 64 + l) % 2 ^ n)) e ∙ wide_value x h l fits eh el

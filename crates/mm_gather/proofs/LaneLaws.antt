-- The lanes of the lowest words, as numbers.
use Rattle.std.proofs.Common.{◌≡◌, ℕ, zero, suc, ◌+◌, ◌-◌, ◌*◌, ◌/◌, ◌%◌, ◌^◌, ◌<◌, ◌≤◌, ◌==◌, if◌then◌else◌, sym, subst, ap, ap₂, ◌∙◌, arith, add-mul, mul_assoc, one-mul, mul-le-mul_right, inl, inr}
use Rattle.std.specs.Int.Bits.{bit_and}
use Rattle.std.proofs.Math.Pow.{pow_mono, ones_lt}
use Rattle.std.proofs.lemmas.Bool.{cases_lt}
use Rattle.std.proofs.lemmas.Nat.{pow-add, pow_pos, mod-pow-add, mod-mul-add, div-mul-add, mul-mod_first, mul-mod_second, and_mask}
use Rattle.std.proofs.Math.Nat.{pow-suc, add_comm, mul_comm, mul-le-mul_left, mul-mod_left, mul-add, mod-add-div, mod-mod, mod-eq_of_lt, add-mul-mod_self_right, div-lt_iff_lt-mul, one-le-pow}
use Rattle.memory_links.specs.Gathers.{spread}

pub low_word_is : (lanes bit padding full made : ℕ) → bit < 2 → padding ≡ 0 → full ≡ 2 ^ lanes - 1 → made ≡ (if bit == 0 then padding else full) → made ≡ 2 ^ (lanes * bit) - 1
low_word_is lanes zero padding full made h z f e = let none : lanes * 0 ≡ 0 = omega arith in e ∙ z ∙ sym (ap (λ n. 2 ^ n - 1) none)
low_word_is lanes (suc zero) padding full made h z f e = let one : lanes * 1 ≡ lanes = omega arith in e ∙ f ∙ sym (ap (λ n. 2 ^ n - 1) one)
low_word_is lanes (suc (suc bit)) padding full made h z f e = absurd (omega arith)

pub more_words_are : (low half width high top none full many few made : ℕ) → top < 2 → high ≡ half → full ≡ 2 ^ high - 1 → none ≡ 0 → many ≡ low * 2 ^ high + full → few ≡ none * 2 ^ width + low → made ≡ (if top == 0 then few else many) →
    made ≡ (low + 1) * 2 ^ (half * top) - 1
more_words_are low half width high zero none full many few made h same f z m w e =
    let nothing : half * 0 ≡ 0 = omega arith in
    let rest : 0 * 2 ^ width + low ≡ (low + 1) * 1 - 1 = omega arith in
    e ∙ w ∙ ap (λ n. n * 2 ^ width + low) z ∙ rest ∙ sym (ap (λ n. (low + 1) * 2 ^ n - 1) nothing)
more_words_are low half width high (suc zero) none full many few made h same f z m w e =
    let one : half * 1 ≡ half = omega arith in
    let some = one-le-pow half 2 (omega arith) in
    let parts = add-mul low 1 (2 ^ half) in
    let single = one-mul (2 ^ half) in
    let sum : low * 2 ^ half + (2 ^ half - 1) ≡ (low + 1) * 2 ^ half - 1 = omega (arith, some, parts, single) in
    e ∙ m ∙ ap₂ (λ k n. low * 2 ^ k + n) same (f ∙ ap (λ n. 2 ^ n - 1) same) ∙ sum ∙ sym (ap (λ n. (low + 1) * 2 ^ n - 1) one)
more_words_are low half width high (suc (suc top)) none full many few made h same f z m w e = absurd (omega arith)

-- twice as many words, and one more
pub width_doubles : (lanes bits : ℕ) → 1 < bits → (width : ℕ) → width ≡ lanes * (2 ^ (bits - 1) - 1) → width + (width + lanes) ≡ lanes * (2 ^ bits - 1)
width_doubles lanes bits more width e =
    let size : bits ≡ suc (bits - 1) = omega (arith, more) in
    let twice : 2 ^ bits ≡ 2 ^ (bits - 1) * 2 = ap (λ n. 2 ^ n) size ∙ pow-suc 2 (bits - 1) in
    let some = one-le-pow (bits - 1) 2 (omega arith) in
    let half : 2 ^ (bits - 1) ≡ (2 ^ (bits - 1) - 1) + 1 = omega (arith, some) in
    let whole : 2 ^ bits - 1 ≡ (2 ^ (bits - 1) - 1) + ((2 ^ (bits - 1) - 1) + 1) = omega (arith, twice, some) in
    let first = mul-add lanes (2 ^ (bits - 1) - 1) ((2 ^ (bits - 1) - 1) + 1) in
    let second = mul-add lanes (2 ^ (bits - 1) - 1) 1 in
    let one : lanes * 1 ≡ lanes = omega arith in
    omega (arith, e, first, second, one) ∙ sym (ap (λ n. lanes * n) whole)

pub half_is : (lanes bits : ℕ) (width : ℕ) → width ≡ lanes * (2 ^ (bits - 1) - 1) → width + lanes ≡ lanes * 2 ^ (bits - 1)
half_is lanes bits width e =
    let some = one-le-pow (bits - 1) 2 (omega arith) in
    let half : (2 ^ (bits - 1) - 1) + 1 ≡ 2 ^ (bits - 1) = omega (arith, some) in
    let parts = mul-add lanes (2 ^ (bits - 1) - 1) 1 in
    let one : lanes * 1 ≡ lanes = omega arith in
    omega (arith, e, parts, one) ∙ ap (λ n. lanes * n) half

pub low_words_are : (lanes bits count top rest width low made : ℕ) → 1 < bits → count < 2 ^ bits → top ≡ count / 2 ^ (bits - 1) % 2 ^ (bits - 1 - (bits - 1) + 1) → rest ≡ count / 2 ^ 0 % 2 ^ (bits - 2 - 0 + 1) →
    width ≡ lanes * (2 ^ (bits - 1) - 1) → low ≡ 2 ^ (lanes * rest) - 1 → made ≡ (low + 1) * 2 ^ ((width + lanes) * top) - 1 → made ≡ 2 ^ (lanes * count) - 1
low_words_are lanes bits count top rest width low made more fits t r w l m =
    let half = 2 ^ (bits - 1) in
    let size : bits ≡ suc (bits - 1) = omega (arith, more) in
    let twice : 2 ^ bits ≡ half * 2 = ap (λ n. 2 ^ n) size ∙ pow-suc 2 (bits - 1) in
    let one : bits - 1 - (bits - 1) + 1 ≡ 1 = omega arith in
    let few : bits - 2 - 0 + 1 ≡ bits - 1 = omega (arith, more) in
    let top_is : top ≡ count / half = t ∙ ap (λ n. count / half % 2 ^ n) one ∙ mod-eq_of_lt ((div-lt_iff_lt-mul (one-le-pow (bits - 1) 2 (omega arith))).1 (omega (arith, fits, twice))) in
    let zero_is : count / 2 ^ 0 ≡ count = omega arith in
    let rest_is : rest ≡ count % half = r ∙ ap₂ (λ k n. k % 2 ^ n) zero_is few in
    let whole = mod-add-div count half in
    let sum : rest + half * top ≡ count = ap₂ (λ k n. k + half * n) rest_is top_is ∙ whole in
    let some = one-le-pow (lanes * rest) 2 (omega arith) in
    let low_is : low + 1 ≡ 2 ^ (lanes * rest) = omega (arith, l, some) in
    let by : (width + lanes) * top ≡ lanes * (half * top) = ap (λ n. n * top) (half_is lanes bits width w) ∙ mul_assoc lanes half top in
    let power : (low + 1) * 2 ^ ((width + lanes) * top) ≡ 2 ^ (lanes * count) =
    ap₂ (λ k n. k * 2 ^ n) low_is by ∙ sym (pow-add 2 (lanes * rest) (lanes * (half * top))) ∙ ap (λ n. 2 ^ n) (sym (mul-add lanes rest (half * top)) ∙ ap (λ n. lanes * n) sum) in
    m ∙ ap (λ n. n - 1) power

pub doubled_fits : (lanes bits : ℕ) → 1 < bits → (width : ℕ) → width ≡ lanes * (2 ^ (bits - 1) - 1) → lanes * 2 ^ bits ≤ 128 → width + (width + lanes) ≤ 128
doubled_fits lanes bits more width e few =
    let some = one-le-pow bits 2 (omega arith) in
    let one : 2 ^ bits ≡ (2 ^ bits - 1) + 1 = omega (arith, some) in
    let parts = mul-add lanes (2 ^ bits - 1) 1 in
    let whole : lanes * 2 ^ bits ≡ lanes * ((2 ^ bits - 1) + 1) = ap (λ n. lanes * n) one in
    let is = width_doubles lanes bits more width e in
    omega (arith, few, parts, whole, is)

-- ---- moved up

-- what is moved up past a width is lost
moved_up : (x j k : ℕ) → (x * 2 ^ k) % 2 ^ (j + k) ≡ (x % 2 ^ j) * 2 ^ k
moved_up x j k =
    let none : x * 2 ^ k ≡ x * 2 ^ k + 0 = omega arith in
    let back : (x * 2 ^ k) / 2 ^ k ≡ x = ap (λ n. n / 2 ^ k) none ∙ div-mul-add x (2 ^ k) 0 (one-le-pow k 2 (omega arith)) in
    let rest : (x % 2 ^ j) * 2 ^ k + 0 ≡ (x % 2 ^ j) * 2 ^ k = omega arith in
    mod-pow-add (x * 2 ^ k) j k ∙ ap₂ (λ a b. (a % 2 ^ j) * 2 ^ k + b) back (mul-mod_left x (2 ^ k)) ∙ rest

pub pushed_is : (net width by low padding padding_width moved made bit : ℕ) → bit < 2 → by < width → net < 2 ^ width → low ≡ net / 2 ^ 0 % 2 ^ (width - by - 1 - 0 + 1) → padding ≡ 0 → padding_width ≡ by → moved ≡ low * 2 ^ padding_width + padding →
    made ≡ (if bit == 0 then net else moved) → made ≡ (net * 2 ^ (by * bit)) % 2 ^ width
pushed_is net width by low padding padding_width moved made zero h less fits l z same m e =
    let none : by * 0 ≡ 0 = omega arith in
    let one : net * 1 ≡ net = omega arith in
    e ∙ sym (ap (λ n. (net * 2 ^ n) % 2 ^ width) none ∙ ap (λ n. n % 2 ^ width) one ∙ mod-eq_of_lt fits)
pushed_is net width by low padding padding_width moved made (suc zero) h less fits l z same m e =
    let single : by * 1 ≡ by = omega arith in
    let size : width - by - 1 - 0 + 1 ≡ width - by = omega (arith, less) in
    let whole : net / 2 ^ 0 ≡ net = omega arith in
    let all : width ≡ (width - by) + by = omega (arith, less) in
    let none : low * 2 ^ by + 0 ≡ low * 2 ^ by = omega arith in
    let low_is : low ≡ net % 2 ^ (width - by) = l ∙ ap₂ (λ k n. k % 2 ^ n) whole size in
    e ∙ m ∙ ap₂ (λ k n. low * 2 ^ k + n) same z ∙ none ∙ ap (λ n. n * 2 ^ by) low_is ∙ sym (moved_up net (width - by) by) ∙ ap (λ n. (net * 2 ^ by) % 2 ^ n) (sym all) ∙ ap (λ n. (net * 2 ^ n) % 2 ^ width) (sym single)
pushed_is net width by low padding padding_width moved made (suc (suc bit)) h less fits l z same m e = absurd (omega arith)

pub pushed_once : (net lanes place bit width made : ℕ) → place < 2 → bit ≡ place / 2 ^ 0 % 2 ^ (0 - 0 + 1) → made ≡ (net * 2 ^ (lanes * bit)) % 2 ^ width → made ≡ (net * 2 ^ (lanes * place)) % 2 ^ width
pushed_once net lanes place bit width made few b e =
    let whole : place / 2 ^ 0 ≡ place = omega arith in
    let is : bit ≡ place = b ∙ ap (λ n. n % 2) whole ∙ mod-eq_of_lt few in
    e ∙ ap (λ n. (net * 2 ^ (lanes * n)) % 2 ^ width) is

pub pushed_on : (net lanes bits place bit rest width moved made : ℕ) → 1 < bits → place < 2 ^ bits → bit ≡ place / 2 ^ 0 % 2 ^ (0 - 0 + 1) → rest ≡ place / 2 ^ 1 % 2 ^ (bits - 1 - 1 + 1) →
    moved ≡ (net * 2 ^ (lanes * bit)) % 2 ^ width → made ≡ (moved * 2 ^ (2 * lanes * rest)) % 2 ^ width → made ≡ (net * 2 ^ (lanes * place)) % 2 ^ width
pushed_on net lanes bits place bit rest width moved made more fits b r m e =
    let whole : place / 2 ^ 0 ≡ place = omega arith in
    let bit_is : bit ≡ place % 2 = b ∙ ap (λ n. n % 2) whole in
    let size : bits ≡ suc (bits - 1) = omega (arith, more) in
    let few : bits - 1 - 1 + 1 ≡ bits - 1 = omega (arith, more) in
    let below : place / 2 < 2 ^ (bits - 1) = (div-lt_iff_lt-mul (omega arith)).1 (subst (λ k. place < k) (ap (λ n. 2 ^ n) size ∙ pow-suc 2 (bits - 1)) fits) in
    let rest_is : rest ≡ place / 2 = r ∙ ap (λ k. place / 2 % 2 ^ k) few ∙ mod-eq_of_lt below in
    let parts = mod-add-div place 2 in
    let sum : place ≡ bit + 2 * rest = omega (arith, bit_is, rest_is, parts) in
    let second : 2 * lanes * rest ≡ lanes * (2 * rest) = ap (λ n. n * rest) (mul_comm 2 lanes) ∙ mul_assoc lanes 2 rest in
    let up = 2 ^ (2 * lanes * rest) in
    let one = net * 2 ^ (lanes * bit) in
    e ∙ ap (λ n. (n * up) % 2 ^ width) m ∙ ap (λ n. n % 2 ^ width) (mul_comm (one % 2 ^ width) up) ∙ mul-mod_second up one (2 ^ width)
    ∙ ap (λ n. n % 2 ^ width) (mul_comm up one ∙ mul_assoc net (2 ^ (lanes * bit)) up ∙ ap (λ n. net * n) (ap (λ n. 2 ^ (lanes * bit) * 2 ^ n) second ∙ sym (pow-add 2 (lanes * bit) (lanes * (2 * rest))) ∙ ap (λ n. 2 ^ n) (sym (mul-add lanes bit (2 * rest)) ∙ ap (λ n. lanes * n) (sym sum))))

-- a step that moves by no more than half of so many lanes
pub step_is_half : (lanes bits : ℕ) → 1 ≤ lanes → 1 ≤ bits → lanes + lanes ≤ lanes * 2 ^ bits
step_is_half lanes bits some more =
    let two : 2 ^ 1 ≤ 2 ^ bits = pow_mono more in
    let twice : lanes * 2 ≡ lanes + lanes = omega arith in
    let all = mul-le-mul_left lanes two in
    omega (arith, all, twice)

-- twice the lanes for half of the places
pub steps_double : (lanes bits : ℕ) → 1 < bits → 2 * lanes * 2 ^ (bits - 1) ≡ lanes * 2 ^ bits
steps_double lanes bits more =
    let size : bits ≡ suc (bits - 1) = omega (arith, more) in
    ap (λ n. n * 2 ^ (bits - 1)) (mul_comm 2 lanes) ∙ mul_assoc lanes 2 (2 ^ (bits - 1)) ∙ ap (λ n. lanes * n) (mul_comm 2 (2 ^ (bits - 1)) ∙ sym (ap (λ n. 2 ^ n) size ∙ pow-suc 2 (bits - 1)))

-- ---- the lanes of a burst

spread_parts : (lanes enables many more : ℕ) → spread lanes (many + more) enables ≡ spread lanes many enables + spread lanes more enables * 2 ^ (lanes * many)
spread_parts lanes enables zero more =
    let none : lanes * 0 ≡ 0 = omega arith in
    let count : zero + more ≡ more = omega arith in
    let one : spread lanes more enables ≡ 0 + spread lanes more enables * 1 = omega arith in
    ap (λ n. spread lanes n enables) count ∙ one ∙ sym (ap (λ n. 0 + spread lanes more enables * 2 ^ n) none)
spread_parts lanes enables (suc many) more =
    let b = 2 ^ lanes in
    let low = spread lanes many enables in
    let high = spread lanes more enables in
    let k = 2 ^ (lanes * many) in
    let count : suc many + more ≡ suc (many + more) = omega arith in
    let size : lanes * suc many ≡ lanes * many + lanes = omega arith in
    let power : 2 ^ (lanes * suc many) ≡ k * b = ap (λ n. 2 ^ n) size ∙ pow-add 2 (lanes * many) lanes in
    let parts = add-mul low (high * k) b in
    let higher = mul_assoc high k b in
    ap (λ n. spread lanes n enables) count ∙ ap (λ n. enables + n * b) (spread_parts lanes enables many more)
    ∙ (let all : enables + (low + high * k) * b ≡ (enables + low * b) + high * (k * b) = omega (arith, parts, higher) in all)
    ∙ sym (ap (λ n. (enables + low * b) + high * n) power)

spread_fits : (lanes enables many : ℕ) → enables < 2 ^ lanes → spread lanes many enables < 2 ^ (lanes * many)
spread_fits lanes enables zero h = pow_pos (lanes * 0)
spread_fits lanes enables (suc many) h =
    let b = 2 ^ lanes in
    let low = spread lanes many enables in
    let size : lanes * suc many ≡ lanes * many + lanes = omega arith in
    let power : 2 ^ (lanes * suc many) ≡ 2 ^ (lanes * many) * b = ap (λ n. 2 ^ n) size ∙ pow-add 2 (lanes * many) lanes in
    let step = mul-le-mul_right b (spread_fits lanes enables many h) in
    let next : suc low * b ≡ low * b + b = (let one : suc low ≡ low + 1 = omega arith in ap (λ n. n * b) one ∙ add-mul low 1 b ∙ ap (λ n. low * b + n) (one-mul b)) in
    omega (arith, power, step, next, h)

-- the lowest of more places
spread_low : (lanes enables many more : ℕ) → enables < 2 ^ lanes → spread lanes (many + more) enables % 2 ^ (lanes * many) ≡ spread lanes many enables
spread_low lanes enables many more h =
    ap (λ n. n % 2 ^ (lanes * many)) (spread_parts lanes enables many more)
    ∙ add-mul-mod_self_right (spread lanes many enables) (spread lanes more enables) (2 ^ (lanes * many)) ∙ mod-eq_of_lt (spread_fits lanes enables many h)

-- the low ones of more ones
ones_low : (j k : ℕ) → (2 ^ (j + k) - 1) % 2 ^ k ≡ 2 ^ k - 1
ones_low j k =
    let low = 2 ^ k in
    let high = pow_pos j in
    let some = pow_pos k in
    let power = pow-add 2 j k in
    let less : 2 ^ j ≡ (2 ^ j - 1) + 1 = omega (arith, high) in
    let parts : 2 ^ j * low ≡ (2 ^ j - 1) * low + low = ap (λ n. n * low) less ∙ add-mul (2 ^ j - 1) 1 low ∙ ap (λ n. (2 ^ j - 1) * low + n) (one-mul low) in
    let sum : 2 ^ (j + k) - 1 ≡ (2 ^ j - 1) * low + (low - 1) = omega (arith, power, parts, some) in
    ap (λ n. n % low) sum ∙ mod-mul-add (2 ^ j - 1) low (low - 1) (ones_lt k)

pub burst_low : (lanes places count enables all words few low : ℕ) → enables < 2 ^ lanes → all ≡ spread lanes places enables → words ≡ 2 ^ (lanes * count) - 1 → few ≡ words % 2 ^ (lanes * places) → low ≡ bit_and all few →
    low % 2 ^ (lanes * places) ≡ spread lanes count enables % 2 ^ (lanes * places)
burst_low lanes places count enables all words few low h a w f l = elim (cases_lt places count) [
  | inl more ↦ (
      let whole : count ≡ places + (count - places) = omega (arith, more) in
      let size : lanes * count ≡ lanes * (count - places) + lanes * places = ap (λ n. lanes * n) whole ∙ mul-add lanes places (count - places) ∙ add_comm (lanes * places) (lanes * (count - places)) in
      let few_is : few ≡ 2 ^ (lanes * places) - 1 = f ∙ ap (λ n. n % 2 ^ (lanes * places)) (w ∙ ap (λ n. 2 ^ n - 1) size) ∙ ones_low (lanes * (count - places)) (lanes * places) in
      ap (λ n. n % 2 ^ (lanes * places)) (l ∙ ap (bit_and all) few_is ∙ and_mask all (lanes * places)) ∙ mod-mod all (2 ^ (lanes * places))
      ∙ ap (λ n. n % 2 ^ (lanes * places)) a ∙ mod-eq_of_lt (spread_fits lanes enables places h)
      ∙ sym (ap (λ n. spread lanes n enables % 2 ^ (lanes * places)) whole ∙ spread_low lanes enables places (count - places) h))
  | inr less ↦ (
      let whole : places ≡ count + (places - count) = omega (arith, less) in
      let below : 2 ^ (lanes * count) ≤ 2 ^ (lanes * places) = pow_mono (mul-le-mul_left lanes less) in
      let some = pow_pos (lanes * count) in
      let few_is : few ≡ 2 ^ (lanes * count) - 1 = f ∙ ap (λ n. n % 2 ^ (lanes * places)) w ∙ mod-eq_of_lt (omega (arith, below, some)) in
      ap (λ n. n % 2 ^ (lanes * places))
      (l ∙ ap (bit_and all) few_is ∙ and_mask all (lanes * count) ∙ ap (λ n. n % 2 ^ (lanes * count)) (a ∙ ap (λ n. spread lanes n enables) whole) ∙ spread_low lanes enables count (places - count) h))
]

sliced : (x width : ℕ) → 1 ≤ width → x / 2 ^ 0 % 2 ^ (width - 1 - 0 + 1) ≡ x % 2 ^ width
sliced x width some =
    let whole : x / 2 ^ 0 ≡ x = omega arith in
    let size : width - 1 - 0 + 1 ≡ width = omega (arith, some) in
    ap₂ (λ k n. k % 2 ^ n) whole size

pub burst_is : (lanes places count enables place all words few low width low_width by made : ℕ) → enables < 2 ^ lanes → 1 ≤ width → width ≡ lanes * places → low_width ≡ lanes * places → by ≡ lanes → all ≡ spread lanes places enables →
    words ≡ 2 ^ (by * count) - 1 → few ≡ words / 2 ^ 0 % 2 ^ (width - 1 - 0 + 1) → low ≡ bit_and all few → made ≡ (low * 2 ^ (by * place)) % 2 ^ low_width → made ≡ (spread lanes count enables * 2 ^ (lanes * place)) % 2 ^ (lanes * places)
burst_is lanes places count enables place all words few low width low_width by made h some wide same is a w f l m =
    let k = 2 ^ (lanes * places) in
    let up = 2 ^ (lanes * place) in
    let few_is : few ≡ words % k = f ∙ sliced words width some ∙ ap (λ n. words % 2 ^ n) wide in
    let low_is = burst_low lanes places count enables all words few low h a (w ∙ ap (λ n. 2 ^ (n * count) - 1) is) few_is l in
    m ∙ ap₂ (λ n j. (low * 2 ^ (n * place)) % 2 ^ j) is same ∙ sym (mul-mod_first low up k) ∙ ap (λ n. (n * up) % k) low_is ∙ mul-mod_first (spread lanes count enables) up k

-- The places of a narrow number in a wide one.
use Rattle.std.proofs.Common.{◌≡◌, ℕ, zero, suc, ◌+◌, ◌-◌, ◌*◌, ◌/◌, ◌%◌, ◌^◌, ◌<◌, ◌≤◌, ◌==◌, if◌then◌else◌, refl, sym, subst, ap, ap₂, ◌∙◌, arith, add-mul, mul_assoc, mul-le-mul_right, zero-mul, one-mul}
use Rattle.std.proofs.lemmas.Nat.{pow-add, pow_pos, mod-pow-add, div-mul-add}
use Rattle.std.proofs.Math.Nat.{pow-suc, mul-le-mul_left, mul-add, mul_comm, mod-add-div, mod-eq_of_lt, mod-lt, div-lt_iff_lt-mul, div-div-eq-div-mul, one-le-pow}
use Rattle.std.proofs.Math.Pow.{mod-mod-pow}
use Rattle.mm_select.specs.Laws.{byte_powers}
use Rattle.memory_links.specs.Gathers.{spread}
use Rattle.memory_links.specs.Selects.{repeated}

-- ---- moved to a place

twice_is : (n : ℕ) → n * 2 ≡ n + n
twice_is n = omega arith

pub double_width : (w bits : ℕ) → 1 ≤ bits → (w + w) * 2 ^ (bits - 1) ≡ w * 2 ^ bits
double_width w bits some =
    let more : bits ≡ suc (bits - 1) = omega (arith, some) in
    add-mul w w (2 ^ (bits - 1)) ∙ sym (ap (λ n. w * 2 ^ n) more ∙ ap (λ n. w * n) (pow-suc 2 (bits - 1)) ∙ sym (mul_assoc w (2 ^ (bits - 1)) 2) ∙ twice_is (w * 2 ^ (bits - 1)))

pub double_fits : (w bits : ℕ) → 1 ≤ bits → w * 2 ^ bits ≤ 128 → w + w ≤ 128
double_fits w bits some few =
    let all = double_width w bits some in
    let one = mul-le-mul_left (w + w) (one-le-pow (bits - 1) 2 (omega arith)) in
    omega (arith, all, one, few)

-- once up or not, by a bit
pub raised_once : (x w wz pad high low made bit : ℕ) → bit < 2 → pad ≡ 0 → wz ≡ w → high ≡ x * 2 ^ wz + pad → low ≡ pad * 2 ^ w + x → made ≡ (if bit == 0 then low else high) → made ≡ x * 2 ^ (w * bit)
raised_once x w wz pad high low made zero h z same e f g =
    let none = zero-mul (2 ^ w) in
    let nothing : w * 0 ≡ 0 = omega arith in
    let one : 0 * 2 ^ w + x ≡ x * 1 = omega (arith, none) in
    g ∙ f ∙ ap (λ n. n * 2 ^ w + x) z ∙ one ∙ ap (λ n. x * 2 ^ n) (sym nothing)
raised_once x w wz pad high low made (suc zero) h z same e f g =
    let one : w * 1 ≡ w = omega arith in
    let none : x * 2 ^ w + 0 ≡ x * 2 ^ w = omega arith in
    g ∙ e ∙ ap₂ (λ k n. x * 2 ^ k + n) same z ∙ none ∙ ap (λ n. x * 2 ^ n) (sym one)
raised_once x w wz pad high low made (suc (suc bit)) h z same e f g = absurd (omega arith)

low_bit : (place low : ℕ) → low ≡ place / 2 ^ 0 % 2 ^ (0 - 0 + 1) → low ≡ place % 2
low_bit place low e = let whole : place / 2 ^ 0 ≡ place = omega arith in e ∙ ap (λ n. n % 2) whole

high_bits : (place bits rest : ℕ) → 1 < bits → place < 2 ^ bits → rest ≡ place / 2 ^ 1 % 2 ^ (bits - 1 - 1 + 1) → rest ≡ place / 2
high_bits place bits rest some fits e =
    let width : bits - 1 - 1 + 1 ≡ bits - 1 = omega (arith, some) in
    let more : bits ≡ suc (bits - 1) = omega (arith, some) in
    let below : place / 2 < 2 ^ (bits - 1) = (div-lt_iff_lt-mul (omega arith)).1 (subst (λ k. place < k) (ap (λ n. 2 ^ n) more ∙ pow-suc 2 (bits - 1)) fits) in
    e ∙ ap (λ k. place / 2 % 2 ^ k) width ∙ mod-eq_of_lt below

pub raised_on : (x w bits place low rest raised made : ℕ) → 1 < bits → place < 2 ^ bits → low ≡ place / 2 ^ 0 % 2 ^ (0 - 0 + 1) → rest ≡ place / 2 ^ 1 % 2 ^ (bits - 1 - 1 + 1) →
    raised ≡ x * 2 ^ (w * low) → made ≡ raised * 2 ^ ((w + w) * rest) → made ≡ x * 2 ^ (w * place)
raised_on x w bits place low rest raised made some fits e f g h =
    let low_is = low_bit place low e in
    let rest_is = high_bits place bits rest some fits f in
    let whole = mod-add-div place 2 in
    let parts : place ≡ low + (rest + rest) = omega (arith, low_is, rest_is, whole) in
    let first = mul-add w low (rest + rest) in
    let second = mul-add w rest rest in
    let both = add-mul w w rest in
    let sum : w * low + (w + w) * rest ≡ w * (low + (rest + rest)) = omega (arith, first, second, both) in
    h ∙ ap (λ n. n * 2 ^ ((w + w) * rest)) g ∙ mul_assoc x (2 ^ (w * low)) (2 ^ ((w + w) * rest)) ∙ ap (λ n. x * n) (sym (pow-add 2 (w * low) ((w + w) * rest)))
    ∙ ap (λ n. x * 2 ^ n) (sum ∙ ap (λ n. w * n) (sym parts))

-- ---- taken from a place

pub halved : (x half high low made bit : ℕ) → 1 ≤ half → bit < 2 → high ≡ x / 2 ^ half % 2 ^ (half + half - 1 - half + 1) → low ≡ x / 2 ^ 0 % 2 ^ (half - 1 - 0 + 1) → made ≡ (if bit == 0 then low else high) →
    made ≡ x / 2 ^ (half * bit) % 2 ^ half
halved x half high low made zero some h e f g =
    let width : half - 1 - 0 + 1 ≡ half = omega (arith, some) in
    let none : half * 0 ≡ 0 = omega arith in
    g ∙ f ∙ ap (λ n. x / 2 ^ 0 % 2 ^ n) width ∙ ap (λ n. x / 2 ^ n % 2 ^ half) (sym none)
halved x half high low made (suc zero) some h e f g =
    let width : half + half - 1 - half + 1 ≡ half = omega (arith, some) in
    let one : half * 1 ≡ half = omega arith in
    g ∙ e ∙ ap (λ n. x / 2 ^ half % 2 ^ n) width ∙ ap (λ n. x / 2 ^ n % 2 ^ half) (sym one)
halved x half high low made (suc (suc bit)) some h e f g = absurd (omega arith)

-- bits that lie within the low ones
within : (y h c d : ℕ) → c + d ≤ h → (y % 2 ^ h / 2 ^ c) % 2 ^ d ≡ y / 2 ^ c % 2 ^ d
within y h c d few =
    let size : h ≡ (h - c) + c = omega (arith, few) in
    let rest : h - c ≡ (h - c - d) + d = omega (arith, few) in
    ap (λ n. (y % 2 ^ n / 2 ^ c) % 2 ^ d) size
    ∙ ap (λ n. (n / 2 ^ c) % 2 ^ d) (mod-pow-add y (h - c) c)
    ∙ ap (λ n. n % 2 ^ d) (div-mul-add (y / 2 ^ c % 2 ^ (h - c)) (2 ^ c) (y % 2 ^ c) (mod-lt y (pow_pos c)))
    ∙ ap (λ n. y / 2 ^ c % 2 ^ n % 2 ^ d) rest ∙ mod-mod-pow (y / 2 ^ c) (h - c - d) d

pub taken_on : (x w bits half place top rest taken made : ℕ) → 1 < bits → place < 2 ^ bits → half ≡ w * 2 ^ (bits - 1) → top ≡ place / 2 ^ (bits - 1) % 2 ^ (bits - 1 - (bits - 1) + 1) → rest ≡ place / 2 ^ 0 % 2 ^ (bits - 2 - 0 + 1) →
    taken ≡ x / 2 ^ (half * top) % 2 ^ half → made ≡ taken / 2 ^ (w * rest) % 2 ^ w → made ≡ x / 2 ^ (w * place) % 2 ^ w
taken_on x w bits half place top rest taken made some fits size e f g h =
    let p = 2 ^ (bits - 1) in
    let more : bits ≡ suc (bits - 1) = omega (arith, some) in
    let low_width : bits - 2 - 0 + 1 ≡ bits - 1 = omega (arith, some) in
    let one : bits - 1 - (bits - 1) + 1 ≡ 1 = omega arith in
    let whole : place / 2 ^ 0 ≡ place = omega arith in
    let rest_is : rest ≡ place % p = f ∙ ap₂ (λ a n. a % 2 ^ n) whole low_width in
    let below : place / p < 2 = (div-lt_iff_lt-mul (pow_pos (bits - 1))).1 (subst (λ k. place < k) (ap (λ n. 2 ^ n) more ∙ pow-suc 2 (bits - 1) ∙ mul_comm (2 ^ (bits - 1)) 2) fits) in
    let top_is : top ≡ place / p = e ∙ ap (λ n. place / p % 2 ^ n) one ∙ mod-eq_of_lt below in
    let parts : p * top + rest ≡ place = (let all = mod-add-div place p in let at = ap (λ n. p * n) top_is in omega (arith, all, at, rest_is)) in
    let small : rest < p = subst (λ n. n < p) (sym rest_is) (mod-lt place (pow_pos (bits - 1))) in
    let step = mul-le-mul_left w small in
    let next : w * suc rest ≡ w * rest + w = (let add = mul-add w rest 1 in let same : suc rest ≡ rest + 1 = omega arith in let unit : w * 1 ≡ w = omega arith in ap (λ n. w * n) same ∙ add ∙ ap (λ n. w * rest + n) unit) in
    let fits_there : w * rest + w ≤ half = omega (arith, step, next, size) in
    let sum : half * top + w * rest ≡ w * place = ap (λ n. n * top + w * rest) size ∙ ap (λ n. n + w * rest) (mul_assoc w p top) ∙ sym (mul-add w (p * top) rest) ∙ ap (λ n. w * n) parts in
    h ∙ ap (λ n. n / 2 ^ (w * rest) % 2 ^ w) g ∙ within (x / 2 ^ (half * top)) half (w * rest) w fits_there
    ∙ ap (λ n. n % 2 ^ w) (div-div-eq-div-mul x (2 ^ (half * top)) (2 ^ (w * rest)) ∙ ap (λ n. x / n) (sym (pow-add 2 (half * top) (w * rest)) ∙ ap (λ n. 2 ^ n) sum))

pub half_is : (w bits all half : ℕ) → 1 ≤ bits → all ≡ w * 2 ^ bits → half ≡ all / 2 → (half ≡ w * 2 ^ (bits - 1)) × (all ≡ half + half)
half_is w bits all half some size e =
    let twice = double_width w bits some in
    let parts = add-mul w w (2 ^ (bits - 1)) in (omega (arith, size, e, twice, parts), omega (arith, size, e, twice, parts))

-- ---- repeated on each place

twice_repeated : (bytes many x : ℕ) → x < 256 ^ bytes → repeated (bytes + bytes) many (x * 256 ^ bytes + x) ≡ repeated bytes (many + many) x
twice_repeated bytes zero x h = refl
twice_repeated bytes (suc many) x h =
    let b = 256 ^ bytes in
    let r = repeated bytes (many + many) x in
    let square = pow-add 256 bytes bytes in
    let step = mul-le-mul_right b h in
    let next : suc x * b ≡ x * b + b = (let one : suc x ≡ x + 1 = omega arith in ap (λ n. n * b) one ∙ add-mul x 1 b ∙ ap (λ n. x * b + n) (one-mul b)) in
    let small : x * b + x < 256 ^ (bytes + bytes) = omega (arith, square, step, next, h) in
    let again = twice_repeated bytes many x h in
    let turned = mul_comm x b in
    let spread = mul-add b x (b * r) in
    let higher = mul_assoc b b r in
    let count : suc many + suc many ≡ suc (suc (many + many)) = omega arith in
    ap₂ (λ m n. m + 256 ^ (bytes + bytes) * n) (mod-eq_of_lt small) again ∙ ap (λ n. x * b + x + n * r) square
    ∙ (let all : x * b + x + b * b * r ≡ x + b * (x + b * r) = omega (arith, turned, spread, higher) in all)
    ∙ sym (ap (λ n. repeated bytes n x) count ∙ ap₂ (λ m n. m + b * (n + b * r)) (mod-eq_of_lt h) (mod-eq_of_lt h))

pub repeated_on : (bytes times width word twice made : ℕ) → 1 ≤ times → width ≡ bytes * 8 → word < 2 ^ width → twice ≡ word * 2 ^ width + word → made ≡ repeated (bytes + bytes) (2 ^ (times - 1)) twice → made ≡ repeated bytes (2 ^ times) word
repeated_on bytes times width word twice made some size fits e f =
    let base : 2 ^ width ≡ 256 ^ bytes = ap (λ n. 2 ^ n) size ∙ byte_powers bytes in
    let more : times ≡ suc (times - 1) = omega (arith, some) in
    f ∙ ap (repeated (bytes + bytes) (2 ^ (times - 1))) (e ∙ ap (λ n. word * n + word) base)
    ∙ twice_repeated bytes (2 ^ (times - 1)) word (subst (λ n. word < n) base fits)
    ∙ ap (λ n. repeated bytes n word) (sym (ap (λ n. 2 ^ n) more ∙ pow-suc 2 (times - 1) ∙ twice_is (2 ^ (times - 1))))

pub once_repeated : (bytes width word times : ℕ) → times ≡ 0 → width ≡ bytes * 8 → word < 2 ^ width → word ≡ repeated bytes (2 ^ times) word
once_repeated bytes width word times none size fits =
    let base : 2 ^ width ≡ 256 ^ bytes = ap (λ n. 2 ^ n) size ∙ byte_powers bytes in
    let low : word % 256 ^ bytes ≡ word = mod-eq_of_lt (subst (λ n. word < n) base fits) in
    let zero_above : word % 256 ^ bytes + 256 ^ bytes * 0 ≡ word = omega (arith, low) in
    sym zero_above ∙ ap (λ n. repeated bytes (2 ^ n) word) (sym none)

twice_spread : (width many x : ℕ) → spread (width + width) many (x * 2 ^ width + x) ≡ spread width (many + many) x
twice_spread width zero x = refl
twice_spread width (suc many) x =
    let b = 2 ^ width in
    let r = spread width (many + many) x in
    let square = pow-add 2 width width in
    let count : suc many + suc many ≡ suc (suc (many + many)) = omega arith in
    let first = add-mul x (r * b) b in
    let higher = mul_assoc r b b in
    ap₂ (λ m n. x * b + x + m * n) (twice_spread width many x) square
    ∙ (let all : x * b + x + r * (b * b) ≡ x + (x + r * b) * b = omega (arith, first, higher) in all)
    ∙ sym (ap (λ n. spread width n x) count)

pub spread_on : (times width word twice_width twice made : ℕ) → 1 ≤ times → twice_width ≡ width + width → twice ≡ word * 2 ^ width + word → made ≡ spread twice_width (2 ^ (times - 1)) twice → made ≡ spread width (2 ^ times) word
spread_on times width word twice_width twice made some size e f =
    let more : times ≡ suc (times - 1) = omega (arith, some) in
    f ∙ ap₂ (λ w n. spread w (2 ^ (times - 1)) n) size e
    ∙ twice_spread width (2 ^ (times - 1)) word
    ∙ ap (λ n. spread width n word) (sym (ap (λ n. 2 ^ n) more ∙ pow-suc 2 (times - 1) ∙ twice_is (2 ^ (times - 1))))

pub once_spread : (width word times : ℕ) → times ≡ 0 → word ≡ spread width (2 ^ times) word
once_spread width word times none =
    let nothing = zero-mul (2 ^ width) in
    let one : word ≡ word + 0 * 2 ^ width = omega (arith, nothing) in
    one ∙ ap (λ n. spread width (2 ^ n) word) (sym none)

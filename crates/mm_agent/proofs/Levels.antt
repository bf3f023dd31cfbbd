-- Bits, counts, and addresses in bytes.
use Rattle.std.proofs.Common.{◌≡◌, ℕ, zero, suc, ◌+◌, ◌-◌, ◌*◌, ◌/◌, ◌%◌, ◌^◌, ◌<◌, ◌≤◌, max, Bool, true, false, not, ◌&&◌, if◌then◌else◌, ◌==◌, nat_lt, refl, sym, subst, ap, ◌∙◌, arith}
use Rattle.std.proofs.Math.Arith.{mod-mul}
use Rattle.std.proofs.Math.Nat.{mod-eq_of_lt, add-mod_right, mul-div_cancel, mul-mod_left, max-eq_left, max-eq_right}
use Rattle.std.proofs.Math.Pow.{pow_mono, pow-lt}
use Rattle.std.proofs.lemmas.Nat.{pow-add, pow_pos, div-add-mod'}
use Rattle.std.proofs.lemmas.Bool.{ltb-true, ltb-false}
use Rattle.histories.specs.History.{is_raised, one_if}
use Rattle.net_parts.specs.Growth.{fit_nets}
use Rattle.command_nets.specs.Levels.{level_is, is_some, one_fits}
use Rattle.mm_agent.specs.Reads.{IsNextCount}

-- ---- counts

less_by : (s f limit : ℕ) → f ≤ s → s < limit → (s + (limit - f)) % limit ≡ s - f
less_by s f limit le lt = let e : s + (limit - f) ≡ (s - f) + limit = omega arith in ap (λ k. k % limit) e ∙ add-mod_right (s - f) limit ∙ mod-eq_of_lt (omega arith)

-- nothing is taken from 0
taken_off : (u v answers : ℕ) → v < 2 → answers ≡ one_if (is_raised v && is_raised (if u == 0 then 0 else 1)) → (answers ≤ u) × (u - answers ≡ u - one_if (is_raised v))
taken_off zero zero answers h e = (let none : answers ≡ 0 = e in (omega (arith, none), omega (arith, none)))
taken_off zero (suc zero) answers h e = (let none : answers ≡ 0 = e in (omega (arith, none), omega (arith, none)))
taken_off (suc u) zero answers h e = (let none : answers ≡ 0 = e in (omega (arith, none), omega (arith, none)))
taken_off (suc u) (suc zero) answers h e = (let one : answers ≡ 1 = e ∙ ap (λ n. one_if (is_raised n)) (is_some u) in (omega (arith, one), omega (arith, one)))
taken_off u (suc (suc v)) answers h e = absurd (omega arith)

-- no carry is lost where the sum fits
pub next_counted : (w u t v some answers more fewer sum next : ℕ) → 1 ≤ w → t < 2 → v < 2 → answers < 2 → some ≡ (if u == 0 then 0 else 1) → is_raised answers ≡ (is_raised v && is_raised some) →
    more ≡ t % 2 ^ w → fewer ≡ answers % 2 ^ w → sum ≡ (u + more) % 2 ^ w → next ≡ (sum + (2 ^ w - fewer)) % 2 ^ w → IsNextCount w u t v next
next_counted w u t v some answers more fewer sum next bit ht hv ha e1 e2 e3 e4 e5 e6 few =
    let two = one_fits w bit in
    let more_is : more ≡ t = e3 ∙ mod-eq_of_lt (omega (arith, two)) in
    let fewer_is : fewer ≡ answers = e4 ∙ mod-eq_of_lt (omega (arith, two)) in
    let taken : one_if (is_raised t) ≡ t = sym (level_is t ht) in
    let sum_is : sum ≡ u + t = e5 ∙ ap (λ k. (u + k) % 2 ^ w) more_is ∙ mod-eq_of_lt (omega (arith, few, taken)) in
    let off = taken_off u v answers hv (level_is answers ha ∙ ap one_if e2 ∙ ap (λ n. one_if (is_raised v && is_raised n)) e1) in
    let within = off.0 in
    let same = off.1 in
    let whole : next ≡ (u + t) - answers = e6 ∙ ap (λ k. (k + (2 ^ w - fewer)) % 2 ^ w) sum_is ∙ ap (λ k. ((u + t) + (2 ^ w - k)) % 2 ^ w) fewer_is ∙ less_by (u + t) answers (2 ^ w) (omega (arith, within)) (omega (arith, few, taken)) in
    omega (arith, whole, within, same, taken)

few_by : (t : Bool) → (if t then 0 else 2) ≤ 2
few_by true = omega arith
few_by false = omega arith

pub fit_few : (bits wanted : ℕ) → fit_nets bits wanted ≤ 2
fit_few bits wanted = few_by (bits == wanted)

-- as many as the bound
pub full_bit : (n bound f : ℕ) → 1 ≤ bound → f ≡ (if nat_lt (bound - 1) n then 1 else 0) → is_raised f ≡ not (nat_lt n bound)
full_bit n bound f some e = by_case (nat_lt n bound) (nat_lt (bound - 1) n) refl refl
  where
    by_case : (t s : Bool) → nat_lt n bound ≡ t → nat_lt (bound - 1) n ≡ s → is_raised f ≡ not t
    by_case true true below above = absurd (let low = ltb-true n bound below in let high = ltb-true (bound - 1) n above in omega (arith, low, high))
    by_case true false below above = ap is_raised (e ∙ ap (λ t. if t then 1 else 0) above)
    by_case false true below above = ap is_raised (e ∙ ap (λ t. if t then 1 else 0) above)
    by_case false false below above = absurd (let low = ltb-false n bound below in let high = ltb-false (bound - 1) n above in omega (arith, low, high))

-- ---- addresses

pub width_reaches : (k w : ℕ) → 2 ^ k ≤ 2 ^ w → k ≤ w
width_reaches k w h = by_case (nat_lt w k) refl
  where
    by_case : (t : Bool) → nat_lt w k ≡ t → k ≤ w
    by_case true below = absurd (let low : 2 ^ w < 2 ^ k = pow-lt (ltb-true w k below) in omega (arith, low))
    by_case false above = (let high = ltb-false w k above in omega (arith, high))

scaled : (a m c : ℕ) → 0 < m → 0 < c → a * c % (m * c) ≡ a % m * c
scaled a m c some bit =
    let split : a * c % (m * c) ≡ (a * c / c % m) * c + a * c % c = mod-mul (a * c) some bit in
    let none : a * c % c ≡ 0 = mul-mod_left a c in
    let whole : a * c / c ≡ a = mul-div_cancel a bit in
    let first : (a * c / c % m) * c ≡ a % m * c = ap (λ k. k % m * c) whole in
    omega (arith, split, none, first)

-- the offset of a whole word in a span of so many
pub in_span : (a m bytes : ℕ) → 0 < m → 0 < bytes → a / bytes % m * bytes ≡ (a * 1 - (a * 1) % bytes) % (m * bytes)
in_span a m bytes some byte =
    let plain : a * 1 ≡ a = omega arith in
    let parts = div-add-mod' a bytes in
    let word : a * 1 - (a * 1) % bytes ≡ a / bytes * bytes = ap (λ k. k - k % bytes) plain ∙ omega (arith, parts) in
    sym (ap (λ k. k % (m * bytes)) word ∙ scaled (a / bytes) m bytes some byte)

-- an agent that counts words
pub word_placed : (a bits low bytes made : ℕ) (units : Bool) → units ≡ false → bytes ≡ 2 ^ low → made ≡ a / 2 ^ low % 2 ^ bits →
    made * (if units then 1 else bytes) ≡ (a * 1 - (a * 1) % bytes) % (if units then max (2 ^ bits) bytes else 2 ^ bits * bytes)
word_placed a bits low bytes made units words power is =
    let made_is : made ≡ a / bytes % 2 ^ bits = is ∙ ap (λ k. a / k % 2 ^ bits) (sym power) in
    let byte : 0 < bytes = subst (λ k. 0 < k) (sym power) (pow_pos low) in
    rw words (ap (λ k. k * bytes) made_is ∙ in_span a (2 ^ bits) bytes (pow_pos bits) byte)

-- an agent that counts bytes, with at least one word
pub byte_placed : (a bits low bytes high made : ℕ) (units : Bool) → units ≡ true → low < bits → bytes ≡ 2 ^ low → high ≡ a / 2 ^ low % 2 ^ (bits - 1 - low + 1) → made ≡ high * 2 ^ low →
    made * (if units then 1 else bytes) ≡ (a * 1 - (a * 1) % bytes) % (if units then max (2 ^ bits) bytes else 2 ^ bits * bytes)
byte_placed a bits low bytes high made units counts some power is raised =
    let width : bits - 1 - low + 1 ≡ bits - low = omega arith in
    let whole : bits - low + low ≡ bits = omega arith in
    let split : 2 ^ (bits - low) * bytes ≡ 2 ^ bits = ap (λ k. 2 ^ (bits - low) * k) power ∙ sym (pow-add 2 (bits - low) low) ∙ ap (λ k. 2 ^ k) whole in
    let high_is : high ≡ a / bytes % 2 ^ (bits - low) = is ∙ ap (λ k. a / 2 ^ low % 2 ^ k) width ∙ ap (λ k. a / k % 2 ^ (bits - low)) (sym power) in
    let made_is : made ≡ a / bytes % 2 ^ (bits - low) * bytes = raised ∙ ap (λ k. high * k) (sym power) ∙ ap (λ k. k * bytes) high_is in
    let byte : 0 < bytes = subst (λ k. 0 < k) (sym power) (pow_pos low) in
    let more : 2 ^ low ≤ 2 ^ bits = pow_mono (omega arith) in
    let most : max (2 ^ bits) bytes ≡ 2 ^ bits = max-eq_left (omega (arith, more, power)) in
    let one : made * 1 ≡ made = omega arith in
    rw counts (one ∙ made_is ∙ in_span a (2 ^ (bits - low)) bytes (pow_pos (bits - low)) byte ∙ ap (λ k. (a * 1 - (a * 1) % bytes) % k) (split ∙ sym most))

none_times : (bytes : ℕ) → 0 * bytes ≡ 0
none_times bytes = omega arith

no_words : (n bytes : ℕ) → n % 1 * bytes ≡ 0
no_words n bytes = let rest : n % 1 ≡ 0 = omega arith in ap (λ k. k * bytes) rest ∙ none_times bytes

-- the span is one word
one_word_span : (a bits low bytes : ℕ) → bits ≤ low → bytes ≡ 2 ^ low → 0 ≡ (a * 1 - (a * 1) % bytes) % max (2 ^ bits) bytes
one_word_span a bits low bytes few power =
    let byte : 0 < bytes = subst (λ k. 0 < k) (sym power) (pow_pos low) in
    let more : 2 ^ bits ≤ 2 ^ low = pow_mono few in
    let most : max (2 ^ bits) bytes ≡ bytes = max-eq_right (omega (arith, more, power)) in
    let single : 1 * bytes ≡ bytes = omega arith in
    let none : a / bytes % 1 * bytes ≡ 0 = no_words (a / bytes) bytes in
    sym none ∙ in_span a 1 bytes (omega arith) byte ∙ ap (λ k. (a * 1 - (a * 1) % bytes) % k) (single ∙ sym most)

pub first_byte : (a bits low bytes made : ℕ) (units : Bool) → units ≡ true → bits ≤ low → bytes ≡ 2 ^ low → made ≡ 0 →
    made * (if units then 1 else bytes) ≡ (a * 1 - (a * 1) % bytes) % (if units then max (2 ^ bits) bytes else 2 ^ bits * bytes)
first_byte a bits low bytes made units counts few power none =
    let zero_is : made * 1 ≡ 0 = omega (arith, none) in
    rw counts (zero_is ∙ one_word_span a bits low bytes few power)

-- an agent without an address
pub no_address : (a bits low bytes : ℕ) (units : Bool) → bits ≡ 0 → bytes ≡ 2 ^ low →
    0 * (if units then 1 else bytes) ≡ (a * 1 - (a * 1) % bytes) % (if units then max (2 ^ bits) bytes else 2 ^ bits * bytes)
no_address a bits low bytes true none power = one_word_span a bits low bytes (omega (arith, none)) power
no_address a bits low bytes false none power =
    let byte : 0 < bytes = subst (λ k. 0 < k) (sym power) (pow_pos low) in
    let one : 2 ^ bits ≡ 1 = ap (λ k. 2 ^ k) none in
    let rest : 0 * bytes ≡ a / bytes % 1 * bytes = none_times bytes ∙ sym (no_words (a / bytes) bytes) in
    rest ∙ in_span a 1 bytes (omega arith) byte ∙ ap (λ k. (a * 1 - (a * 1) % bytes) % (k * bytes)) (sym one)

positive : (units : Bool) (bytes low : ℕ) → bytes ≡ 2 ^ low → 0 < (if units then 1 else bytes)
positive true bytes low power = omega arith
positive false bytes low power = subst (λ k. 0 < k) (sym power) (pow_pos low)

-- one place has one address
pub same_address : (units : Bool) (bytes low one other : ℕ) → bytes ≡ 2 ^ low → one * (if units then 1 else bytes) ≡ other * (if units then 1 else bytes) → one ≡ other
same_address units bytes low one other power e =
    let some = positive units bytes low power in
    sym (mul-div_cancel one some) ∙ ap (λ k. k / (if units then 1 else bytes)) e ∙ mul-div_cancel other some

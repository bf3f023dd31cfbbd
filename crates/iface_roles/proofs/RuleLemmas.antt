-- Powers of two beyond 32 bits.
use Rattle.std.proofs.Common.{◌≡◌, ℕ, ◌*◌, ◌^◌, ◌<◌, ◌≤◌, Bool, true, false, nat_lt, nat_le, zero, suc, max, cond, if◌then◌else◌, refl, arith, ap, ◌∙◌}
use Rattle.std.proofs.Math.Pow.{pow_mono}
use Rattle.std.proofs.lemmas.Nat.{pow_below}
use Rattle.std.proofs.lemmas.Bool.Decides.{nat_tests}
use Rattle.iface_roles.specs.declared.kinds.Side.{Side}
use Rattle.iface_roles.specs.declared.kinds.Side.TheVariants.{Start, End}
use Rattle.iface_roles.specs.declared.properties.PropertyId.TheVariants.{MaxChannel}
use Rattle.iface_roles.specs.declared.roles.Role.TheVariants.{Address, Channel}
use Rattle.iface_roles.specs.Held.{Held, has, width_of, setting_of}
use Rattle.iface_roles.specs.Rules.{word_bytes, counts_bytes, reach_as, has_odd_channel}

-- a number of 32 bits is below 2 to 32 or more
pub nat_le-pow_beyond : (bits number : ℕ) → 32 ≤ bits → number < 2 ^ 32 → nat_le (2 ^ bits) number ≡ false
nat_le-pow_beyond bits number h k =
    let large : 2 ^ 32 ≤ 2 ^ bits = pow_mono h in
    grind (arith, nat_tests)

-- more than 32 address bits reach beyond 2 ^ 32, whatever they count
pub nat_lt-pow_bytes : (bits : ℕ) → 32 < bits → nat_lt (2 ^ 32) (2 ^ bits) ≡ true
nat_lt-pow_bytes bits h = let large : 2 ^ 32 < 2 ^ bits = pow_below 32 bits h in grind (arith, nat_tests)

pub nat_lt-pow_max : (bits word : ℕ) → 32 < bits → nat_lt (2 ^ 32) (max (2 ^ bits) word) ≡ true
nat_lt-pow_max bits word h = let large : 2 ^ 32 < 2 ^ bits = pow_below 32 bits h in
    let larger : 2 ^ 32 < max (2 ^ bits) word = omega arith in grind (arith, nat_tests)

pub nat_lt-pow_words : (bits word : ℕ) → 32 < bits → nat_lt (2 ^ 32) (2 ^ bits * word) ≡ nat_lt 0 word
nat_lt-pow_words bits zero h = grind (arith, nat_tests)
nat_lt-pow_words bits (suc word) h =
    let large : 2 ^ 32 < 2 ^ bits = pow_below 32 bits h in
    let larger : 2 ^ 32 < 2 ^ bits * suc word = grind arith in
    grind (arith, nat_tests)

if-true : {X : Type 0} (b : Bool) (x y : X) → b ≡ true → cond b x y ≡ x
if-true true x y h = refl
if-true false x y h = cc

if-false : {X : Type 0} (b : Bool) (x y : X) → b ≡ false → cond b x y ≡ y
if-false true x y h = cc
if-false false x y h = refl

-- a channel of 32 bits or more carries every number
pub has_odd_channel-wide : (i : Held) (bits greatest : ℕ) → bits ≡ width_of i Channel → greatest ≡ setting_of i MaxChannel → has i Channel ≡ true → 32 ≤ bits → greatest < 2 ^ 32 → has_odd_channel i ≡ false
has_odd_channel-wide i bits greatest is set there wide small =
    if-true (has i Channel) (nat_le (2 ^ width_of i Channel) (setting_of i MaxChannel)) (nat_lt 0 (setting_of i MaxChannel)) there
    ∙ (let w : nat_le (2 ^ bits) greatest ≡ false = nat_le-pow_beyond bits greatest wide small in rw (← is, ← set) w)

-- more than 32 address bits reach too far where they count bytes, and where words have a byte
pub reaches_too_far-bytes : (side : Side) (i : Held) → counts_bytes i ≡ true → 32 < width_of i Address → nat_lt (2 ^ 32) (reach_as side i) ≡ true
reaches_too_far-bytes Start i bytes wide =
    let e : 2 ^ width_of i Address * (if counts_bytes i then 1 else word_bytes i) ≡ 2 ^ width_of i Address =
    ap (λ n. 2 ^ width_of i Address * n) (if-true (counts_bytes i) 1 (word_bytes i) bytes) ∙ (omega arith) in
    ap (nat_lt (2 ^ 32)) e ∙ nat_lt-pow_bytes (width_of i Address) wide
reaches_too_far-bytes End i bytes wide =
    ap (nat_lt (2 ^ 32)) (if-true (counts_bytes i) (max (2 ^ width_of i Address) (word_bytes i)) (2 ^ width_of i Address * word_bytes i) bytes)
    ∙ nat_lt-pow_max (width_of i Address) (word_bytes i) wide

pub reaches_too_far-words : (side : Side) (i : Held) → counts_bytes i ≡ false → 32 < width_of i Address → nat_lt (2 ^ 32) (reach_as side i) ≡ nat_lt 0 (word_bytes i)
reaches_too_far-words Start i words wide =
    ap (λ n. nat_lt (2 ^ 32) (2 ^ width_of i Address * n)) (if-false (counts_bytes i) 1 (word_bytes i) words)
    ∙ nat_lt-pow_words (width_of i Address) (word_bytes i) wide
reaches_too_far-words End i words wide =
    ap (nat_lt (2 ^ 32)) (if-false (counts_bytes i) (max (2 ^ width_of i Address) (word_bytes i)) (2 ^ width_of i Address * word_bytes i) words)
    ∙ nat_lt-pow_words (width_of i Address) (word_bytes i) wide

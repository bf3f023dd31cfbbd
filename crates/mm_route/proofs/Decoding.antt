-- The decoder's equations, one after the other.
use Rattle.std.proofs.Common.{◌≡◌, ℕ, zero, suc, ◌+◌, ◌-◌, ◌*◌, ◌/◌, ◌%◌, ◌^◌, ◌<◌, ◌≤◌, Bool, true, false, ◌&&◌, ◌==◌, if◌then◌else◌, nat_eq, nat_le, nat_lt, bit_and, List, [], ◌∷◌, length, get_or, take, drop, refl, sym, subst, ap, ◌∙◌, arith}
use Rattle.std.proofs.lemmas.List.{take_all}
use Rattle.std.proofs.lemmas.Bool.{eqb-true, eqb-false, le-leb, lt-leb, ltb-true, ltb-false}
use Rattle.std.proofs.lemmas.Nat.{pow-add}
use Rattle.std.proofs.Math.Pow.{pow_mono}
use Rattle.std.proofs.Math.Nat.{mod-eq_of_lt, div-lt_iff_lt-mul, le-div_iff_mul-le, mul-div_cancel}
use Rattle.av_base.specs.Word.{IsWord}
use Rattle.histories.specs.History.{is_raised, one_if}
use Rattle.memory_runs.specs.declared.sides.route.Route.{Route}
use Rattle.mm_route.specs.Entries.{IsEntry, kind_of, serves, is_inside, holds}

pub power_some : (b : ℕ) → 0 < 2 ^ b
power_some zero = omega arith
power_some (suc b) = let h = power_some b in omega (arith, h)

-- ---- a number's quotient by a footprint

high_fits : (x width bits : ℕ) → x < 2 ^ width → bits < width → x / 2 ^ bits < 2 ^ (width - bits)
high_fits x width bits h some =
    let whole : 2 ^ (width - bits + bits) ≡ 2 ^ (width - bits) * 2 ^ bits = pow-add 2 (width - bits) bits in
    let same : width - bits + bits ≡ width = omega arith in
    (div-lt_iff_lt-mul (power_some bits)).1 (subst (λ n. x < n) (ap (λ n. 2 ^ n) (sym same) ∙ whole) h)

-- the bits above the lowest ones
pub upper_bits : (x high width bits : ℕ) → bits < width → high ≡ x / 2 ^ bits % 2 ^ (width - 1 - bits + 1) → high ≡ x / 2 ^ bits % 2 ^ (width - bits)
upper_bits x high width bits some e = let same : width - 1 - bits + 1 ≡ width - bits = omega arith in e ∙ ap (λ n. x / 2 ^ bits % 2 ^ n) same

pub base_is_word : (entry : Route) (width : ℕ) → IsEntry width entry → entry.bits < width → width ≤ 128 → IsWord (width - entry.bits) (entry.base / 2 ^ entry.bits)
base_is_word entry width h some small = record { some_bit = omega arith; small = omega arith; fits = high_fits entry.base width entry.bits h.within some }

and_low : (t : Bool) → t && false ≡ false
and_low true = refl
and_low false = refl

by_order : (t q x size : ℕ) → (q ≡ t → ⊥) → (t ≤ q → (t + 1) * size ≤ x) → (q < t → x < t * size) → (nat_le (t * size) x && nat_lt x (t * size + size)) ≡ false
by_order t q x size apart above below = by_test (nat_lt q t) refl
  where
    by_test : (test : Bool) → nat_lt q t ≡ test → (nat_le (t * size) x && nat_lt x (t * size + size)) ≡ false
    by_test true e = ap (λ s. s && nat_lt x (t * size + size)) (lt-leb (t * size) x (below (ltb-true q t e)))
    by_test false e =
        let over = above (ltb-false q t e) in
        ap (λ s. nat_le (t * size) x && s) (lt-leb (suc x) (t * size + size) (omega (arith, over))) ∙ and_low (nat_le (t * size) x)

pub same_footprint : (t x size : ℕ) → 0 < size → nat_eq (x / size) t ≡ (nat_le (t * size) x && nat_lt x (t * size + size))
same_footprint t x size some = by_test (nat_eq (x / size) t) refl
  where
    by_test : (test : Bool) → nat_eq (x / size) t ≡ test → nat_eq (x / size) t ≡ (nat_le (t * size) x && nat_lt x (t * size + size))
    by_test true e =
        let is = eqb-true (x / size) t e in
        let low : t * size ≤ x = (le-div_iff_mul-le some).0 (omega (arith, is)) in
        let high : x < (t + 1) * size = (div-lt_iff_lt-mul some).0 (omega (arith, is)) in
        e ∙ sym (ap (λ s. s && nat_lt x (t * size + size)) (le-leb (t * size) x low) ∙ le-leb (suc x) (t * size + size) (omega (arith, high)))
    by_test false e =
        let apart = eqb-false (x / size) t e in
        e ∙ sym (by_order t (x / size) x size apart (λ le. (le-div_iff_mul-le some).0 (omega (arith, le, apart))) (λ lt. (div-lt_iff_lt-mul some).0 lt))

-- ---- whether a footprint holds an address

base_times : (entry : Route) (width : ℕ) (h : IsEntry width entry) → entry.base / 2 ^ entry.bits ≡ h.footprints
base_times entry width h = ap (λ n. n / 2 ^ entry.bits) h.base ∙ mul-div_cancel h.footprints (power_some entry.bits)

pub high_bits_tell : (entry : Route) (width address high base inside : ℕ) → IsEntry width entry → entry.bits < width → address < 2 ^ width →
    high ≡ address / 2 ^ entry.bits % 2 ^ (width - entry.bits) → base ≡ entry.base / 2 ^ entry.bits → inside ≡ (if high == base then 1 else 0) →
    inside ≡ one_if (is_inside entry address)
high_bits_tell entry width address high base inside h some fits e f g =
    let is_high : high ≡ address / 2 ^ entry.bits = e ∙ mod-eq_of_lt (high_fits address width entry.bits fits some) in
    let is_base : base ≡ h.footprints = f ∙ base_times entry width h in
    g ∙ ap (λ n. if n == base then 1 else 0) is_high ∙ ap (λ n. if address / 2 ^ entry.bits == n then 1 else 0) is_base
    ∙ ap one_if (same_footprint h.footprints address (2 ^ entry.bits) (power_some entry.bits)
    ∙ ap (λ n. nat_le n address && nat_lt address (n + 2 ^ entry.bits)) (sym h.base))

no_multiple : (t size limit : ℕ) → t * size < limit → limit ≤ size → t * size ≡ 0
no_multiple zero size limit h le = omega arith
no_multiple (suc t) size limit h le = absurd (omega (arith, h, le))

-- a footprint of the whole range holds each address
pub whole_inside : (entry : Route) (width address : ℕ) → IsEntry width entry → width ≤ entry.bits → address < 2 ^ width → is_inside entry address ≡ true
whole_inside entry width address h le fits =
    let more : 2 ^ width ≤ 2 ^ entry.bits = pow_mono le in
    let none : entry.base ≡ 0 = h.base ∙ no_multiple h.footprints (2 ^ entry.bits) (2 ^ width) (subst (λ n. n < 2 ^ width) h.base h.within) more in
    ap (λ s. s && nat_lt address (entry.base + 2 ^ entry.bits)) (le-leb entry.base address (omega (arith, none)))
    ∙ le-leb (suc address) (entry.base + 2 ^ entry.bits) (omega (arith, fits, more))

pub all_inside : (entry : Route) (width address inside : ℕ) → IsEntry width entry → width ≤ entry.bits → address < 2 ^ width → inside ≡ 1 → inside ≡ one_if (is_inside entry address)
all_inside entry width address inside h le fits e = e ∙ sym (ap one_if (whole_inside entry width address h le fits))

-- ---- the kind of the command

and_one : (x : ℕ) → x < 2 → bit_and x 1 ≡ x
and_one zero h = refl
and_one (suc zero) h = refl
and_one (suc (suc x)) h = absurd (omega arith)

and_zero : (x : ℕ) → x < 2 → bit_and x 0 ≡ 0
and_zero zero h = refl
and_zero (suc zero) h = refl
and_zero (suc (suc x)) h = absurd (omega arith)

abbrev gated : Route → ℕ → ℕ → ℕ
gated entry write inside = if serves entry (kind_of write) then inside else 0

pub if_read : (entry : Route) (write low inside held : ℕ) → entry.reads ≡ true → entry.writes ≡ false → write < 2 → low ≡ 1 - write → held ≡ (if is_raised low then inside else 0) → held ≡ gated entry write inside
if_read entry zero low inside held r w h l e = e ∙ ap (λ n. if is_raised n then inside else 0) l ∙ sym (ap (λ t. if t then inside else 0) r)
if_read entry (suc zero) low inside held r w h l e = e ∙ ap (λ n. if is_raised n then inside else 0) l ∙ sym (ap (λ t. if t then inside else 0) w)
if_read entry (suc (suc write)) low inside held r w h l e = absurd (omega arith)

pub if_written : (entry : Route) (write inside held : ℕ) → entry.reads ≡ false → entry.writes ≡ true → write < 2 → inside < 2 → held ≡ bit_and inside write → held ≡ gated entry write inside
if_written entry zero inside held r w h k e = e ∙ and_zero inside k ∙ sym (ap (λ t. if t then inside else 0) r)
if_written entry (suc zero) inside held r w h k e = e ∙ and_one inside k ∙ sym (ap (λ t. if t then inside else 0) w)
if_written entry (suc (suc write)) inside held r w h k e = absurd (omega arith)

pub kind_held : (entry : Route) (write address inside held : ℕ) → inside ≡ one_if (is_inside entry address) → held ≡ gated entry write inside → held ≡ one_if (holds entry (kind_of write) address)
kind_held entry write address inside held e f = f ∙ ap (λ n. gated entry write n) e ∙ by_kind (serves entry (kind_of write)) (is_inside entry address)
  where
    by_kind : (s t : Bool) → (if s then one_if t else 0) ≡ one_if (s && t)
    by_kind true t = refl
    by_kind false t = refl

-- a bit below others
pub bit_below : (width above low bits held more : ℕ) → width ≡ 1 → bits ≡ above * 2 ^ width + low → low ≡ held → above ≡ more → bits ≡ held + 2 * more
bit_below width above low bits held more one e f g = e ∙ ap (λ n. above * 2 ^ n + low) one ∙ omega (arith, f, g)

-- the first entry and the others are all
pub split_whole : (entries : List Route) (d : Route) → 1 ≤ length entries → get_or entries 0 d ∷ take (length entries - 1) (drop 1 entries) ≡ entries
split_whole [] d h = absurd (omega arith)
split_whole (entry ∷ later) d h = ap (λ (xs : List Route). entry ∷ xs) (take_all (length (entry ∷ later) - 1) later (omega arith))

-- What the nets show, as numbers.
use Rattle.std.proofs.Common.{◌≡◌, ℕ, zero, suc, ◌+◌, ◌-◌, ◌*◌, ◌/◌, ◌%◌, ◌^◌, ◌<◌, ◌≤◌, Bool, true, false, ◌&&◌, ◌||◌, min, if◌then◌else◌, ◌==◌, nat_lt, nat_eq, refl, sym, subst, ap, ap₂, ◌∙◌, arith, tests}
use Rattle.std.proofs.Math.Nat.{mod-eq_of_lt, add-mod_right, add-mod-mod, mod-eq-sub-div-mul, div-mul-le_self, div-lt_iff_lt-mul, pow-suc, one-le-pow}
use Rattle.std.proofs.Math.Pow.{pow_mono}
use Rattle.std.proofs.lemmas.Nat.{pow-add, pow_pos}
use Rattle.std.proofs.lemmas.Bool.{ltb-true, ltb-false, le-ltb, ne_eqb, eqb-true}
use Rattle.histories.specs.History.{is_raised, one_if}
use Rattle.memory_machines.specs.Machines.{Raw}
use Rattle.command_nets.specs.Levels.{level_is}
use Rattle.memory_links.specs.Cutters.{Reach, beats_of}
use Rattle.mm_burst.specs.CutterNets.{lane_exponent}
use Rattle.mm_burst.specs.Pieces.{Held, HasRoom, piece_from}

-- ---- widths

-- so many bits tell the bytes of a word apart
pub exponent_is : (bytes lanes : ℕ) → lanes ≤ 4 → bytes ≡ 2 ^ lanes → lane_exponent bytes ≡ lanes
exponent_is bytes zero few e = ap lane_exponent e
exponent_is bytes (suc zero) few e = ap lane_exponent e
exponent_is bytes (suc (suc zero)) few e = ap lane_exponent e
exponent_is bytes (suc (suc (suc zero))) few e = ap lane_exponent e
exponent_is bytes (suc (suc (suc (suc zero)))) few e = ap lane_exponent e
exponent_is bytes (suc (suc (suc (suc (suc lanes))))) few e = absurd (omega arith)

-- an address that reaches all bytes of a word has as many bits
pub reach_is : (lanes bits : ℕ) → 2 ^ lanes ≤ 2 ^ bits → lanes ≤ bits
reach_is lanes bits le = by_less (nat_lt bits lanes) refl
  where
    by_less : (t : Bool) → nat_lt bits lanes ≡ t → lanes ≤ bits
    by_less false e = ltb-false bits lanes e
    by_less true e =
        let less = ltb-true bits lanes e in
        let more : 2 ^ suc bits ≤ 2 ^ lanes = pow_mono (omega (arith, less)) in
        let double = pow-suc 2 bits in
        let some = one-le-pow bits 2 (omega arith) in
        absurd (omega (arith, le, more, double, some))

-- ---- addresses

-- the bits above those of the bytes of a word
pub aligned : (width same lanes address high made : ℕ) → same ≡ width → lanes < width → address < 2 ^ width → high ≡ address / 2 ^ lanes % 2 ^ (same - 1 - lanes + 1) → made ≡ high * 2 ^ lanes → made ≡ address - address % 2 ^ lanes
aligned width same lanes address high made is some fits e f =
    let size : width ≡ (width - lanes) + lanes = omega (arith, some) in
    let rest : same - 1 - lanes + 1 ≡ width - lanes = omega (arith, is, some) in
    let below : address / 2 ^ lanes < 2 ^ (width - lanes) = (div-lt_iff_lt-mul (pow_pos lanes)).1 (subst (λ k. address < k) (ap (λ n. 2 ^ n) size ∙ pow-add 2 (width - lanes) lanes) fits) in
    let high_is : high ≡ address / 2 ^ lanes = e ∙ ap (λ k. address / 2 ^ lanes % 2 ^ k) rest ∙ mod-eq_of_lt below in
    let whole : made ≡ address / 2 ^ lanes * 2 ^ lanes = f ∙ ap (λ n. n * 2 ^ lanes) high_is in
    let behind = mod-eq-sub-div-mul address (2 ^ lanes) in
    let most = div-mul-le_self address (2 ^ lanes) in
    omega (arith, whole, behind, most)

pub aligned_none : (lanes address made : ℕ) → address < 2 ^ lanes → made ≡ 0 → made ≡ address - address % 2 ^ lanes
aligned_none lanes address made few e = let whole : address % 2 ^ lanes ≡ address = mod-eq_of_lt few in omega (arith, whole, e)

pub moved_by : (wide same address words fitted bytes lanes made : ℕ) → same ≡ wide → made ≡ (address + fitted) % 2 ^ wide → fitted ≡ bytes % 2 ^ same → bytes ≡ words * 2 ^ lanes → made ≡ (address + words * 2 ^ lanes) % 2 ^ wide
moved_by wide same address words fitted bytes lanes made is e f g =
    e ∙ ap (λ n. (address + n) % 2 ^ wide) (f ∙ ap (λ k. bytes % 2 ^ k) is) ∙ add-mod-mod address bytes (2 ^ wide) ∙ ap (λ n. (address + n) % 2 ^ wide) g

-- ---- counts

less_by : (s f limit : ℕ) → f ≤ s → s < limit → (s + (limit - f)) % limit ≡ s - f
less_by s f limit le lt = let e : s + (limit - f) ≡ (s - f) + limit = omega arith in ap (λ k. k % limit) e ∙ add-mod_right (s - f) limit ∙ mod-eq_of_lt (omega arith)

pub left_behind : (follows : Bool) (w left step less none behind : ℕ) → (follows ≡ true → step ≤ left) → left < 2 ^ w → less ≡ (left + (2 ^ w - step)) % 2 ^ w → none ≡ 0 → behind ≡ (if follows then less else none) → behind ≡ (if follows then left - step else 0)
left_behind true w left step less none behind within fits e f g = g ∙ e ∙ less_by left step (2 ^ w) (within refl) fits
left_behind false w left step less none behind within fits e f g = g ∙ f

-- the count of a burst, where there may be more than single beats
pub count_is : (bits left few longest count made : ℕ) → 1 ≤ bits → (bits ≡ 1 → ⊥) → longest ≡ 2 ^ (bits - 1) → is_raised few ≡ nat_lt left longest → count ≡ (if is_raised few then left else longest) → made ≡ count % 2 ^ bits → made ≡ (if nat_eq (2 ^ (bits - 1)) 1 then 1 else min (2 ^ (bits - 1)) left)
count_is bits left few longest count made some many e f g h =
    let two : 2 ≤ 2 ^ (bits - 1) = pow_mono {i = 1} (omega (arith, some, many)) in
    let whole : bits ≡ suc (bits - 1) = omega (arith, some) in
    let twice : 2 ^ bits ≡ 2 ^ (bits - 1) * 2 = ap (λ n. 2 ^ n) whole ∙ pow-suc 2 (bits - 1) in
    let other : nat_eq (2 ^ (bits - 1)) 1 ≡ false = ne_eqb (2 ^ (bits - 1)) 1 (λ one. absurd (omega (arith, one, two))) in
    let least = smaller (nat_lt left longest) refl in
    let least_is : count ≡ min longest left = g ∙ ap (λ t. if t then left else longest) f ∙ least in
    let fits : count < 2 ^ bits = omega (arith, least_is, e, twice, two) in
    h ∙ mod-eq_of_lt fits ∙ least_is ∙ ap (λ n. min n left) e ∙ sym (ap (λ t. if t then 1 else min (2 ^ (bits - 1)) left) other)
  where
    smaller : (t : Bool) → nat_lt left longest ≡ t → (if t then left else longest) ≡ min longest left
    smaller true e = let less = ltb-true left longest e in omega (arith, less)
    smaller false e = let most = ltb-false left longest e in omega (arith, most)

-- so many words stand from an address up to the end of its wide word
pub words_are : (places width most place fitted made : ℕ) → places < width → most ≡ 2 ^ places → place < 2 ^ places → fitted ≡ place % 2 ^ width → made ≡ (most + (2 ^ width - fitted)) % 2 ^ width → made ≡ 2 ^ places - place
words_are places width most place fitted made few is less e f =
    let wide : 2 ^ suc places ≤ 2 ^ width = pow_mono (omega (arith, few)) in
    let twice = pow-suc 2 places in
    let whole : fitted ≡ place = e ∙ mod-eq_of_lt (omega (arith, less, wide, twice)) in
    f ∙ ap (λ n. (most + (2 ^ width - n)) % 2 ^ width) whole ∙ less_by most place (2 ^ width) (omega (arith, is, less)) (omega (arith, is, wide, twice)) ∙ ap (λ n. n - place) is

pub above_one : (one step many : ℕ) → is_raised many ≡ nat_lt one step → one ≡ 1 → is_raised many ≡ nat_lt 1 step
above_one one step many e f = e ∙ ap (λ n. nat_lt n step) f

-- the count of a burst of a read that ends with its wide word, which has so many beats at most
pub count_ahead_is : (bits left step few many both count made : ℕ) → step < 2 ^ bits → is_raised few ≡ nat_lt left step → is_raised many ≡ nat_lt 1 step → is_raised both ≡ (is_raised few && is_raised many) → count ≡ (if is_raised both then left else step) → made ≡ count % 2 ^ bits → made ≡ beats_of step left
count_ahead_is bits left step few many both count made fits e f g h k =
    k ∙ mod-eq_of_lt (subst (λ n. n < 2 ^ bits) (sym is) (small (nat_eq step 1) refl)) ∙ is
  where
    chosen : count ≡ (if nat_lt left step && nat_lt 1 step then left else step)
    chosen = h ∙ ap (λ b. if b then left else step) (g ∙ ap₂ (λ x y. x && y) e f)

    small : (one : Bool) → nat_eq step 1 ≡ one → (if one then 1 else min step left) < 2 ^ bits
    small true e = let same = eqb-true step 1 e in omega (arith, same, fits)
    small false e = omega (arith, fits)

    is : count ≡ (if nat_eq step 1 then 1 else min step left)
    is = chosen ∙ by_one (nat_eq step 1) refl
      where
        by_less : (less : Bool) → nat_lt left step ≡ less → nat_lt 1 step ≡ true → (if less && nat_lt 1 step then left else step) ≡ min step left
        by_less true e m = let l = ltb-true left step e in rw m (omega (arith, l))
        by_less false e m = let l = ltb-false left step e in omega (arith, l)

        none : (less : Bool) → (if less && false then left else step) ≡ step
        none true = refl
        none false = refl

        by_many : (many : Bool) → nat_lt 1 step ≡ many → nat_eq step 1 ≡ false → (if nat_lt left step && many then left else step) ≡ min step left
        by_many true m o = subst (λ b. (if nat_lt left step && b then left else step) ≡ min step left) m (by_less (nat_lt left step) refl m)
        by_many false m o = let most = ltb-false 1 step m in let zero_is : step ≡ 0 = grind (arith, tests, o, most) in none (nat_lt left step) ∙ omega (arith, zero_is)

        by_one : (one : Bool) → nat_eq step 1 ≡ one → (if nat_lt left step && nat_lt 1 step then left else step) ≡ (if one then 1 else min step left)
        by_one true o = let same = eqb-true step 1 o in let no : nat_lt 1 step ≡ false = le-ltb 1 step (omega (arith, same)) in rw no (none (nat_lt left step) ∙ same)
        by_one false o = by_many (nat_lt 1 step) refl o

-- what follows a piece is a part of what is left
pub has_room : (reach : Reach) (start : ℕ) (raw : Raw) (held : Held) → HasRoom (piece_from reach start raw held)
has_room reach start raw held e = let less = ltb-true (piece_from reach start raw held).step (piece_from reach start raw held).left e in omega (arith, less)

-- ---- bits

pub joined_level : (joins : Bool) (one made : ℕ) → one < 2 → made < 2 → is_raised made ≡ (joins || is_raised one) → made ≡ (if joins then 1 else one)
joined_level true one made few fits e = level_is made fits ∙ ap one_if e
joined_level false one made few fits e = level_is made fits ∙ ap one_if e ∙ sym (level_is one few)

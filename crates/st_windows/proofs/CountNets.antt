-- What nets make of counts and of rows.
use Rattle.std.proofs.Common.{◌≡◌, ℕ, zero, suc, ◌+◌, ◌-◌, ◌%◌, ◌^◌, ◌<◌, ◌≤◌, Bool, true, false, ◌&&◌, ◌||◌, ◌==◌, nat_lt, not, if◌then◌else◌, bit_and, bit_or, refl, sym, ap, ◌∙◌, arith}
use Rattle.std.proofs.Math.Nat.{mod-lt, mod-eq_of_lt}
use Rattle.std.proofs.Math.Pow.{pow_mono}
use Rattle.std.proofs.lemmas.Nat.{pow_pos}
use Rattle.net_parts.specs.Bits.{chosen_high, high_and, high_room, high_turned}
use Rattle.stage_core.specs.Groups.{Shown}
use Rattle.stage_core.specs.BeatLaws.{shown_same}
use Rattle.st_windows.specs.declared.sizes.WindowSizes.{WindowSizes}
use Rattle.st_windows.specs.Rows.{joined_count, is_alone, front_of, joined_with, alone_with, row_joined, row_alone, row_next, shown_front, shown_left, held_few}

pub count_is : (b w u held last fitted none empty size coming out e from : ℕ) → w ≡ b → u ≡ b → last < 2 → fitted ≡ e % 2 ^ b → none ≡ 0 → empty ≡ (if last == 0 then none else fitted) → size ≡ from → coming ≡ (size + (2 ^ u - empty)) % 2 ^ u → out ≡ (held + coming) % 2 ^ w →
    out ≡ (held + (from + (2 ^ b - (if last == 1 then e % 2 ^ b else 0))) % 2 ^ b) % 2 ^ b
count_is b w u held last fitted none empty size coming out e from wide_w wide_u small is zeroed chosen sized came sum =
    let empty_is : empty ≡ (if last == 1 then e % 2 ^ b else 0) = chosen ∙ chosen_high last fitted none small ∙ ap (λ n. if last == 1 then n else none) is ∙ ap (λ n. if last == 1 then e % 2 ^ b else n) zeroed in
    let coming_is : coming ≡ (from + (2 ^ b - (if last == 1 then e % 2 ^ b else 0))) % 2 ^ b = came ∙ ap (λ n. (size + (2 ^ n - empty)) % 2 ^ n) wide_u ∙ ap (λ n. (n + (2 ^ b - empty)) % 2 ^ b) sized ∙ ap (λ n. (from + (2 ^ b - n)) % 2 ^ b) empty_is in
    sum ∙ ap (λ n. (held + coming) % 2 ^ n) wide_w ∙ ap (λ n. (held + n) % 2 ^ b) coming_is

pub test_high : (t : Bool) (n : ℕ) → n ≡ (if t then 1 else 0) → (n == 1) ≡ t
test_high true n e = ap (λ k. k == 1) e
test_high false n e = ap (λ k. k == 1) e

-- a bit is 1 where it is high
one_where : (t : Bool) (n : ℕ) → n < 2 → (n == 1) ≡ t → n ≡ (if t then 1 else 0)
one_where t n small e = by_bit n small refl ∙ ap (λ b. if b then 1 else 0) e
  where
    by_bit : (k : ℕ) → k < 2 → n ≡ k → n ≡ (if n == 1 then 1 else 0)
    by_bit zero h same = same ∙ sym (ap (λ k. if k == 1 then 1 else 0) same)
    by_bit (suc zero) h same = same ∙ sym (ap (λ k. if k == 1 then 1 else 0) same)
    by_bit (suc (suc k)) h same = absurd (omega (arith, h))

-- ---- rows

pub joined_shown : (sizes : WindowSizes) (x held from : Shown) (valid word error none starts first empty : ℕ) → x ≡ from → valid < 2 → (valid == 1) ≡ ((from.valid == 1) && (nat_lt (sizes.into - 1) (joined_count sizes held.beat.empty from) || (from.beat.last == 1)))
    → error ≡ bit_or held.beat.error from.beat.error
    → none ≡ 0 → starts ≡ (if held.beat.empty == none then 1 else 0) → first ≡ (if starts == 0 then held.beat.first else from.beat.first) → empty ≡ joined_count sizes held.beat.empty from →
    (record { valid = valid; beat = record { word = word; channel = x.beat.channel; error = error; first = first; last = x.beat.last; empty = empty } }) ≡ joined_with sizes held from word
joined_shown sizes x held from valid word error none starts first empty same small shown errors zeroed begins firsts empties =
    shown_same _ (joined_with sizes held from word) (one_where _ valid small shown) refl (ap (λ (z : Shown). z.beat.channel) same) errors
    (firsts ∙ chosen (held.beat.empty == 0) starts (begins ∙ ap (λ n. if held.beat.empty == n then 1 else 0) zeroed)) (ap (λ (z : Shown). z.beat.last) same) empties
  where
    chosen : (t : Bool) (s : ℕ) → s ≡ (if t then 1 else 0) → (if s == 0 then held.beat.first else from.beat.first) ≡ (if t then from.beat.first else held.beat.first)
    chosen true s e = ap (λ n. if n == 0 then held.beat.first else from.beat.first) e
    chosen false s e = ap (λ n. if n == 0 then held.beat.first else from.beat.first) e

-- a row with another word
pub worded_shown : (x y : Shown) (valid valued word wanted : ℕ) → x ≡ y → valid ≡ valued → word ≡ wanted →
    (record { valid = valid; beat = record { word = word; channel = x.beat.channel; error = x.beat.error; first = x.beat.first; last = x.beat.last; empty = x.beat.empty } }) ≡ (let z : Shown = record { valid = valued; beat = record y.beat { word = wanted } } in z)
worded_shown x y valid valued word wanted same valids words =
    shown_same _ _ valids words (ap (λ (z : Shown). z.beat.channel) same) (ap (λ (z : Shown). z.beat.error) same) (ap (λ (z : Shown). z.beat.first) same) (ap (λ (z : Shown). z.beat.last) same) (ap (λ (z : Shown). z.beat.empty) same)

-- a row whose count has the bits that what is held needs
pub few_shown : (sizes : WindowSizes) (x y : Shown) (low empty : ℕ) → x ≡ y → low ≡ y.beat.empty % 2 ^ sizes.held_count → empty ≡ low % 2 ^ sizes.count →
    (record { valid = x.valid; beat = record { word = x.beat.word; channel = x.beat.channel; error = x.beat.error; first = x.beat.first; last = x.beat.last; empty = empty } }) ≡ held_few sizes y
few_shown sizes x y low empty same is fitted =
    shown_same _ (held_few sizes y) (ap (λ (z : Shown). z.valid) same) (ap (λ (z : Shown). z.beat.word) same) (ap (λ (z : Shown). z.beat.channel) same) (ap (λ (z : Shown). z.beat.error) same) (ap (λ (z : Shown). z.beat.first) same) (ap (λ (z : Shown). z.beat.last) same)
    (fitted ∙ mod-eq_of_lt (omega (arith, is, below, more)) ∙ is)
  where
    below : y.beat.empty % 2 ^ sizes.held_count < 2 ^ sizes.held_count
    below = mod-lt y.beat.empty (pow_pos sizes.held_count)

    more : 2 ^ sizes.held_count ≤ 2 ^ sizes.count
    more = pow_mono sizes.few_held_count

-- a choice by a bit that says what a test says
pub picked : (t : Bool) (bit x y e : ℕ) → bit ≡ (if t then 1 else 0) → e ≡ (if bit == 0 then y else x) → e ≡ (if t then x else y)
picked true bit x y e is chosen = chosen ∙ ap (λ n. if n == 0 then y else x) is
picked false bit x y e is chosen = chosen ∙ ap (λ n. if n == 0 then y else x) is

pub front_shown : (sizes : WindowSizes) (x row : Shown) (more low last size empty w : ℕ) → x ≡ row → more ≡ (if nat_lt sizes.into row.beat.empty then 1 else 0) → low ≡ 0 → last ≡ (if more == 0 then row.beat.last else low) → w ≡ sizes.count → size ≡ sizes.into → empty ≡ (size + (2 ^ w - row.beat.empty)) % 2 ^ w →
    (record { valid = x.valid; beat = record { word = x.beat.word; channel = x.beat.channel; error = x.beat.error; first = x.beat.first; last = last; empty = empty } }) ≡ shown_front sizes row
front_shown sizes x row more low last size empty w same is zeroed lasts wide sized empties =
    shown_same _ (shown_front sizes row) (ap (λ (z : Shown). z.valid) same) (ap (λ (z : Shown). z.beat.word) same) (ap (λ (z : Shown). z.beat.channel) same) (ap (λ (z : Shown). z.beat.error) same) (ap (λ (z : Shown). z.beat.first) same)
    (picked (nat_lt sizes.into row.beat.empty) more low row.beat.last last is lasts ∙ ap (λ n. if nat_lt sizes.into row.beat.empty then n else row.beat.last) zeroed)
    (empties ∙ ap (λ n. (size + (2 ^ n - row.beat.empty)) % 2 ^ n) wide ∙ ap (λ n. (n + (2 ^ sizes.count - row.beat.empty)) % 2 ^ sizes.count) sized)

pub left_shown : (sizes : WindowSizes) (x row : Shown) (more low word error quiet none size left empty held_error last w : ℕ) → x ≡ row → more ≡ (if nat_lt sizes.into row.beat.empty then 1 else 0) → low ≡ 0 → quiet ≡ 0 → none ≡ 0 → size ≡ sizes.into → w ≡ sizes.count → left ≡ (row.beat.empty + (2 ^ w - size)) % 2 ^ w →
    empty ≡ (if more == 0 then none else left) → held_error ≡ (if more == 0 then quiet else error) → last ≡ (if more == 0 then low else row.beat.last) →
    (record { valid = low; beat = record { word = word; channel = x.beat.channel; error = held_error; first = low; last = last; empty = empty } }) ≡ shown_left sizes row word error
left_shown sizes x row more low word error quiet none size left empty held_error last w same is zeroed quiets nones sized wide lefts empties errors lasts =
    let left_is : left ≡ (row.beat.empty + (2 ^ sizes.count - sizes.into)) % 2 ^ sizes.count = lefts ∙ ap (λ n. (row.beat.empty + (2 ^ n - size)) % 2 ^ n) wide ∙ ap (λ n. (row.beat.empty + (2 ^ sizes.count - n)) % 2 ^ sizes.count) sized in
    shown_same _ (shown_left sizes row word error) zeroed refl (ap (λ (z : Shown). z.beat.channel) same)
    (picked (nat_lt sizes.into row.beat.empty) more error quiet held_error is errors ∙ ap (λ n. if nat_lt sizes.into row.beat.empty then error else n) quiets) zeroed
    (picked (nat_lt sizes.into row.beat.empty) more row.beat.last low last is lasts ∙ ap (λ n. if nat_lt sizes.into row.beat.empty then row.beat.last else n) zeroed)
    (picked (nat_lt sizes.into row.beat.empty) more left none empty is empties ∙ ap (λ n. if nat_lt sizes.into row.beat.empty then n else none) left_is ∙ ap (λ n. if nat_lt sizes.into row.beat.empty then (row.beat.empty + (2 ^ sizes.count - sizes.into)) % 2 ^ sizes.count else n) nones)

-- ---- the nets over what is held

pub next_shown : (sizes : WindowSizes) (bit word : ℕ) (x row lone joined held from : Shown) → x ≡ row → (bit == 1) ≡ is_alone sizes held → word ≡ front_of sizes held (if bit == 1 then 0 else from.beat.word) → row ≡ (if bit == 1 then lone else joined) → lone ≡ alone_with held word → joined ≡ joined_with sizes held from word →
    (record { valid = x.valid; beat = record { word = word; channel = x.beat.channel; error = x.beat.error; first = x.beat.first; last = x.beat.last; empty = x.beat.empty } }) ≡ row_next sizes held from
next_shown sizes bit word x row lone joined held from same is words chosen lones joins =
    shown_same _ (row_next sizes held from) (ap (λ (z : Shown). z.valid) made) (worded (is_alone sizes held) word_is) (ap (λ (z : Shown). z.beat.channel) made) (ap (λ (z : Shown). z.beat.error) made) (ap (λ (z : Shown). z.beat.first) made) (ap (λ (z : Shown). z.beat.last) made) (ap (λ (z : Shown). z.beat.empty) made)
  where
    word_is : word ≡ front_of sizes held (if is_alone sizes held then 0 else from.beat.word)
    word_is = words ∙ ap (λ t. front_of sizes held (if t then 0 else from.beat.word)) is

    worded : (t : Bool) → word ≡ front_of sizes held (if t then 0 else from.beat.word) → word ≡ (if t then row_alone sizes held else row_joined sizes held from).beat.word
    worded true e = e
    worded false e = e

    by_alone : (t : Bool) → word ≡ front_of sizes held (if t then 0 else from.beat.word) → (if t then alone_with held word else joined_with sizes held from word) ≡ (if t then row_alone sizes held else row_joined sizes held from)
    by_alone true e = ap (alone_with held) e
    by_alone false e = ap (joined_with sizes held from) e

    made : x ≡ row_next sizes held from
    made =
        same ∙ chosen ∙ ap (λ t. if t then lone else joined) is
        ∙ ap (λ (z : Shown). if is_alone sizes held then z else joined) lones
        ∙ ap (λ (z : Shown). if is_alone sizes held then alone_with held word else z) joins
        ∙ by_alone (is_alone sizes held) word_is

pub loaded_shown : (loads goes comes : Bool) (next rest gathered held after : Shown) → loads ≡ (goes || comes) → next ≡ (if goes then rest else gathered) → after ≡ (if loads then next else held) → after ≡ (if goes then rest else (if comes then gathered else held))
loaded_shown loads goes comes next rest gathered held after is chosen loaded =
    loaded ∙ ap (λ t. if t then next else held) is ∙ ap (λ (x : Shown). if goes || comes then x else held) chosen ∙ by_both goes comes
  where
    by_both : (g t : Bool) → (if g || t then (if g then rest else gathered) else held) ≡ (if g then rest else (if t then gathered else held))
    by_both true t = refl
    by_both false true = refl
    by_both false false = refl

-- ready, by two inverted bits
pub asked : (w u alone full ready not_full passes not_alone up : ℕ) → w ≡ 1 → u ≡ 1 → alone < 2 → full < 2 → ready < 2 → not_full ≡ 2 ^ w - 1 - full → passes ≡ bit_or not_full ready → not_alone ≡ 2 ^ u - 1 - alone → passes < 2 → not_alone < 2 → up ≡ bit_and not_alone passes →
    (up == 1) ≡ (not (alone == 1) && (not (full == 1) || (ready == 1)))
asked w u alone full ready not_full passes not_alone up one other a f r inverted either turned small little both =
    high_and not_alone passes up little small both
    ∙ ap (λ t. t && (passes == 1)) (high_turned u alone not_alone other a turned)
    ∙ ap (λ t. not (alone == 1) && t) (high_room w full not_full ready passes one f r inverted either)

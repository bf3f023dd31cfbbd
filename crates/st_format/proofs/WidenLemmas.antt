-- The nets of a beat that joins others.
use Rattle.std.proofs.Common.{◌≡◌, ℕ, ◌+◌, ◌-◌, ◌*◌, ◌/◌, ◌%◌, ◌^◌, ◌<◌, ◌≤◌, Bool, true, false, ◌&&◌, ◌==◌, if◌then◌else◌, bit_or, refl, sym, ap, ◌∙◌, arith}
use Rattle.netlist.specs.Nets.{NetValue}
use Rattle.netlist.specs.Netlists.{Netlist}
use Rattle.netlist.specs.Runs.{Always}
use Rattle.net_parts.specs.Nets.{IsNetOfWidth}
use Rattle.net_parts.specs.Growth.{AddsNets}
use Rattle.stage_core.specs.Groups.{Shown, nothing_shown}
use Rattle.stage_core.specs.BeatLaws.{shown_same}
use Rattle.st_format.specs.declared.sizes.Sizes.{Sizes}
use Rattle.st_format.specs.declared.widen.Widen.{Widen}
use Rattle.st_format.specs.WidenNets.{part_at, laid, joined_by, held_of, is_full, missing_in, shown_joined, shown_gathered, shown_filled, shown_next}
use Rattle.net_parts.specs.Bits.{chosen_high}
use Rattle.st_format.proofs.NarrowLemmas.{one_where}

-- the lowest parts are laid
pub record AreLaid (sizes : Sizes) (done : ℕ) (held coming gathered word : NetValue) (old new : Netlist) : Type 0 where
  pub some : 1 ≤ done
  pub most : done ≤ sizes.parts
  pub adds : AddsNets (5 * done) old new
  pub net : IsNetOfWidth new word (sizes.bits * (sizes.symbols * done))
  pub value : Always new (λ cycle. cycle.net word.number ≡ laid sizes.bits sizes.symbols sizes.parts (cycle.net held.number) (cycle.net coming.number) (cycle.net gathered.number) done)

pub chosen_by : (t : Bool) (here old coming e : ℕ) → here ≡ (if t then 1 else 0) → e ≡ (if here == 0 then old else coming) → e ≡ (if t then coming else old)
chosen_by true here old coming e is chosen = chosen ∙ ap (λ n. if n == 0 then old else coming) is
chosen_by false here old coming e is chosen = chosen ∙ ap (λ n. if n == 0 then old else coming) is

pub coming_at : (gathered place k here old o e coming : ℕ) → place ≡ k → here ≡ (if gathered == place then 1 else 0) → old ≡ o → e ≡ (if here == 0 then old else coming) → e ≡ (if gathered == k then coming else o)
coming_at gathered place k here old o e coming at is olds chosen =
    chosen_by (gathered == k) here old coming e (is ∙ ap (λ n. if gathered == n then 1 else 0) at) chosen ∙ ap (λ n. if gathered == k then coming else n) olds

pub old_bits : (sizes : Sizes) (x low wide part : ℕ) → low ≡ sizes.bits * (sizes.symbols * part) → wide ≡ sizes.bits * sizes.symbols → 1 ≤ wide →
    x / 2 ^ low % 2 ^ (low + wide - 1 - low + 1) ≡ x / 2 ^ (sizes.bits * (sizes.symbols * part)) % 2 ^ (sizes.bits * sizes.symbols)
old_bits sizes x low wide part e f some =
    let width : low + wide - 1 - low + 1 ≡ sizes.bits * sizes.symbols = omega (arith, f, some) in
    ap (λ n. x / 2 ^ low % 2 ^ n) width ∙ ap (λ n. x / 2 ^ n % 2 ^ (sizes.bits * sizes.symbols)) e

pub missing_and : (sizes : Sizes) (w u gathered most missing own empty joined : ℕ) → w ≡ sizes.count → u ≡ sizes.count → most ≡ sizes.symbols * (sizes.parts - 1) → missing ≡ (most + (2 ^ w - gathered)) % 2 ^ w → own ≡ empty % 2 ^ sizes.count → joined ≡ (missing + own) % 2 ^ u →
    joined ≡ missing_in sizes gathered empty
missing_and sizes w u gathered most missing own empty joined wide wide' mosts misses owns is =
    let missing_is : missing ≡ (sizes.symbols * (sizes.parts - 1) + (2 ^ sizes.count - gathered)) % 2 ^ sizes.count = misses ∙ ap (λ n. (n + (2 ^ w - gathered)) % 2 ^ w) mosts ∙ ap (λ n. (sizes.symbols * (sizes.parts - 1) + (2 ^ n - gathered)) % 2 ^ n) wide in
    is ∙ ap (λ n. (missing + own) % 2 ^ n) wide' ∙ ap (λ n. (n + own) % 2 ^ sizes.count) missing_is
    ∙ ap (λ n. ((sizes.symbols * (sizes.parts - 1) + (2 ^ sizes.count - gathered)) % 2 ^ sizes.count + n) % 2 ^ sizes.count) owns

pub joined_shown : (stage : Widen) (x held from : Shown) (valid word error first empty : ℕ) → x ≡ from → valid < 2 → (valid == 1) ≡ ((from.valid == 1) && is_full stage.sizes held from)
    → word ≡ joined_by stage held.valid held.beat.word from.beat.word held.beat.empty → error ≡ bit_or held.beat.error from.beat.error
    → first ≡ (if held.valid == 1 then held.beat.first else from.beat.first)
    → empty ≡ missing_in stage.sizes held.beat.empty from.beat.empty →
    (record { valid = valid; beat = record { word = word; channel = x.beat.channel; error = error; first = first; last = x.beat.last; empty = empty } }) ≡ shown_joined stage held from
joined_shown stage x held from valid word error first empty same small shown words errors firsts empties =
    shown_same _ (shown_joined stage held from) (one_where _ valid small shown) words (ap (λ (z : Shown). z.beat.channel) same) errors firsts (ap (λ (z : Shown). z.beat.last) same) empties

pub filled_shown : (stage : Widen) (held from joined none : Shown) → joined ≡ shown_joined stage held from → none ≡ nothing_shown →
    shown_gathered stage from.valid held joined none ≡ shown_filled stage held from
filled_shown stage held from joined none is low =
    shown_same _ (shown_filled stage held from) refl (ap (λ (z : Shown). held_of stage z.beat.word) is) (ap (λ (z : Shown). z.beat.channel) low) (ap (λ (z : Shown). z.beat.error) is) (ap (λ (z : Shown). z.beat.first) is) (ap (λ (z : Shown). z.beat.last) low) refl

-- with packets the words stand in places
pub joined_places : (stage : Widen) (some held coming gathered none known low whole word w : ℕ) → stage.packets ≡ true → some < 2 → none ≡ 0 → known ≡ (if some == 0 then none else held) → w ≡ stage.sizes.bits * stage.sizes.symbols → low ≡ 0 → whole ≡ known * 2 ^ w + low
    → word ≡ laid stage.sizes.bits stage.sizes.symbols stage.sizes.parts whole coming gathered stage.sizes.parts → word ≡ joined_by stage some held coming gathered
joined_places stage some held coming gathered none known low whole word w packets small zeroed chosen wide lowest whole_is is = rw packets (is ∙ ap (λ n. laid stage.sizes.bits stage.sizes.symbols stage.sizes.parts n coming gathered stage.sizes.parts) raised)
  where
    known_is : known ≡ (if some == 1 then held else 0)
    known_is = chosen ∙ chosen_high some held none small ∙ ap (λ n. if some == 1 then held else n) zeroed

    raised : whole ≡ (if some == 1 then held else 0) * 2 ^ (stage.sizes.bits * stage.sizes.symbols)
    raised = whole_is ∙ ap (λ n. known * 2 ^ w + n) lowest ∙ (let bare : known * 2 ^ w + 0 ≡ known * 2 ^ w = omega arith in bare) ∙ ap (λ n. n * 2 ^ w) known_is ∙ ap (λ n. (if some == 1 then held else 0) * 2 ^ n) wide

-- with this word
abbrev pub with_word : Shown → ℕ → Shown
with_word x word = record { valid = x.valid; beat = record x.beat { word = word } }

pub next_shown : (x : Shown) (goes : Bool) (none filled : Shown) → x ≡ (if goes then none else filled) → with_word x filled.beat.word ≡ shown_next goes none filled
next_shown x true none filled e = ap (λ z. with_word z filled.beat.word) e
next_shown x false none filled e = ap (λ z. with_word z filled.beat.word) e

-- the lowest part alone
pub laid_one : (bits symbols parts held coming gathered : ℕ) → part_at bits symbols parts held coming gathered 0 ≡ laid bits symbols parts held coming gathered 1
laid_one bits symbols parts held coming gathered =
    let none : bits * (symbols * 0) ≡ 0 = omega arith in
    let one : 2 ^ (bits * (symbols * 0)) ≡ 1 = ap (λ n. 2 ^ n) none in
    let bare : part_at bits symbols parts held coming gathered 0 ≡ part_at bits symbols parts held coming gathered 0 * 1 + 0 = omega arith in
    bare ∙ ap (λ n. part_at bits symbols parts held coming gathered 0 * n + 0) (sym one)

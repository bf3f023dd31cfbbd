-- The nets of the first part of a wide beat and of what is left of it.
use Rattle.std.proofs.Common.{◌≡◌, ℕ, zero, suc, ◌+◌, ◌-◌, ◌*◌, ◌/◌, ◌%◌, ◌^◌, ◌<◌, ◌≤◌, Bool, true, false, not, ◌&&◌, ◌==◌, if◌then◌else◌, bit_and, refl, sym, ap, ◌∙◌, arith}
use Rattle.netlist.specs.Netlists.{Netlist}
use Rattle.stage_core.specs.declared.beat.BeatNets.{BeatNets}
use Rattle.stage_core.specs.Beats.{AreBeatNets, HaveSameWidths}
use Rattle.stage_core.specs.Groups.{Shown}
use Rattle.net_parts.specs.Bits.{high_and, high_turned}
use Rattle.st_format.specs.declared.sizes.Sizes.{Sizes}
use Rattle.st_format.specs.NarrowNets.{has_more, piece_empty, piece_of, shown_piece, shown_rest, laid_above, HaveRestWidths}

pub part_bits : (sizes : Sizes) (x low wide : ℕ) → low ≡ sizes.bits * (sizes.symbols * (sizes.parts - 1)) → wide ≡ sizes.bits * sizes.symbols → 1 ≤ wide →
    x / 2 ^ low % 2 ^ (low + wide - 1 - low + 1) ≡ x / 2 ^ (sizes.bits * (sizes.symbols * (sizes.parts - 1))) % 2 ^ (sizes.bits * sizes.symbols)
part_bits sizes x low wide e f some =
    let width : low + wide - 1 - low + 1 ≡ sizes.bits * sizes.symbols = omega (arith, f, some) in
    ap (λ n. x / 2 ^ low % 2 ^ n) width ∙ ap (λ n. x / 2 ^ n % 2 ^ (sizes.bits * sizes.symbols)) e

pub part_shown : (sizes : Sizes) (x y : Shown) (more word last empty : ℕ) → x ≡ y → (more == 1) ≡ has_more sizes y.beat
    → word ≡ y.beat.word / 2 ^ (sizes.bits * (sizes.symbols * (sizes.parts - 1))) % 2 ^ (sizes.bits * sizes.symbols)
    → last ≡ (if more == 1 then 0 else y.beat.last)
    → empty ≡ piece_empty sizes y.beat.empty →
    (record { valid = x.valid; beat = record { word = word; channel = x.beat.channel; error = x.beat.error; first = x.beat.first; last = last; empty = empty } }) ≡ shown_piece sizes y
part_shown sizes x y more word last empty same follows words lasts empties =
    ap (λ (z : Shown). record { valid = z.valid; beat = record { word = word; channel = z.beat.channel; error = z.beat.error; first = z.beat.first; last = last; empty = empty } }) same
    ∙ ap (λ n. record { valid = y.valid; beat = record { word = n; channel = y.beat.channel; error = y.beat.error; first = y.beat.first; last = last; empty = empty } }) words
    ∙ ap (λ n. record { valid = y.valid; beat = record (piece_of sizes y.beat) { last = n; empty = empty } }) (lasts ∙ ap (λ t. if t then 0 else y.beat.last) follows)
    ∙ ap (λ n. record { valid = y.valid; beat = record (piece_of sizes y.beat) { empty = n } }) empties

-- nets with a part less than the same ones have the same widths
pub rest_widths : (sizes : Sizes) (a b : Netlist) (one other like : BeatNets) → AreBeatNets a one → AreBeatNets b other → HaveRestWidths sizes one like → HaveRestWidths sizes other like → HaveSameWidths one other
rest_widths sizes a b one other like p q left right = record {
  valid = p.valid.has_width ∙ sym q.valid.has_width;
  word = left.word ∙ sym right.word;
  channel = left.channel ∙ sym right.channel;
  error = left.error ∙ sym right.error;
  first = p.first.has_width ∙ sym q.first.has_width;
  last = p.last.has_width ∙ sym q.last.has_width;
  empty = left.empty ∙ sym right.empty;
}

-- the lowest bits, as a slice has them
pub low_bits : (x low bits : ℕ) → low ≡ bits → 1 ≤ low → x / 2 ^ 0 % 2 ^ (low - 1 - 0 + 1) ≡ x % 2 ^ bits
low_bits x low bits e some =
    let whole : x / 2 ^ 0 ≡ x = omega arith in
    let width : low - 1 - 0 + 1 ≡ bits = omega (arith, e, some) in
    ap (λ n. n % 2 ^ (low - 1 - 0 + 1)) whole ∙ ap (λ n. x % 2 ^ n) width

pub laid_shown : (sizes : Sizes) (x y : Shown) (word lowest whole wide : ℕ) → x ≡ y → wide ≡ sizes.bits * sizes.symbols → lowest ≡ word % 2 ^ (sizes.bits * sizes.symbols) → whole ≡ y.beat.word * 2 ^ wide + lowest →
    (record { valid = x.valid; beat = record { word = whole; channel = x.beat.channel; error = x.beat.error; first = x.beat.first; last = x.beat.last; empty = x.beat.empty } }) ≡ laid_above sizes y word
laid_shown sizes x y word lowest whole wide same bits low is =
    ap (λ (z : Shown). record { valid = z.valid; beat = record { word = whole; channel = z.beat.channel; error = z.beat.error; first = z.beat.first; last = z.beat.last; empty = z.beat.empty } }) same
    ∙ ap (λ n. record { valid = y.valid; beat = record y.beat { word = n } }) (is ∙ ap (λ n. y.beat.word * 2 ^ n + lowest) bits ∙ ap (λ n. y.beat.word * 2 ^ (sizes.bits * sizes.symbols) + n) low)

pub one_where : (t : Bool) (more : ℕ) → more < 2 → (more == 1) ≡ t → more ≡ (if t then 1 else 0)
one_where true zero h e = absurd (cc)
one_where false zero h e = refl
one_where true (suc zero) h e = refl
one_where false (suc zero) h e = absurd (cc)
one_where t (suc (suc more)) h e = absurd (omega arith)

pub rest_shown : (sizes : Sizes) (x y : Shown) (more word first empty : ℕ) → x ≡ y → more < 2 → (more == 1) ≡ has_more sizes y.beat
    → word ≡ y.beat.word % 2 ^ (sizes.bits * (sizes.symbols * (sizes.parts - 1)))
    → first ≡ 0 → empty ≡ (y.beat.empty + sizes.symbols) % 2 ^ sizes.count →
    (record { valid = more; beat = record { word = word; channel = x.beat.channel; error = x.beat.error; first = first; last = x.beat.last; empty = empty } }) ≡ shown_rest sizes y
rest_shown sizes x y more word first empty same small follows words firsts empties =
    ap (λ (z : Shown). record { valid = more; beat = record { word = word; channel = z.beat.channel; error = z.beat.error; first = first; last = z.beat.last; empty = empty } }) same
    ∙ rw (one_where (has_more sizes y.beat) more small follows, words, firsts, empties) refl

pub asks_idle : (w held ready none up : ℕ) → w ≡ 1 → held < 2 → ready < 2 → none ≡ 2 ^ w - 1 - held → up ≡ bit_and none ready → (up == 1) ≡ (not (held == 1) && (ready == 1))
asks_idle w held ready none up one h k inverted is =
    let now : none ≡ 2 ^ 1 - 1 - held = inverted ∙ ap (λ n. 2 ^ n - 1 - held) one in
    let small : none < 2 = omega (arith, now) in
    high_and none ready up small k is ∙ ap (λ t. t && (ready == 1)) (high_turned w held none one h inverted)

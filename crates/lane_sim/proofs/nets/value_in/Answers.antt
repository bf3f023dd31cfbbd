use Rattle.std.proofs.Common.{◌≡◌, ◌+◌, ◌-◌, length, get_or, Some, refl, sym, ap, ◌∙◌, arith}
use Rattle.std.proofs.lemmas.Bool.{false≢true}
use Rattle.std.specs.Prelude.{◌==◌, option_map}
use Rattle.std.proofs.lemmas.Option.{get_or_from_slice_get, slice_get_within}
use Rattle.av_base.specs.Word.{Word, word, and_of, or_of, xor_of, add_of, sub_of, eq_of, less_of, concat_of, not_of, any_of, slice_of, mux_of}
use Rattle.netlist.specs.declared.line.Equation.TheVariants.{Input, Constant, And, Or, Xor, Add, Sub, Eq, Less, Concat, Not, Any, Mux, Slice, Reg, Read}
use Rattle.cycle_sim.specs.Sims.{bits_at, place_of}
use Rattle.lane_sim.specs.LaneWords.{value_at}
use Rattle.lane_sim.specs.LaneSims.{cells_at, lane_words}
use Rattle.lane_sim.proofs.Lines.{here, given, of_one, of_two, of_three, chosen_width, chosen_bits, given_state}
use Rattle.lane_sim.proofs.Access.{given_read}
use Rattle.lane_sim.proofs.LaneLists.{first, lane_count, lane_read, within_lanes, lane_width, lane_same_width, lane_operand}
use Rattle.lane_sim.proofs.nets.value_in.Goals as goal

pub bounds-nets-a : goal.bounds-nets-a
bounds-nets-a c =
    let h = here c.args.module.now c.args.net (And c.in-And.a c.in-And.b) c.requires.module c.requires.net_is c.in-And.ensures in
    within_lanes c.args.module.now.lines c.args.nets.now c.in-And.a (h.width) c.requires.nets h.sound.left.width

pub bounds-nets-b : goal.bounds-nets-b
bounds-nets-b c =
    let h = here c.args.module.now c.args.net (And c.in-And.a c.in-And.b) c.requires.module c.requires.net_is c.in-And.ensures in
    within_lanes c.args.module.now.lines c.args.nets.now c.in-And.b (h.width) c.requires.nets h.sound.right.width

pub and-requires : goal.and-requires
and-requires c =
    let h = here c.args.module.now c.args.net (And c.in-And.a c.in-And.b) c.requires.module c.requires.net_is c.in-And.ensures in
    lane_same_width c.args.module.now.lines c.args.nets.now c.in-And.a c.in-And.b (h.width) c.requires.nets h.sound.left.width h.sound.right.width _ _ c.index-nets-a.is c.index-nets-b.is

pub returns-in-And : goal.returns-in-And
returns-in-And c j lt =
    let h = here c.args.module.now c.args.net (And c.in-And.a c.in-And.b) c.requires.module c.requires.net_is c.in-And.ensures in
    given c.args.module.now (cells_at c.args.cells.now j).words (lane_words j c.args.nets.now) c.args.net (And c.in-And.a c.in-And.b) h _ (and_of (word (h.width) (bits_at (lane_words j c.args.nets.now) c.in-And.a)) (word (h.width) (bits_at (lane_words j c.args.nets.now) c.in-And.b))) refl
    (of_two and_of _ _ _ _ _ (lane_operand j lt c.args.module.now.lines c.args.nets.now c.in-And.a (h.width) c.requires.nets h.sound.left.width _ c.index-nets-a.is) (lane_operand j lt c.args.module.now.lines c.args.nets.now c.in-And.b (h.width) c.requires.nets h.sound.right.width _ c.index-nets-b.is) (c.and.ensures j lt)) refl refl

pub bounds-nets-a-in-Or : goal.bounds-nets-a-in-Or
bounds-nets-a-in-Or c =
    let h = here c.args.module.now c.args.net (Or c.in-Or.a c.in-Or.b) c.requires.module c.requires.net_is c.in-Or.ensures in
    within_lanes c.args.module.now.lines c.args.nets.now c.in-Or.a (h.width) c.requires.nets h.sound.left.width

pub bounds-nets-b-in-Or : goal.bounds-nets-b-in-Or
bounds-nets-b-in-Or c =
    let h = here c.args.module.now c.args.net (Or c.in-Or.a c.in-Or.b) c.requires.module c.requires.net_is c.in-Or.ensures in
    within_lanes c.args.module.now.lines c.args.nets.now c.in-Or.b (h.width) c.requires.nets h.sound.right.width

pub or-requires : goal.or-requires
or-requires c =
    let h = here c.args.module.now c.args.net (Or c.in-Or.a c.in-Or.b) c.requires.module c.requires.net_is c.in-Or.ensures in
    lane_same_width c.args.module.now.lines c.args.nets.now c.in-Or.a c.in-Or.b (h.width) c.requires.nets h.sound.left.width h.sound.right.width _ _ c.index-nets-a-in-Or.is c.index-nets-b-in-Or.is

pub returns-in-Or : goal.returns-in-Or
returns-in-Or c j lt =
    let h = here c.args.module.now c.args.net (Or c.in-Or.a c.in-Or.b) c.requires.module c.requires.net_is c.in-Or.ensures in
    given c.args.module.now (cells_at c.args.cells.now j).words (lane_words j c.args.nets.now) c.args.net (Or c.in-Or.a c.in-Or.b) h _ (or_of (word (h.width) (bits_at (lane_words j c.args.nets.now) c.in-Or.a)) (word (h.width) (bits_at (lane_words j c.args.nets.now) c.in-Or.b))) refl
    (of_two or_of _ _ _ _ _ (lane_operand j lt c.args.module.now.lines c.args.nets.now c.in-Or.a (h.width) c.requires.nets h.sound.left.width _ c.index-nets-a-in-Or.is) (lane_operand j lt c.args.module.now.lines c.args.nets.now c.in-Or.b (h.width) c.requires.nets h.sound.right.width _ c.index-nets-b-in-Or.is) (c.or.ensures j lt)) refl refl

pub bounds-nets-a-in-Xor : goal.bounds-nets-a-in-Xor
bounds-nets-a-in-Xor c =
    let h = here c.args.module.now c.args.net (Xor c.in-Xor.a c.in-Xor.b) c.requires.module c.requires.net_is c.in-Xor.ensures in
    within_lanes c.args.module.now.lines c.args.nets.now c.in-Xor.a (h.width) c.requires.nets h.sound.left.width

pub bounds-nets-b-in-Xor : goal.bounds-nets-b-in-Xor
bounds-nets-b-in-Xor c =
    let h = here c.args.module.now c.args.net (Xor c.in-Xor.a c.in-Xor.b) c.requires.module c.requires.net_is c.in-Xor.ensures in
    within_lanes c.args.module.now.lines c.args.nets.now c.in-Xor.b (h.width) c.requires.nets h.sound.right.width

pub xor-requires : goal.xor-requires
xor-requires c =
    let h = here c.args.module.now c.args.net (Xor c.in-Xor.a c.in-Xor.b) c.requires.module c.requires.net_is c.in-Xor.ensures in
    lane_same_width c.args.module.now.lines c.args.nets.now c.in-Xor.a c.in-Xor.b (h.width) c.requires.nets h.sound.left.width h.sound.right.width _ _ c.index-nets-a-in-Xor.is c.index-nets-b-in-Xor.is

pub returns-in-Xor : goal.returns-in-Xor
returns-in-Xor c j lt =
    let h = here c.args.module.now c.args.net (Xor c.in-Xor.a c.in-Xor.b) c.requires.module c.requires.net_is c.in-Xor.ensures in
    given c.args.module.now (cells_at c.args.cells.now j).words (lane_words j c.args.nets.now) c.args.net (Xor c.in-Xor.a c.in-Xor.b) h _ (xor_of (word (h.width) (bits_at (lane_words j c.args.nets.now) c.in-Xor.a)) (word (h.width) (bits_at (lane_words j c.args.nets.now) c.in-Xor.b))) refl
    (of_two xor_of _ _ _ _ _ (lane_operand j lt c.args.module.now.lines c.args.nets.now c.in-Xor.a (h.width) c.requires.nets h.sound.left.width _ c.index-nets-a-in-Xor.is) (lane_operand j lt c.args.module.now.lines c.args.nets.now c.in-Xor.b (h.width) c.requires.nets h.sound.right.width _ c.index-nets-b-in-Xor.is) (c.xor.ensures j lt)) refl refl

pub bounds-nets-a-in-Add : goal.bounds-nets-a-in-Add
bounds-nets-a-in-Add c =
    let h = here c.args.module.now c.args.net (Add c.in-Add.a c.in-Add.b) c.requires.module c.requires.net_is c.in-Add.ensures in
    within_lanes c.args.module.now.lines c.args.nets.now c.in-Add.a (h.width) c.requires.nets h.sound.left.width

pub bounds-nets-b-in-Add : goal.bounds-nets-b-in-Add
bounds-nets-b-in-Add c =
    let h = here c.args.module.now c.args.net (Add c.in-Add.a c.in-Add.b) c.requires.module c.requires.net_is c.in-Add.ensures in
    within_lanes c.args.module.now.lines c.args.nets.now c.in-Add.b (h.width) c.requires.nets h.sound.right.width

pub add-requires : goal.add-requires
add-requires c =
    let h = here c.args.module.now c.args.net (Add c.in-Add.a c.in-Add.b) c.requires.module c.requires.net_is c.in-Add.ensures in
    lane_same_width c.args.module.now.lines c.args.nets.now c.in-Add.a c.in-Add.b (h.width) c.requires.nets h.sound.left.width h.sound.right.width _ _ c.index-nets-a-in-Add.is c.index-nets-b-in-Add.is

pub returns-in-Add : goal.returns-in-Add
returns-in-Add c j lt =
    let h = here c.args.module.now c.args.net (Add c.in-Add.a c.in-Add.b) c.requires.module c.requires.net_is c.in-Add.ensures in
    given c.args.module.now (cells_at c.args.cells.now j).words (lane_words j c.args.nets.now) c.args.net (Add c.in-Add.a c.in-Add.b) h _ (add_of (word (h.width) (bits_at (lane_words j c.args.nets.now) c.in-Add.a)) (word (h.width) (bits_at (lane_words j c.args.nets.now) c.in-Add.b))) refl
    (of_two add_of _ _ _ _ _ (lane_operand j lt c.args.module.now.lines c.args.nets.now c.in-Add.a (h.width) c.requires.nets h.sound.left.width _ c.index-nets-a-in-Add.is) (lane_operand j lt c.args.module.now.lines c.args.nets.now c.in-Add.b (h.width) c.requires.nets h.sound.right.width _ c.index-nets-b-in-Add.is) (c.add.ensures j lt)) refl refl

pub bounds-nets-a-in-Sub : goal.bounds-nets-a-in-Sub
bounds-nets-a-in-Sub c =
    let h = here c.args.module.now c.args.net (Sub c.in-Sub.a c.in-Sub.b) c.requires.module c.requires.net_is c.in-Sub.ensures in
    within_lanes c.args.module.now.lines c.args.nets.now c.in-Sub.a (h.width) c.requires.nets h.sound.left.width

pub bounds-nets-b-in-Sub : goal.bounds-nets-b-in-Sub
bounds-nets-b-in-Sub c =
    let h = here c.args.module.now c.args.net (Sub c.in-Sub.a c.in-Sub.b) c.requires.module c.requires.net_is c.in-Sub.ensures in
    within_lanes c.args.module.now.lines c.args.nets.now c.in-Sub.b (h.width) c.requires.nets h.sound.right.width

pub sub-requires : goal.sub-requires
sub-requires c =
    let h = here c.args.module.now c.args.net (Sub c.in-Sub.a c.in-Sub.b) c.requires.module c.requires.net_is c.in-Sub.ensures in
    lane_same_width c.args.module.now.lines c.args.nets.now c.in-Sub.a c.in-Sub.b (h.width) c.requires.nets h.sound.left.width h.sound.right.width _ _ c.index-nets-a-in-Sub.is c.index-nets-b-in-Sub.is

pub returns-in-Sub : goal.returns-in-Sub
returns-in-Sub c j lt =
    let h = here c.args.module.now c.args.net (Sub c.in-Sub.a c.in-Sub.b) c.requires.module c.requires.net_is c.in-Sub.ensures in
    given c.args.module.now (cells_at c.args.cells.now j).words (lane_words j c.args.nets.now) c.args.net (Sub c.in-Sub.a c.in-Sub.b) h _ (sub_of (word (h.width) (bits_at (lane_words j c.args.nets.now) c.in-Sub.a)) (word (h.width) (bits_at (lane_words j c.args.nets.now) c.in-Sub.b))) refl
    (of_two sub_of _ _ _ _ _ (lane_operand j lt c.args.module.now.lines c.args.nets.now c.in-Sub.a (h.width) c.requires.nets h.sound.left.width _ c.index-nets-a-in-Sub.is) (lane_operand j lt c.args.module.now.lines c.args.nets.now c.in-Sub.b (h.width) c.requires.nets h.sound.right.width _ c.index-nets-b-in-Sub.is) (c.sub.ensures j lt)) refl refl

pub bounds-nets-a-in-Eq : goal.bounds-nets-a-in-Eq
bounds-nets-a-in-Eq c =
    let h = here c.args.module.now c.args.net (Eq c.in-Eq.a c.in-Eq.b) c.requires.module c.requires.net_is c.in-Eq.ensures in
    within_lanes c.args.module.now.lines c.args.nets.now c.in-Eq.a (h.sound.width) c.requires.nets h.sound.operands.left.width

pub bounds-nets-b-in-Eq : goal.bounds-nets-b-in-Eq
bounds-nets-b-in-Eq c =
    let h = here c.args.module.now c.args.net (Eq c.in-Eq.a c.in-Eq.b) c.requires.module c.requires.net_is c.in-Eq.ensures in
    within_lanes c.args.module.now.lines c.args.nets.now c.in-Eq.b (h.sound.width) c.requires.nets h.sound.operands.right.width

pub eq-requires : goal.eq-requires
eq-requires c =
    let h = here c.args.module.now c.args.net (Eq c.in-Eq.a c.in-Eq.b) c.requires.module c.requires.net_is c.in-Eq.ensures in
    lane_same_width c.args.module.now.lines c.args.nets.now c.in-Eq.a c.in-Eq.b (h.sound.width) c.requires.nets h.sound.operands.left.width h.sound.operands.right.width _ _ c.index-nets-a-in-Eq.is c.index-nets-b-in-Eq.is

pub returns-in-Eq : goal.returns-in-Eq
returns-in-Eq c j lt =
    let h = here c.args.module.now c.args.net (Eq c.in-Eq.a c.in-Eq.b) c.requires.module c.requires.net_is c.in-Eq.ensures in
    given c.args.module.now (cells_at c.args.cells.now j).words (lane_words j c.args.nets.now) c.args.net (Eq c.in-Eq.a c.in-Eq.b) h _ (eq_of (word (h.sound.width) (bits_at (lane_words j c.args.nets.now) c.in-Eq.a)) (word (h.sound.width) (bits_at (lane_words j c.args.nets.now) c.in-Eq.b))) refl
    (of_two eq_of _ _ _ _ _ (lane_operand j lt c.args.module.now.lines c.args.nets.now c.in-Eq.a (h.sound.width) c.requires.nets h.sound.operands.left.width _ c.index-nets-a-in-Eq.is) (lane_operand j lt c.args.module.now.lines c.args.nets.now c.in-Eq.b (h.sound.width) c.requires.nets h.sound.operands.right.width _ c.index-nets-b-in-Eq.is) (c.eq.ensures j lt)) (sym h.sound.one_bit) refl

pub bounds-nets-a-in-Less : goal.bounds-nets-a-in-Less
bounds-nets-a-in-Less c =
    let h = here c.args.module.now c.args.net (Less c.in-Less.a c.in-Less.b) c.requires.module c.requires.net_is c.in-Less.ensures in
    within_lanes c.args.module.now.lines c.args.nets.now c.in-Less.a (h.sound.width) c.requires.nets h.sound.operands.left.width

pub bounds-nets-b-in-Less : goal.bounds-nets-b-in-Less
bounds-nets-b-in-Less c =
    let h = here c.args.module.now c.args.net (Less c.in-Less.a c.in-Less.b) c.requires.module c.requires.net_is c.in-Less.ensures in
    within_lanes c.args.module.now.lines c.args.nets.now c.in-Less.b (h.sound.width) c.requires.nets h.sound.operands.right.width

pub less-requires : goal.less-requires
less-requires c =
    let h = here c.args.module.now c.args.net (Less c.in-Less.a c.in-Less.b) c.requires.module c.requires.net_is c.in-Less.ensures in
    lane_same_width c.args.module.now.lines c.args.nets.now c.in-Less.a c.in-Less.b (h.sound.width) c.requires.nets h.sound.operands.left.width h.sound.operands.right.width _ _ c.index-nets-a-in-Less.is c.index-nets-b-in-Less.is

pub returns-in-Less : goal.returns-in-Less
returns-in-Less c j lt =
    let h = here c.args.module.now c.args.net (Less c.in-Less.a c.in-Less.b) c.requires.module c.requires.net_is c.in-Less.ensures in
    given c.args.module.now (cells_at c.args.cells.now j).words (lane_words j c.args.nets.now) c.args.net (Less c.in-Less.a c.in-Less.b) h _ (less_of (word (h.sound.width) (bits_at (lane_words j c.args.nets.now) c.in-Less.a)) (word (h.sound.width) (bits_at (lane_words j c.args.nets.now) c.in-Less.b))) refl
    (of_two less_of _ _ _ _ _ (lane_operand j lt c.args.module.now.lines c.args.nets.now c.in-Less.a (h.sound.width) c.requires.nets h.sound.operands.left.width _ c.index-nets-a-in-Less.is) (lane_operand j lt c.args.module.now.lines c.args.nets.now c.in-Less.b (h.sound.width) c.requires.nets h.sound.operands.right.width _ c.index-nets-b-in-Less.is) (c.less.ensures j lt)) (sym h.sound.one_bit) refl

pub bounds-nets-a-in-Concat : goal.bounds-nets-a-in-Concat
bounds-nets-a-in-Concat c =
    let h = here c.args.module.now c.args.net (Concat c.in-Concat.a c.in-Concat.b) c.requires.module c.requires.net_is c.in-Concat.ensures in
    within_lanes c.args.module.now.lines c.args.nets.now c.in-Concat.a (h.sound.high_width) c.requires.nets h.sound.high.width

pub bounds-nets-b-in-Concat : goal.bounds-nets-b-in-Concat
bounds-nets-b-in-Concat c =
    let h = here c.args.module.now c.args.net (Concat c.in-Concat.a c.in-Concat.b) c.requires.module c.requires.net_is c.in-Concat.ensures in
    within_lanes c.args.module.now.lines c.args.nets.now c.in-Concat.b (h.sound.low_width) c.requires.nets h.sound.low.width

pub concat-requires : goal.concat-requires
concat-requires c =
    let h = here c.args.module.now c.args.net (Concat c.in-Concat.a c.in-Concat.b) c.requires.module c.requires.net_is c.in-Concat.ensures in
    let high = lane_width c.args.module.now.lines c.args.nets.now c.in-Concat.a (h.sound.high_width) c.requires.nets h.sound.high.width _ c.index-nets-a-in-Concat.is in
    let low = lane_width c.args.module.now.lines c.args.nets.now c.in-Concat.b (h.sound.low_width) c.requires.nets h.sound.low.width _ c.index-nets-b-in-Concat.is in
    let sum = h.sound.sum in
    let small = h.small in
    omega (arith, high, low, sum, small)

pub returns-in-Concat : goal.returns-in-Concat
returns-in-Concat c j lt =
    let h = here c.args.module.now c.args.net (Concat c.in-Concat.a c.in-Concat.b) c.requires.module c.requires.net_is c.in-Concat.ensures in
    given c.args.module.now (cells_at c.args.cells.now j).words (lane_words j c.args.nets.now) c.args.net (Concat c.in-Concat.a c.in-Concat.b) h _ (concat_of (word (h.sound.high_width) (bits_at (lane_words j c.args.nets.now) c.in-Concat.a)) (word (h.sound.low_width) (bits_at (lane_words j c.args.nets.now) c.in-Concat.b))) refl
    (of_two concat_of _ _ _ _ _ (lane_operand j lt c.args.module.now.lines c.args.nets.now c.in-Concat.a (h.sound.high_width) c.requires.nets h.sound.high.width _ c.index-nets-a-in-Concat.is) (lane_operand j lt c.args.module.now.lines c.args.nets.now c.in-Concat.b (h.sound.low_width) c.requires.nets h.sound.low.width _ c.index-nets-b-in-Concat.is) (c.concat.ensures j lt)) (sym h.sound.sum)
    (ap (option_map (λ k. (concat_of (word (h.width - k) (bits_at (lane_words j c.args.nets.now) c.in-Concat.a)) (word k (bits_at (lane_words j c.args.nets.now) c.in-Concat.b))).bits)) h.sound.low.width)

pub bounds-nets-a-in-Not : goal.bounds-nets-a-in-Not
bounds-nets-a-in-Not c =
    let h = here c.args.module.now c.args.net (Not c.in-Not.a) c.requires.module c.requires.net_is c.in-Not.ensures in
    within_lanes c.args.module.now.lines c.args.nets.now c.in-Not.a (h.width) c.requires.nets h.sound.width

pub returns-in-Not : goal.returns-in-Not
returns-in-Not c j lt =
    let h = here c.args.module.now c.args.net (Not c.in-Not.a) c.requires.module c.requires.net_is c.in-Not.ensures in
    given c.args.module.now (cells_at c.args.cells.now j).words (lane_words j c.args.nets.now) c.args.net (Not c.in-Not.a) h _ (not_of (word (h.width) (bits_at (lane_words j c.args.nets.now) c.in-Not.a))) refl
    (of_one not_of _ _ _ (lane_operand j lt c.args.module.now.lines c.args.nets.now c.in-Not.a (h.width) c.requires.nets h.sound.width _ c.index-nets-a-in-Not.is) (c.not.ensures j lt)) refl refl

pub bounds-nets-a-in-Any : goal.bounds-nets-a-in-Any
bounds-nets-a-in-Any c =
    let h = here c.args.module.now c.args.net (Any c.in-Any.a) c.requires.module c.requires.net_is c.in-Any.ensures in
    within_lanes c.args.module.now.lines c.args.nets.now c.in-Any.a (h.sound.width) c.requires.nets h.sound.operand.width

pub returns-in-Any : goal.returns-in-Any
returns-in-Any c j lt =
    let h = here c.args.module.now c.args.net (Any c.in-Any.a) c.requires.module c.requires.net_is c.in-Any.ensures in
    given c.args.module.now (cells_at c.args.cells.now j).words (lane_words j c.args.nets.now) c.args.net (Any c.in-Any.a) h _ (any_of (word (h.sound.width) (bits_at (lane_words j c.args.nets.now) c.in-Any.a))) refl
    (of_one any_of _ _ _ (lane_operand j lt c.args.module.now.lines c.args.nets.now c.in-Any.a (h.sound.width) c.requires.nets h.sound.operand.width _ c.index-nets-a-in-Any.is) (c.any.ensures j lt)) (sym h.sound.one_bit) refl

pub bounds-nets-s : goal.bounds-nets-s
bounds-nets-s c =
    let h = here c.args.module.now c.args.net (Mux c.in-Mux.s c.in-Mux.a c.in-Mux.b) c.requires.module c.requires.net_is c.in-Mux.ensures in
    within_lanes c.args.module.now.lines c.args.nets.now c.in-Mux.s (1) c.requires.nets h.sound.test.width

pub bounds-nets-a-in-Mux : goal.bounds-nets-a-in-Mux
bounds-nets-a-in-Mux c =
    let h = here c.args.module.now c.args.net (Mux c.in-Mux.s c.in-Mux.a c.in-Mux.b) c.requires.module c.requires.net_is c.in-Mux.ensures in
    within_lanes c.args.module.now.lines c.args.nets.now c.in-Mux.a (h.width) c.requires.nets h.sound.branches.left.width

pub bounds-nets-b-in-Mux : goal.bounds-nets-b-in-Mux
bounds-nets-b-in-Mux c =
    let h = here c.args.module.now c.args.net (Mux c.in-Mux.s c.in-Mux.a c.in-Mux.b) c.requires.module c.requires.net_is c.in-Mux.ensures in
    within_lanes c.args.module.now.lines c.args.nets.now c.in-Mux.b (h.width) c.requires.nets h.sound.branches.right.width

pub mux-requires-clause-one : goal.mux-requires-clause-one
mux-requires-clause-one c =
    let h = here c.args.module.now c.args.net (Mux c.in-Mux.s c.in-Mux.a c.in-Mux.b) c.requires.module c.requires.net_is c.in-Mux.ensures in
    lane_width c.args.module.now.lines c.args.nets.now c.in-Mux.s 1 c.requires.nets h.sound.test.width _ c.index-nets-s.is

pub mux-requires-clause-same : goal.mux-requires-clause-same
mux-requires-clause-same c =
    let h = here c.args.module.now c.args.net (Mux c.in-Mux.s c.in-Mux.a c.in-Mux.b) c.requires.module c.requires.net_is c.in-Mux.ensures in
    lane_same_width c.args.module.now.lines c.args.nets.now c.in-Mux.a c.in-Mux.b h.width c.requires.nets h.sound.branches.left.width h.sound.branches.right.width _ _ c.index-nets-a-in-Mux.is c.index-nets-b-in-Mux.is

pub returns-in-Mux : goal.returns-in-Mux
returns-in-Mux c j lt =
    let h = here c.args.module.now c.args.net (Mux c.in-Mux.s c.in-Mux.a c.in-Mux.b) c.requires.module c.requires.net_is c.in-Mux.ensures in
    given c.args.module.now (cells_at c.args.cells.now j).words (lane_words j c.args.nets.now) c.args.net (Mux c.in-Mux.s c.in-Mux.a c.in-Mux.b) h _ (mux_of (word (1) (bits_at (lane_words j c.args.nets.now) c.in-Mux.s)) (word (h.width) (bits_at (lane_words j c.args.nets.now) c.in-Mux.a)) (word (h.width) (bits_at (lane_words j c.args.nets.now) c.in-Mux.b))) refl
    (of_three mux_of _ _ _ _ _ _ _ (lane_operand j lt c.args.module.now.lines c.args.nets.now c.in-Mux.s (1) c.requires.nets h.sound.test.width _ c.index-nets-s.is) (lane_operand j lt c.args.module.now.lines c.args.nets.now c.in-Mux.a (h.width) c.requires.nets h.sound.branches.left.width _ c.index-nets-a-in-Mux.is) (lane_operand j lt c.args.module.now.lines c.args.nets.now c.in-Mux.b (h.width) c.requires.nets h.sound.branches.right.width _ c.index-nets-b-in-Mux.is) (c.mux.ensures j lt))
    (chosen_width (bits_at (lane_words j c.args.nets.now) c.in-Mux.s == 0) h.width (bits_at (lane_words j c.args.nets.now) c.in-Mux.a) (bits_at (lane_words j c.args.nets.now) c.in-Mux.b))
    (chosen_bits (bits_at (lane_words j c.args.nets.now) c.in-Mux.s == 0) h.width (bits_at (lane_words j c.args.nets.now) c.in-Mux.a) (bits_at (lane_words j c.args.nets.now) c.in-Mux.b))

pub bounds-nets-a-in-Slice : goal.bounds-nets-a-in-Slice
bounds-nets-a-in-Slice c =
    let h = here c.args.module.now c.args.net (Slice c.in-Slice.a c.in-Slice.high c.in-Slice.low) c.requires.module c.requires.net_is c.in-Slice.ensures in
    within_lanes c.args.module.now.lines c.args.nets.now c.in-Slice.a (h.sound.width) c.requires.nets h.sound.operand.width

pub slice-requires-clause-order : goal.slice-requires-clause-order
slice-requires-clause-order c =
    let h = here c.args.module.now c.args.net (Slice c.in-Slice.a c.in-Slice.high c.in-Slice.low) c.requires.module c.requires.net_is c.in-Slice.ensures in
    h.sound.order

pub slice-requires-clause-inside : goal.slice-requires-clause-inside
slice-requires-clause-inside c =
    let h = here c.args.module.now c.args.net (Slice c.in-Slice.a c.in-Slice.high c.in-Slice.low) c.requires.module c.requires.net_is c.in-Slice.ensures in
    let width = lane_width c.args.module.now.lines c.args.nets.now c.in-Slice.a h.sound.width c.requires.nets h.sound.operand.width _ c.index-nets-a-in-Slice.is in
    let inside = h.sound.inside in
    omega (arith, width, inside)

pub returns-in-Slice : goal.returns-in-Slice
returns-in-Slice c j lt =
    let h = here c.args.module.now c.args.net (Slice c.in-Slice.a c.in-Slice.high c.in-Slice.low) c.requires.module c.requires.net_is c.in-Slice.ensures in
    given c.args.module.now (cells_at c.args.cells.now j).words (lane_words j c.args.nets.now) c.args.net (Slice c.in-Slice.a c.in-Slice.high c.in-Slice.low) h _ (slice_of (word (h.sound.width) (bits_at (lane_words j c.args.nets.now) c.in-Slice.a)) c.in-Slice.high c.in-Slice.low) refl
    (of_one (λ (x : Word). slice_of x c.in-Slice.high c.in-Slice.low) _ _ _ (lane_operand j lt c.args.module.now.lines c.args.nets.now c.in-Slice.a (h.sound.width) c.requires.nets h.sound.operand.width _ c.index-nets-a-in-Slice.is) (c.slice.ensures j lt)) (sym h.sound.bits) refl

pub returns-in-Constant : goal.returns-in-Constant
returns-in-Constant c j lt =
    let h = here c.args.module.now c.args.net (Constant c.in-Constant.value) c.requires.module c.requires.net_is c.in-Constant.ensures in
    given c.args.module.now (cells_at c.args.cells.now j).words (lane_words j c.args.nets.now) c.args.net (Constant c.in-Constant.value) h (value_at c.splat.result j) c.in-Constant.value refl (c.splat.ensures j lt) h.sound.width refl

pub bounds-nets-net : goal.bounds-nets-net
bounds-nets-net c = omega (arith, (c.requires.nets 0 first).count, lane_count 0 c.args.nets.now, c.requires.net_is)

pub returns-in-Input : goal.returns-in-Input
returns-in-Input c j lt =
    let h = here c.args.module.now c.args.net (Input c.in-Input.port) c.requires.module c.requires.net_is c.in-Input.ensures in
    given_state c.args.module.now (cells_at c.args.cells.now j).words (lane_words j c.args.nets.now) c.args.net (Input c.in-Input.port) (c.requires.nets j lt) h (value_at c.index-nets-net.result j) (lane_read j c.args.nets.now c.args.net _ c.index-nets-net.is) (λ i. absurd (false≢true (sym i)))

pub bounds-nets-net-in-Reg : goal.bounds-nets-net-in-Reg
bounds-nets-net-in-Reg c = omega (arith, (c.requires.nets 0 first).count, lane_count 0 c.args.nets.now, c.requires.net_is)

pub returns-in-Reg : goal.returns-in-Reg
returns-in-Reg c j lt =
    let h = here c.args.module.now c.args.net (Reg c.in-Reg.reset c.in-Reg.next) c.requires.module c.requires.net_is c.in-Reg.ensures in
    given_state c.args.module.now (cells_at c.args.cells.now j).words (lane_words j c.args.nets.now) c.args.net (Reg c.in-Reg.reset c.in-Reg.next) (c.requires.nets j lt) h (value_at c.index-nets-net-in-Reg.result j) (lane_read j c.args.nets.now c.args.net _ c.index-nets-net-in-Reg.is) (λ i. tt)

pub bounds-nets-address : goal.bounds-nets-address
bounds-nets-address c =
    let h = here c.args.module.now c.args.net (Read c.in-Read.memory c.in-Read.address) c.requires.module c.requires.net_is c.in-Read.ensures in
    within_lanes c.args.module.now.lines c.args.nets.now c.in-Read.address h.sound.memory.address_bits c.requires.nets h.sound.address.width

pub words_at-requires-clause-memory_is : goal.words_at-requires-clause-memory_is
words_at-requires-clause-memory_is c =
    let h = here c.args.module.now c.args.net (Read c.in-Read.memory c.in-Read.address) c.requires.module c.requires.net_is c.in-Read.ensures in
    (h.sound.memory, h.sound.is, lane_width c.args.module.now.lines c.args.nets.now c.in-Read.address h.sound.memory.address_bits c.requires.nets h.sound.address.width _ c.index-nets-address.is)

pub returns-in-Read : goal.returns-in-Read
returns-in-Read c j lt =
    let h = here c.args.module.now c.args.net (Read c.in-Read.memory c.in-Read.address) c.requires.module c.requires.net_is c.in-Read.ensures in
    let address = lane_operand j lt c.args.module.now.lines c.args.nets.now c.in-Read.address h.sound.memory.address_bits c.requires.nets h.sound.address.width _ c.index-nets-address.is in
    given_read c.args.module.now (cells_at c.args.cells.now j).words (lane_words j c.args.nets.now) c.args.net c.in-Read.memory c.in-Read.address (c.requires.nets j lt) (c.requires.cells.each j lt).words h (value_at c.words_at.result j) _
    (ap (λ (x : Word). place_of c.args.module.now.memories c.in-Read.memory + x.bits) address)
    (sym (get_or_from_slice_get (cells_at c.args.cells.now j).words _ (value_at c.words_at.result j) (value_at c.words_at.result j) (c.words_at.ensures j lt)))

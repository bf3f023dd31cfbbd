use Rattle.std.proofs.Common.{◌≡◌, ◌+◌, ◌-◌, refl, sym, ap, ◌∙◌, arith}
use Rattle.std.proofs.lemmas.Bool.{false≢true}
use Rattle.std.specs.Prelude.{◌==◌, option_map}
use Rattle.av_base.specs.Word.{Word, word, and_of, or_of, xor_of, add_of, sub_of, eq_of, less_of, concat_of, not_of, any_of, slice_of, mux_of}
use Rattle.netlist.specs.declared.line.Equation.TheVariants.{Input, Constant, And, Or, Xor, Add, Sub, Eq, Less, Concat, Not, Any, Mux, Slice, Reg, Read}
use Rattle.cycle_sim.specs.Sims.{bits_at, place_of}
use Rattle.cycle_sim.proofs.Lines.{here, within, operand, operand_width, same_width, given, of_one, of_two, of_three, chosen_width, chosen_bits, given_state}
use Rattle.cycle_sim.proofs.Access.{operand_fits, address_is, address_small, place_is, in_places, in_words, sum_small, given_read}
use Rattle.cycle_sim.proofs.nets.value_in.Goals as goal

pub bounds-nets-a : goal.bounds-nets-a
bounds-nets-a c =
    let h = here c.args.module.now c.args.net (And c.in-And.a c.in-And.b) c.requires.module c.requires.net_is c.in-And.ensures in
    within c.args.module.now.lines c.args.nets.now c.in-And.a (h.width) c.requires.nets h.sound.left.width

pub bounds-nets-b : goal.bounds-nets-b
bounds-nets-b c =
    let h = here c.args.module.now c.args.net (And c.in-And.a c.in-And.b) c.requires.module c.requires.net_is c.in-And.ensures in
    within c.args.module.now.lines c.args.nets.now c.in-And.b (h.width) c.requires.nets h.sound.right.width

pub and-requires : goal.and-requires
and-requires c =
    let h = here c.args.module.now c.args.net (And c.in-And.a c.in-And.b) c.requires.module c.requires.net_is c.in-And.ensures in
    same_width c.args.module.now.lines c.args.nets.now c.in-And.a c.in-And.b (h.width) c.requires.nets h.sound.left.width h.sound.right.width _ _ c.index-nets-a.is c.index-nets-b.is

pub returns-in-And : goal.returns-in-And
returns-in-And c =
    let h = here c.args.module.now c.args.net (And c.in-And.a c.in-And.b) c.requires.module c.requires.net_is c.in-And.ensures in
    given c.args.module.now c.args.cells.now.words.items c.args.nets.now c.args.net (And c.in-And.a c.in-And.b) h _ (and_of (word (h.width) (bits_at c.args.nets.now c.in-And.a)) (word (h.width) (bits_at c.args.nets.now c.in-And.b))) refl
    (of_two and_of _ _ _ _ _ (operand c.args.module.now.lines c.args.nets.now c.in-And.a (h.width) c.requires.nets h.sound.left.width _ c.index-nets-a.is) (operand c.args.module.now.lines c.args.nets.now c.in-And.b (h.width) c.requires.nets h.sound.right.width _ c.index-nets-b.is) c.and.ensures) refl refl

pub bounds-nets-a-in-Or : goal.bounds-nets-a-in-Or
bounds-nets-a-in-Or c =
    let h = here c.args.module.now c.args.net (Or c.in-Or.a c.in-Or.b) c.requires.module c.requires.net_is c.in-Or.ensures in
    within c.args.module.now.lines c.args.nets.now c.in-Or.a (h.width) c.requires.nets h.sound.left.width

pub bounds-nets-b-in-Or : goal.bounds-nets-b-in-Or
bounds-nets-b-in-Or c =
    let h = here c.args.module.now c.args.net (Or c.in-Or.a c.in-Or.b) c.requires.module c.requires.net_is c.in-Or.ensures in
    within c.args.module.now.lines c.args.nets.now c.in-Or.b (h.width) c.requires.nets h.sound.right.width

pub or-requires : goal.or-requires
or-requires c =
    let h = here c.args.module.now c.args.net (Or c.in-Or.a c.in-Or.b) c.requires.module c.requires.net_is c.in-Or.ensures in
    same_width c.args.module.now.lines c.args.nets.now c.in-Or.a c.in-Or.b (h.width) c.requires.nets h.sound.left.width h.sound.right.width _ _ c.index-nets-a-in-Or.is c.index-nets-b-in-Or.is

pub returns-in-Or : goal.returns-in-Or
returns-in-Or c =
    let h = here c.args.module.now c.args.net (Or c.in-Or.a c.in-Or.b) c.requires.module c.requires.net_is c.in-Or.ensures in
    given c.args.module.now c.args.cells.now.words.items c.args.nets.now c.args.net (Or c.in-Or.a c.in-Or.b) h _ (or_of (word (h.width) (bits_at c.args.nets.now c.in-Or.a)) (word (h.width) (bits_at c.args.nets.now c.in-Or.b))) refl
    (of_two or_of _ _ _ _ _ (operand c.args.module.now.lines c.args.nets.now c.in-Or.a (h.width) c.requires.nets h.sound.left.width _ c.index-nets-a-in-Or.is) (operand c.args.module.now.lines c.args.nets.now c.in-Or.b (h.width) c.requires.nets h.sound.right.width _ c.index-nets-b-in-Or.is) c.or.ensures) refl refl

pub bounds-nets-a-in-Xor : goal.bounds-nets-a-in-Xor
bounds-nets-a-in-Xor c =
    let h = here c.args.module.now c.args.net (Xor c.in-Xor.a c.in-Xor.b) c.requires.module c.requires.net_is c.in-Xor.ensures in
    within c.args.module.now.lines c.args.nets.now c.in-Xor.a (h.width) c.requires.nets h.sound.left.width

pub bounds-nets-b-in-Xor : goal.bounds-nets-b-in-Xor
bounds-nets-b-in-Xor c =
    let h = here c.args.module.now c.args.net (Xor c.in-Xor.a c.in-Xor.b) c.requires.module c.requires.net_is c.in-Xor.ensures in
    within c.args.module.now.lines c.args.nets.now c.in-Xor.b (h.width) c.requires.nets h.sound.right.width

pub xor-requires : goal.xor-requires
xor-requires c =
    let h = here c.args.module.now c.args.net (Xor c.in-Xor.a c.in-Xor.b) c.requires.module c.requires.net_is c.in-Xor.ensures in
    same_width c.args.module.now.lines c.args.nets.now c.in-Xor.a c.in-Xor.b (h.width) c.requires.nets h.sound.left.width h.sound.right.width _ _ c.index-nets-a-in-Xor.is c.index-nets-b-in-Xor.is

pub returns-in-Xor : goal.returns-in-Xor
returns-in-Xor c =
    let h = here c.args.module.now c.args.net (Xor c.in-Xor.a c.in-Xor.b) c.requires.module c.requires.net_is c.in-Xor.ensures in
    given c.args.module.now c.args.cells.now.words.items c.args.nets.now c.args.net (Xor c.in-Xor.a c.in-Xor.b) h _ (xor_of (word (h.width) (bits_at c.args.nets.now c.in-Xor.a)) (word (h.width) (bits_at c.args.nets.now c.in-Xor.b))) refl
    (of_two xor_of _ _ _ _ _ (operand c.args.module.now.lines c.args.nets.now c.in-Xor.a (h.width) c.requires.nets h.sound.left.width _ c.index-nets-a-in-Xor.is) (operand c.args.module.now.lines c.args.nets.now c.in-Xor.b (h.width) c.requires.nets h.sound.right.width _ c.index-nets-b-in-Xor.is) c.xor.ensures) refl refl

pub bounds-nets-a-in-Add : goal.bounds-nets-a-in-Add
bounds-nets-a-in-Add c =
    let h = here c.args.module.now c.args.net (Add c.in-Add.a c.in-Add.b) c.requires.module c.requires.net_is c.in-Add.ensures in
    within c.args.module.now.lines c.args.nets.now c.in-Add.a (h.width) c.requires.nets h.sound.left.width

pub bounds-nets-b-in-Add : goal.bounds-nets-b-in-Add
bounds-nets-b-in-Add c =
    let h = here c.args.module.now c.args.net (Add c.in-Add.a c.in-Add.b) c.requires.module c.requires.net_is c.in-Add.ensures in
    within c.args.module.now.lines c.args.nets.now c.in-Add.b (h.width) c.requires.nets h.sound.right.width

pub add-requires : goal.add-requires
add-requires c =
    let h = here c.args.module.now c.args.net (Add c.in-Add.a c.in-Add.b) c.requires.module c.requires.net_is c.in-Add.ensures in
    same_width c.args.module.now.lines c.args.nets.now c.in-Add.a c.in-Add.b (h.width) c.requires.nets h.sound.left.width h.sound.right.width _ _ c.index-nets-a-in-Add.is c.index-nets-b-in-Add.is

pub returns-in-Add : goal.returns-in-Add
returns-in-Add c =
    let h = here c.args.module.now c.args.net (Add c.in-Add.a c.in-Add.b) c.requires.module c.requires.net_is c.in-Add.ensures in
    given c.args.module.now c.args.cells.now.words.items c.args.nets.now c.args.net (Add c.in-Add.a c.in-Add.b) h _ (add_of (word (h.width) (bits_at c.args.nets.now c.in-Add.a)) (word (h.width) (bits_at c.args.nets.now c.in-Add.b))) refl
    (of_two add_of _ _ _ _ _ (operand c.args.module.now.lines c.args.nets.now c.in-Add.a (h.width) c.requires.nets h.sound.left.width _ c.index-nets-a-in-Add.is) (operand c.args.module.now.lines c.args.nets.now c.in-Add.b (h.width) c.requires.nets h.sound.right.width _ c.index-nets-b-in-Add.is) c.add.ensures) refl refl

pub bounds-nets-a-in-Sub : goal.bounds-nets-a-in-Sub
bounds-nets-a-in-Sub c =
    let h = here c.args.module.now c.args.net (Sub c.in-Sub.a c.in-Sub.b) c.requires.module c.requires.net_is c.in-Sub.ensures in
    within c.args.module.now.lines c.args.nets.now c.in-Sub.a (h.width) c.requires.nets h.sound.left.width

pub bounds-nets-b-in-Sub : goal.bounds-nets-b-in-Sub
bounds-nets-b-in-Sub c =
    let h = here c.args.module.now c.args.net (Sub c.in-Sub.a c.in-Sub.b) c.requires.module c.requires.net_is c.in-Sub.ensures in
    within c.args.module.now.lines c.args.nets.now c.in-Sub.b (h.width) c.requires.nets h.sound.right.width

pub sub-requires : goal.sub-requires
sub-requires c =
    let h = here c.args.module.now c.args.net (Sub c.in-Sub.a c.in-Sub.b) c.requires.module c.requires.net_is c.in-Sub.ensures in
    same_width c.args.module.now.lines c.args.nets.now c.in-Sub.a c.in-Sub.b (h.width) c.requires.nets h.sound.left.width h.sound.right.width _ _ c.index-nets-a-in-Sub.is c.index-nets-b-in-Sub.is

pub returns-in-Sub : goal.returns-in-Sub
returns-in-Sub c =
    let h = here c.args.module.now c.args.net (Sub c.in-Sub.a c.in-Sub.b) c.requires.module c.requires.net_is c.in-Sub.ensures in
    given c.args.module.now c.args.cells.now.words.items c.args.nets.now c.args.net (Sub c.in-Sub.a c.in-Sub.b) h _ (sub_of (word (h.width) (bits_at c.args.nets.now c.in-Sub.a)) (word (h.width) (bits_at c.args.nets.now c.in-Sub.b))) refl
    (of_two sub_of _ _ _ _ _ (operand c.args.module.now.lines c.args.nets.now c.in-Sub.a (h.width) c.requires.nets h.sound.left.width _ c.index-nets-a-in-Sub.is) (operand c.args.module.now.lines c.args.nets.now c.in-Sub.b (h.width) c.requires.nets h.sound.right.width _ c.index-nets-b-in-Sub.is) c.sub.ensures) refl refl

pub bounds-nets-a-in-Eq : goal.bounds-nets-a-in-Eq
bounds-nets-a-in-Eq c =
    let h = here c.args.module.now c.args.net (Eq c.in-Eq.a c.in-Eq.b) c.requires.module c.requires.net_is c.in-Eq.ensures in
    within c.args.module.now.lines c.args.nets.now c.in-Eq.a (h.sound.width) c.requires.nets h.sound.operands.left.width

pub bounds-nets-b-in-Eq : goal.bounds-nets-b-in-Eq
bounds-nets-b-in-Eq c =
    let h = here c.args.module.now c.args.net (Eq c.in-Eq.a c.in-Eq.b) c.requires.module c.requires.net_is c.in-Eq.ensures in
    within c.args.module.now.lines c.args.nets.now c.in-Eq.b (h.sound.width) c.requires.nets h.sound.operands.right.width

pub eq-requires : goal.eq-requires
eq-requires c =
    let h = here c.args.module.now c.args.net (Eq c.in-Eq.a c.in-Eq.b) c.requires.module c.requires.net_is c.in-Eq.ensures in
    same_width c.args.module.now.lines c.args.nets.now c.in-Eq.a c.in-Eq.b (h.sound.width) c.requires.nets h.sound.operands.left.width h.sound.operands.right.width _ _ c.index-nets-a-in-Eq.is c.index-nets-b-in-Eq.is

pub returns-in-Eq : goal.returns-in-Eq
returns-in-Eq c =
    let h = here c.args.module.now c.args.net (Eq c.in-Eq.a c.in-Eq.b) c.requires.module c.requires.net_is c.in-Eq.ensures in
    given c.args.module.now c.args.cells.now.words.items c.args.nets.now c.args.net (Eq c.in-Eq.a c.in-Eq.b) h _ (eq_of (word (h.sound.width) (bits_at c.args.nets.now c.in-Eq.a)) (word (h.sound.width) (bits_at c.args.nets.now c.in-Eq.b))) refl
    (of_two eq_of _ _ _ _ _ (operand c.args.module.now.lines c.args.nets.now c.in-Eq.a (h.sound.width) c.requires.nets h.sound.operands.left.width _ c.index-nets-a-in-Eq.is) (operand c.args.module.now.lines c.args.nets.now c.in-Eq.b (h.sound.width) c.requires.nets h.sound.operands.right.width _ c.index-nets-b-in-Eq.is) c.eq.ensures) (sym h.sound.one_bit) refl

pub bounds-nets-a-in-Less : goal.bounds-nets-a-in-Less
bounds-nets-a-in-Less c =
    let h = here c.args.module.now c.args.net (Less c.in-Less.a c.in-Less.b) c.requires.module c.requires.net_is c.in-Less.ensures in
    within c.args.module.now.lines c.args.nets.now c.in-Less.a (h.sound.width) c.requires.nets h.sound.operands.left.width

pub bounds-nets-b-in-Less : goal.bounds-nets-b-in-Less
bounds-nets-b-in-Less c =
    let h = here c.args.module.now c.args.net (Less c.in-Less.a c.in-Less.b) c.requires.module c.requires.net_is c.in-Less.ensures in
    within c.args.module.now.lines c.args.nets.now c.in-Less.b (h.sound.width) c.requires.nets h.sound.operands.right.width

pub less-requires : goal.less-requires
less-requires c =
    let h = here c.args.module.now c.args.net (Less c.in-Less.a c.in-Less.b) c.requires.module c.requires.net_is c.in-Less.ensures in
    same_width c.args.module.now.lines c.args.nets.now c.in-Less.a c.in-Less.b (h.sound.width) c.requires.nets h.sound.operands.left.width h.sound.operands.right.width _ _ c.index-nets-a-in-Less.is c.index-nets-b-in-Less.is

pub returns-in-Less : goal.returns-in-Less
returns-in-Less c =
    let h = here c.args.module.now c.args.net (Less c.in-Less.a c.in-Less.b) c.requires.module c.requires.net_is c.in-Less.ensures in
    given c.args.module.now c.args.cells.now.words.items c.args.nets.now c.args.net (Less c.in-Less.a c.in-Less.b) h _ (less_of (word (h.sound.width) (bits_at c.args.nets.now c.in-Less.a)) (word (h.sound.width) (bits_at c.args.nets.now c.in-Less.b))) refl
    (of_two less_of _ _ _ _ _ (operand c.args.module.now.lines c.args.nets.now c.in-Less.a (h.sound.width) c.requires.nets h.sound.operands.left.width _ c.index-nets-a-in-Less.is) (operand c.args.module.now.lines c.args.nets.now c.in-Less.b (h.sound.width) c.requires.nets h.sound.operands.right.width _ c.index-nets-b-in-Less.is) c.less.ensures) (sym h.sound.one_bit) refl

pub bounds-nets-a-in-Concat : goal.bounds-nets-a-in-Concat
bounds-nets-a-in-Concat c =
    let h = here c.args.module.now c.args.net (Concat c.in-Concat.a c.in-Concat.b) c.requires.module c.requires.net_is c.in-Concat.ensures in
    within c.args.module.now.lines c.args.nets.now c.in-Concat.a (h.sound.high_width) c.requires.nets h.sound.high.width

pub bounds-nets-b-in-Concat : goal.bounds-nets-b-in-Concat
bounds-nets-b-in-Concat c =
    let h = here c.args.module.now c.args.net (Concat c.in-Concat.a c.in-Concat.b) c.requires.module c.requires.net_is c.in-Concat.ensures in
    within c.args.module.now.lines c.args.nets.now c.in-Concat.b (h.sound.low_width) c.requires.nets h.sound.low.width

pub concat-requires : goal.concat-requires
concat-requires c =
    let h = here c.args.module.now c.args.net (Concat c.in-Concat.a c.in-Concat.b) c.requires.module c.requires.net_is c.in-Concat.ensures in
    let high = operand_width c.args.module.now.lines c.args.nets.now c.in-Concat.a (h.sound.high_width) c.requires.nets h.sound.high.width _ c.index-nets-a-in-Concat.is in
    let low = operand_width c.args.module.now.lines c.args.nets.now c.in-Concat.b (h.sound.low_width) c.requires.nets h.sound.low.width _ c.index-nets-b-in-Concat.is in
    let sum = h.sound.sum in
    let small = h.small in
    omega (arith, high, low, sum, small)

pub returns-in-Concat : goal.returns-in-Concat
returns-in-Concat c =
    let h = here c.args.module.now c.args.net (Concat c.in-Concat.a c.in-Concat.b) c.requires.module c.requires.net_is c.in-Concat.ensures in
    given c.args.module.now c.args.cells.now.words.items c.args.nets.now c.args.net (Concat c.in-Concat.a c.in-Concat.b) h _ (concat_of (word (h.sound.high_width) (bits_at c.args.nets.now c.in-Concat.a)) (word (h.sound.low_width) (bits_at c.args.nets.now c.in-Concat.b))) refl
    (of_two concat_of _ _ _ _ _ (operand c.args.module.now.lines c.args.nets.now c.in-Concat.a (h.sound.high_width) c.requires.nets h.sound.high.width _ c.index-nets-a-in-Concat.is) (operand c.args.module.now.lines c.args.nets.now c.in-Concat.b (h.sound.low_width) c.requires.nets h.sound.low.width _ c.index-nets-b-in-Concat.is) c.concat.ensures) (sym h.sound.sum)
    (ap (option_map (λ k. (concat_of (word (h.width - k) (bits_at c.args.nets.now c.in-Concat.a)) (word k (bits_at c.args.nets.now c.in-Concat.b))).bits)) h.sound.low.width)

pub bounds-nets-a-in-Not : goal.bounds-nets-a-in-Not
bounds-nets-a-in-Not c =
    let h = here c.args.module.now c.args.net (Not c.in-Not.a) c.requires.module c.requires.net_is c.in-Not.ensures in
    within c.args.module.now.lines c.args.nets.now c.in-Not.a (h.width) c.requires.nets h.sound.width

pub returns-in-Not : goal.returns-in-Not
returns-in-Not c =
    let h = here c.args.module.now c.args.net (Not c.in-Not.a) c.requires.module c.requires.net_is c.in-Not.ensures in
    given c.args.module.now c.args.cells.now.words.items c.args.nets.now c.args.net (Not c.in-Not.a) h _ (not_of (word (h.width) (bits_at c.args.nets.now c.in-Not.a))) refl
    (of_one not_of _ _ _ (operand c.args.module.now.lines c.args.nets.now c.in-Not.a (h.width) c.requires.nets h.sound.width _ c.index-nets-a-in-Not.is) c.not.ensures) refl refl

pub bounds-nets-a-in-Any : goal.bounds-nets-a-in-Any
bounds-nets-a-in-Any c =
    let h = here c.args.module.now c.args.net (Any c.in-Any.a) c.requires.module c.requires.net_is c.in-Any.ensures in
    within c.args.module.now.lines c.args.nets.now c.in-Any.a (h.sound.width) c.requires.nets h.sound.operand.width

pub returns-in-Any : goal.returns-in-Any
returns-in-Any c =
    let h = here c.args.module.now c.args.net (Any c.in-Any.a) c.requires.module c.requires.net_is c.in-Any.ensures in
    given c.args.module.now c.args.cells.now.words.items c.args.nets.now c.args.net (Any c.in-Any.a) h _ (any_of (word (h.sound.width) (bits_at c.args.nets.now c.in-Any.a))) refl
    (of_one any_of _ _ _ (operand c.args.module.now.lines c.args.nets.now c.in-Any.a (h.sound.width) c.requires.nets h.sound.operand.width _ c.index-nets-a-in-Any.is) c.any.ensures) (sym h.sound.one_bit) refl

pub bounds-nets-s : goal.bounds-nets-s
bounds-nets-s c =
    let h = here c.args.module.now c.args.net (Mux c.in-Mux.s c.in-Mux.a c.in-Mux.b) c.requires.module c.requires.net_is c.in-Mux.ensures in
    within c.args.module.now.lines c.args.nets.now c.in-Mux.s (1) c.requires.nets h.sound.test.width

pub bounds-nets-a-in-Mux : goal.bounds-nets-a-in-Mux
bounds-nets-a-in-Mux c =
    let h = here c.args.module.now c.args.net (Mux c.in-Mux.s c.in-Mux.a c.in-Mux.b) c.requires.module c.requires.net_is c.in-Mux.ensures in
    within c.args.module.now.lines c.args.nets.now c.in-Mux.a (h.width) c.requires.nets h.sound.branches.left.width

pub bounds-nets-b-in-Mux : goal.bounds-nets-b-in-Mux
bounds-nets-b-in-Mux c =
    let h = here c.args.module.now c.args.net (Mux c.in-Mux.s c.in-Mux.a c.in-Mux.b) c.requires.module c.requires.net_is c.in-Mux.ensures in
    within c.args.module.now.lines c.args.nets.now c.in-Mux.b (h.width) c.requires.nets h.sound.branches.right.width

pub mux-requires-clause-one : goal.mux-requires-clause-one
mux-requires-clause-one c =
    let h = here c.args.module.now c.args.net (Mux c.in-Mux.s c.in-Mux.a c.in-Mux.b) c.requires.module c.requires.net_is c.in-Mux.ensures in
    operand_width c.args.module.now.lines c.args.nets.now c.in-Mux.s 1 c.requires.nets h.sound.test.width _ c.index-nets-s.is

pub mux-requires-clause-same : goal.mux-requires-clause-same
mux-requires-clause-same c =
    let h = here c.args.module.now c.args.net (Mux c.in-Mux.s c.in-Mux.a c.in-Mux.b) c.requires.module c.requires.net_is c.in-Mux.ensures in
    same_width c.args.module.now.lines c.args.nets.now c.in-Mux.a c.in-Mux.b h.width c.requires.nets h.sound.branches.left.width h.sound.branches.right.width _ _ c.index-nets-a-in-Mux.is c.index-nets-b-in-Mux.is

pub returns-in-Mux : goal.returns-in-Mux
returns-in-Mux c =
    let h = here c.args.module.now c.args.net (Mux c.in-Mux.s c.in-Mux.a c.in-Mux.b) c.requires.module c.requires.net_is c.in-Mux.ensures in
    given c.args.module.now c.args.cells.now.words.items c.args.nets.now c.args.net (Mux c.in-Mux.s c.in-Mux.a c.in-Mux.b) h _ (mux_of (word (1) (bits_at c.args.nets.now c.in-Mux.s)) (word (h.width) (bits_at c.args.nets.now c.in-Mux.a)) (word (h.width) (bits_at c.args.nets.now c.in-Mux.b))) refl
    (of_three mux_of _ _ _ _ _ _ _ (operand c.args.module.now.lines c.args.nets.now c.in-Mux.s (1) c.requires.nets h.sound.test.width _ c.index-nets-s.is) (operand c.args.module.now.lines c.args.nets.now c.in-Mux.a (h.width) c.requires.nets h.sound.branches.left.width _ c.index-nets-a-in-Mux.is) (operand c.args.module.now.lines c.args.nets.now c.in-Mux.b (h.width) c.requires.nets h.sound.branches.right.width _ c.index-nets-b-in-Mux.is) c.mux.ensures)
    (chosen_width (bits_at c.args.nets.now c.in-Mux.s == 0) h.width (bits_at c.args.nets.now c.in-Mux.a) (bits_at c.args.nets.now c.in-Mux.b))
    (chosen_bits (bits_at c.args.nets.now c.in-Mux.s == 0) h.width (bits_at c.args.nets.now c.in-Mux.a) (bits_at c.args.nets.now c.in-Mux.b))

pub bounds-nets-a-in-Slice : goal.bounds-nets-a-in-Slice
bounds-nets-a-in-Slice c =
    let h = here c.args.module.now c.args.net (Slice c.in-Slice.a c.in-Slice.high c.in-Slice.low) c.requires.module c.requires.net_is c.in-Slice.ensures in
    within c.args.module.now.lines c.args.nets.now c.in-Slice.a (h.sound.width) c.requires.nets h.sound.operand.width

pub slice-requires-clause-order : goal.slice-requires-clause-order
slice-requires-clause-order c =
    let h = here c.args.module.now c.args.net (Slice c.in-Slice.a c.in-Slice.high c.in-Slice.low) c.requires.module c.requires.net_is c.in-Slice.ensures in
    h.sound.order

pub slice-requires-clause-inside : goal.slice-requires-clause-inside
slice-requires-clause-inside c =
    let h = here c.args.module.now c.args.net (Slice c.in-Slice.a c.in-Slice.high c.in-Slice.low) c.requires.module c.requires.net_is c.in-Slice.ensures in
    let width = operand_width c.args.module.now.lines c.args.nets.now c.in-Slice.a h.sound.width c.requires.nets h.sound.operand.width _ c.index-nets-a-in-Slice.is in
    let inside = h.sound.inside in
    omega (arith, width, inside)

pub returns-in-Slice : goal.returns-in-Slice
returns-in-Slice c =
    let h = here c.args.module.now c.args.net (Slice c.in-Slice.a c.in-Slice.high c.in-Slice.low) c.requires.module c.requires.net_is c.in-Slice.ensures in
    given c.args.module.now c.args.cells.now.words.items c.args.nets.now c.args.net (Slice c.in-Slice.a c.in-Slice.high c.in-Slice.low) h _ (slice_of (word (h.sound.width) (bits_at c.args.nets.now c.in-Slice.a)) c.in-Slice.high c.in-Slice.low) refl
    (of_one (λ (x : Word). slice_of x c.in-Slice.high c.in-Slice.low) _ _ _ (operand c.args.module.now.lines c.args.nets.now c.in-Slice.a (h.sound.width) c.requires.nets h.sound.operand.width _ c.index-nets-a-in-Slice.is) c.slice.ensures) (sym h.sound.bits) refl

pub returns-in-Constant : goal.returns-in-Constant
returns-in-Constant c =
    let h = here c.args.module.now c.args.net (Constant c.in-Constant.value) c.requires.module c.requires.net_is c.in-Constant.ensures in
    given c.args.module.now c.args.cells.now.words.items c.args.nets.now c.args.net (Constant c.in-Constant.value) h _ c.in-Constant.value refl refl h.sound.width refl

pub bounds-nets-net : goal.bounds-nets-net
bounds-nets-net c = omega (arith, c.requires.nets.count, c.requires.net_is)

pub returns-in-Input : goal.returns-in-Input
returns-in-Input c =
    let h = here c.args.module.now c.args.net (Input c.in-Input.port) c.requires.module c.requires.net_is c.in-Input.ensures in
    given_state c.args.module.now c.args.cells.now.words.items c.args.nets.now c.args.net (Input c.in-Input.port) c.requires.nets h _ c.index-nets-net.is (λ i. absurd (false≢true (sym i)))

pub bounds-nets-net-in-Reg : goal.bounds-nets-net-in-Reg
bounds-nets-net-in-Reg c = omega (arith, c.requires.nets.count, c.requires.net_is)

pub returns-in-Reg : goal.returns-in-Reg
returns-in-Reg c =
    let h = here c.args.module.now c.args.net (Reg c.in-Reg.reset c.in-Reg.next) c.requires.module c.requires.net_is c.in-Reg.ensures in
    given_state c.args.module.now c.args.cells.now.words.items c.args.nets.now c.args.net (Reg c.in-Reg.reset c.in-Reg.next) c.requires.nets h _ c.index-nets-net-in-Reg.is (λ i. tt)

pub bounds-nets-address : goal.bounds-nets-address
bounds-nets-address c =
    let h = here c.args.module.now c.args.net (Read c.in-Read.memory c.in-Read.address) c.requires.module c.requires.net_is c.in-Read.ensures in
    within c.args.module.now.lines c.args.nets.now c.in-Read.address h.sound.memory.address_bits c.requires.nets h.sound.address.width

pub overflow_cast-address-in-Read : goal.overflow_cast-address-in-Read
overflow_cast-address-in-Read c =
    let h = here c.args.module.now c.args.net (Read c.in-Read.memory c.in-Read.address) c.requires.module c.requires.net_is c.in-Read.ensures in
    let small = address_small c.args.module.now c.requires.module c.in-Read.memory h.sound.memory h.sound.is (bits_at c.args.nets.now c.in-Read.address) (operand_fits c.args.module.now.lines c.args.nets.now c.in-Read.address h.sound.memory.address_bits c.requires.nets h.sound.address.width) in
    let is : c.bits-address.result ≡ bits_at c.args.nets.now c.in-Read.address = address_is c.args.module.now.lines c.args.nets.now c.in-Read.address h.sound.memory.address_bits c.requires.nets h.sound.address.width _ c.index-nets-address.is _ c.bits-address.ensures.value in
    omega (arith, small, is)

pub index-requires : goal.index-requires
index-requires c =
    let h = here c.args.module.now c.args.net (Read c.in-Read.memory c.in-Read.address) c.requires.module c.requires.net_is c.in-Read.ensures in
    omega (arith, c.args.cells.now.places.ok.0, in_places c.args.module.now.memories c.args.cells.now.places.items c.in-Read.memory h.sound.memory c.requires.places h.sound.is)

pub overflow_add-index : goal.overflow_add-index
overflow_add-index c =
    let h = here c.args.module.now c.args.net (Read c.in-Read.memory c.in-Read.address) c.requires.module c.requires.net_is c.in-Read.ensures in
    let small = sum_small c.args.module.now c.requires.module c.in-Read.memory h.sound.memory h.sound.is (bits_at c.args.nets.now c.in-Read.address) (operand_fits c.args.module.now.lines c.args.nets.now c.in-Read.address h.sound.memory.address_bits c.requires.nets h.sound.address.width) _ _ (place_is c.args.module.now.memories c.args.cells.now.places.items c.in-Read.memory h.sound.memory c.requires.places h.sound.is _ c.index.ensures) (address_is c.args.module.now.lines c.args.nets.now c.in-Read.address h.sound.memory.address_bits c.requires.nets h.sound.address.width _ c.index-nets-address.is _ c.bits-address.ensures.value) in
    omega (arith, small)

pub index-requires-in-Read : goal.index-requires-in-Read
index-requires-in-Read c =
    let h = here c.args.module.now c.args.net (Read c.in-Read.memory c.in-Read.address) c.requires.module c.requires.net_is c.in-Read.ensures in
    omega (
      arith,
      c.args.cells.now.words.ok.0,
      in_words c.args.module.now.memories c.args.cells.now.words.items c.in-Read.memory h.sound.memory (bits_at c.args.nets.now c.in-Read.address) c.requires.words h.sound.is (operand_fits c.args.module.now.lines c.args.nets.now c.in-Read.address h.sound.memory.address_bits c.requires.nets h.sound.address.width) (c.index.result.now + c.bits-address.result)
          (ap (λ k. k + c.bits-address.result) (place_is c.args.module.now.memories c.args.cells.now.places.items c.in-Read.memory h.sound.memory c.requires.places h.sound.is _ c.index.ensures) ∙ ap (λ k. place_of c.args.module.now.memories c.in-Read.memory + k) (address_is c.args.module.now.lines c.args.nets.now c.in-Read.address h.sound.memory.address_bits c.requires.nets h.sound.address.width _ c.index-nets-address.is _ c.bits-address.ensures.value)),
    )

pub returns-in-Read : goal.returns-in-Read
returns-in-Read c =
    let h = here c.args.module.now c.args.net (Read c.in-Read.memory c.in-Read.address) c.requires.module c.requires.net_is c.in-Read.ensures in
    given_read c.args.module.now c.args.cells.now.words.items c.args.nets.now c.args.net c.in-Read.memory c.in-Read.address c.requires.nets c.requires.words h _ _
    (ap (λ k. k + c.bits-address.result) (place_is c.args.module.now.memories c.args.cells.now.places.items c.in-Read.memory h.sound.memory c.requires.places h.sound.is _ c.index.ensures) ∙ ap (λ k. place_of c.args.module.now.memories c.in-Read.memory + k) (address_is c.args.module.now.lines c.args.nets.now c.in-Read.address h.sound.memory.address_bits c.requires.nets h.sound.address.width _ c.index-nets-address.is _ c.bits-address.ensures.value)) c.index-in-Read.ensures

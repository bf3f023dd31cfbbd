use Rattle.std.proofs.Common.{◌<◌, length, get_or, refl, arith}
use Rattle.std.proofs.lemmas.Option.{slice_get-get_or}
use Rattle.netlist.specs.declared.line.Equation.TheVariants.{Input, Constant, And, Or, Xor, Add, Sub, Eq, Less, Concat, Not, Any, Mux, Slice, Reg, Read}
use Rattle.narrowed_netlists.proofs.Allowing.{is_of, allow_all, allow_constant, allow_and, allow_or, allow_xor, allow_add, allow_eq, allow_less, allow_any, allow_concat, allow_mux, allow_slice, allow_read, allow_register, concat_within, concat_short, slice_short, read_within, gap_small}
use Rattle.narrowed_netlists.proofs.masks.given_bits.Goals as goal

pub width-requires : goal.width-requires
width-requires c = concat_within c.args.module.now c.args.net c.in-Concat.a c.in-Concat.b c.requires.module c.requires.net_is (is_of c.args.module.now c.args.net c.args.equation (Concat c.in-Concat.a c.in-Concat.b) c.requires.equation_is c.in-Concat.is)

pub overflow_shl-result : goal.overflow_shl-result
overflow_shl-result c = concat_short c.args.module.now c.args.net c.in-Concat.a c.in-Concat.b c.width.result c.requires.module c.requires.net_is (is_of c.args.module.now c.args.net c.args.equation (Concat c.in-Concat.a c.in-Concat.b) c.requires.equation_is c.in-Concat.is) c.width.ensures

pub overflow_shr-result : goal.overflow_shr-result
overflow_shr-result c = slice_short c.args.module.now c.args.net c.in-Slice.a c.in-Slice.high c.in-Slice.low c.requires.module c.requires.net_is (is_of c.args.module.now c.args.net c.args.equation (Slice c.in-Slice.a c.in-Slice.high c.in-Slice.low) c.requires.equation_is c.in-Slice.is)

pub bounds-gaps-memory : goal.bounds-gaps-memory
bounds-gaps-memory c =
    let within = read_within c.args.module.now c.args.net c.in-Read.memory c.in-Read.address c.requires.module c.requires.net_is (is_of c.args.module.now c.args.net c.args.equation (Read c.in-Read.memory c.in-Read.address) c.requires.equation_is c.in-Read.is) in
    let count = c.requires.count in
    omega (arith, within, count)

pub outside-requires : goal.outside-requires
outside-requires c = gap_small c.args.module.now c.args.gaps.now c.in-Read.memory (record { low = 0; zeros = 0 }) c.requires.module c.requires.gaps_fit (read_within c.args.module.now c.args.net c.in-Read.memory c.in-Read.address c.requires.module c.requires.net_is (is_of c.args.module.now c.args.net c.args.equation (Read c.in-Read.memory c.in-Read.address) c.requires.equation_is c.in-Read.is))

pub returns-in-Input : goal.returns-in-Input
returns-in-Input c line at = allow_all c.args.module.now c.args.masks.now c.args.gaps.now c.args.net (Input c.in-Input.port) c.requires.module (is_of c.args.module.now c.args.net c.args.equation (Input c.in-Input.port) c.requires.equation_is c.in-Input.is) refl line at

pub returns-in-Constant : goal.returns-in-Constant
returns-in-Constant c line at = rw c.bits.ensures.value (allow_constant c.args.module.now c.args.masks.now c.args.gaps.now c.args.net c.in-Constant.value c.requires.module (is_of c.args.module.now c.args.net c.args.equation (Constant c.in-Constant.value) c.requires.equation_is c.in-Constant.is) line at)

pub returns-in-And : goal.returns-in-And
returns-in-And c line at = rw (c.mask_at.ensures, c.mask_at-in-And.ensures) (allow_and c.args.module.now c.args.masks.now c.args.gaps.now c.args.net c.in-And.a c.in-And.b c.requires.module (is_of c.args.module.now c.args.net c.args.equation (And c.in-And.a c.in-And.b) c.requires.equation_is c.in-And.is) line at)

pub returns-in-Or : goal.returns-in-Or
returns-in-Or c line at = rw (c.mask_at-in-Or.ensures, c.mask_at-in-Or-2.ensures) (allow_or c.args.module.now c.args.masks.now c.args.gaps.now c.args.net c.in-Or.a c.in-Or.b c.requires.module (is_of c.args.module.now c.args.net c.args.equation (Or c.in-Or.a c.in-Or.b) c.requires.equation_is c.in-Or.is) line at)

pub returns-in-Xor : goal.returns-in-Xor
returns-in-Xor c line at = rw (c.mask_at-in-Xor.ensures, c.mask_at-in-Xor-2.ensures) (allow_xor c.args.module.now c.args.masks.now c.args.gaps.now c.args.net c.in-Xor.a c.in-Xor.b c.requires.module (is_of c.args.module.now c.args.net c.args.equation (Xor c.in-Xor.a c.in-Xor.b) c.requires.equation_is c.in-Xor.is) line at)

pub returns-in-Add : goal.returns-in-Add
returns-in-Add c line at = allow_add c.args.module.now c.args.masks.now c.args.gaps.now c.args.net c.in-Add.a c.in-Add.b c.from_lowest.result c.requires.module (is_of c.args.module.now c.args.net c.args.equation (Add c.in-Add.a c.in-Add.b) c.requires.equation_is c.in-Add.is)
    (rw (c.mask_at-in-Add.ensures, c.mask_at-in-Add-2.ensures) at c.from_lowest.ensures) line at

pub returns-in-Sub : goal.returns-in-Sub
returns-in-Sub c line at = allow_all c.args.module.now c.args.masks.now c.args.gaps.now c.args.net (Sub c.in-Sub.a c.in-Sub.b) c.requires.module (is_of c.args.module.now c.args.net c.args.equation (Sub c.in-Sub.a c.in-Sub.b) c.requires.equation_is c.in-Sub.is) refl line at

pub returns-in-Not : goal.returns-in-Not
returns-in-Not c line at = allow_all c.args.module.now c.args.masks.now c.args.gaps.now c.args.net (Not c.in-Not.a) c.requires.module (is_of c.args.module.now c.args.net c.args.equation (Not c.in-Not.a) c.requires.equation_is c.in-Not.is) refl line at

pub returns-in-Eq : goal.returns-in-Eq
returns-in-Eq c line at = allow_eq c.args.module.now c.args.masks.now c.args.gaps.now c.args.net c.in-Eq.a c.in-Eq.b c.requires.module (is_of c.args.module.now c.args.net c.args.equation (Eq c.in-Eq.a c.in-Eq.b) c.requires.equation_is c.in-Eq.is) line at

pub returns-in-Less : goal.returns-in-Less
returns-in-Less c line at = allow_less c.args.module.now c.args.masks.now c.args.gaps.now c.args.net c.in-Less.a c.in-Less.b c.requires.module (is_of c.args.module.now c.args.net c.args.equation (Less c.in-Less.a c.in-Less.b) c.requires.equation_is c.in-Less.is) line at

pub returns-in-Any : goal.returns-in-Any
returns-in-Any c line at = allow_any c.args.module.now c.args.masks.now c.args.gaps.now c.args.net c.in-Any.a c.requires.module (is_of c.args.module.now c.args.net c.args.equation (Any c.in-Any.a) c.requires.equation_is c.in-Any.is) line at

pub returns-in-Concat : goal.returns-in-Concat
returns-in-Concat c line at = rw (c.mask_at-in-Concat.ensures, c.mask_at-in-Concat-2.ensures) (allow_concat c.args.module.now c.args.masks.now c.args.gaps.now c.args.net c.in-Concat.a c.in-Concat.b c.width.result c.requires.module (is_of c.args.module.now c.args.net c.args.equation (Concat c.in-Concat.a c.in-Concat.b) c.requires.equation_is c.in-Concat.is) c.width.ensures line at)

pub returns-in-Mux : goal.returns-in-Mux
returns-in-Mux c line at = rw (c.mask_at-in-Mux.ensures, c.mask_at-in-Mux-2.ensures) (allow_mux c.args.module.now c.args.masks.now c.args.gaps.now c.args.net c.in-Mux.s c.in-Mux.a c.in-Mux.b c.requires.module (is_of c.args.module.now c.args.net c.args.equation (Mux c.in-Mux.s c.in-Mux.a c.in-Mux.b) c.requires.equation_is c.in-Mux.is) line at)

pub returns-in-Slice : goal.returns-in-Slice
returns-in-Slice c line at = rw c.mask_at-in-Slice.ensures (allow_slice c.args.module.now c.args.masks.now c.args.gaps.now c.args.net c.in-Slice.a c.in-Slice.high c.in-Slice.low c.requires.module (is_of c.args.module.now c.args.net c.args.equation (Slice c.in-Slice.a c.in-Slice.high c.in-Slice.low) c.requires.equation_is c.in-Slice.is) line at)

pub returns-in-Reg : goal.returns-in-Reg
returns-in-Reg c line at = rw (c.bits-in-Reg.ensures.value, c.mask_at-in-Reg.ensures) (allow_register c.args.module.now c.args.masks.now c.args.gaps.now c.args.net c.in-Reg.reset c.in-Reg.next (is_of c.args.module.now c.args.net c.args.equation (Reg c.in-Reg.reset c.in-Reg.next) c.requires.equation_is c.in-Reg.is) line at)

pub returns-in-Read : goal.returns-in-Read
returns-in-Read c line at =
    let within = read_within c.args.module.now c.args.net c.in-Read.memory c.in-Read.address c.requires.module c.requires.net_is (is_of c.args.module.now c.args.net c.args.equation (Read c.in-Read.memory c.in-Read.address) c.requires.equation_is c.in-Read.is) in
    let count = c.requires.count in
    let inside : c.in-Read.memory < length c.args.gaps.now = omega (arith, within, count) in
    allow_read c.args.module.now c.args.masks.now c.args.gaps.now c.args.net c.in-Read.memory c.in-Read.address c.outside.result (get_or c.args.gaps.now c.in-Read.memory (record { low = 0; zeros = 0 })) c.requires.module (is_of c.args.module.now c.args.net c.args.equation (Read c.in-Read.memory c.in-Read.address) c.requires.equation_is c.in-Read.is)
    (slice_get-get_or c.args.gaps.now c.in-Read.memory (record { low = 0; zeros = 0 }) inside) c.outside.ensures.below c.outside.ensures.above line at

use Rattle.std.proofs.Common.{◌≡◌, ℕ, List, ◌+◌, ◌-◌, ◌*◌, ◌/◌, ◌%◌, ◌^◌, ◌<◌, slice_get, Some, refl, sym, ap, subst, ◌∙◌, arith, bit_and, bit_or}
use Rattle.std.specs.Prelude.{◌==◌, IfSome, bit_xor, nat_lt, if◌then◌else◌}
use Rattle.av_base.specs.declared.value.Val.{Val}
use Rattle.netlist.specs.declared.line.Line.{Line}
use Rattle.netlist.specs.declared.line.Equation.TheVariants.{Input, Constant, And, Or, Xor, Add, Sub, Eq, Less, Concat, Not, Any, Mux, Slice, Read}
use Rattle.netlist.specs.declared.line.PortLine.{PortLine}
use Rattle.netlist.specs.declared.line.Equation.{Equation}
use Rattle.netlist.specs.Nets.{NetValue, MemValue}
use Rattle.netlist.specs.Netlists.{IsInputPort, input_net, is_register}
use Rattle.netlist.specs.Runs.{value_of}
use Rattle.net_parts.specs.Laws.{alike_none}
use Rattle.narrowed_netlists.specs.Copies.{IsOperatorCopy}
use Rattle.narrowed_netlists.proofs.Allowing.{is_of, small_line, sound_as}
use Rattle.narrowed_netlists.proofs.Lists.{slice_get-some}
use Rattle.narrowed_netlists.proofs.Making.{operator_made, operand_within, operand_net, operands_alike, read_made, under_ok}
use Rattle.narrowed_netlists.proofs.Reading.{fits_memory, gap_within, item_at, mem_is, mem_within, narrow_mem}
use Rattle.narrowed_netlists.proofs.copies.copied_net.Goals as goal

pub net_at-requires : goal.net_at-requires
net_at-requires c =
    let some = slice_get-some c.args.module.now.lines c.args.net c.requires.net_is in
    let s = sound_as c.args.module.now c.args.net some.0 (And c.in-And.a c.in-And.b) c.requires.module some.1 ((is_of c.args.module.now c.args.net c.args.equation (And c.in-And.a c.in-And.b) c.requires.equation_is c.in-And.is) some.0 some.1) in
    operand_within c.args.module.now c.args.builder.now c.args.nets.now c.args.net c.in-And.a some.0.width c.requires.nets s.left

pub net_at-requires-in-And : goal.net_at-requires-in-And
net_at-requires-in-And c =
    let some = slice_get-some c.args.module.now.lines c.args.net c.requires.net_is in
    let s = sound_as c.args.module.now c.args.net some.0 (And c.in-And.a c.in-And.b) c.requires.module some.1 ((is_of c.args.module.now c.args.net c.args.equation (And c.in-And.a c.in-And.b) c.requires.equation_is c.in-And.is) some.0 some.1) in
    operand_within c.args.module.now c.args.builder.now c.args.nets.now c.args.net c.in-And.b some.0.width c.requires.nets s.right

pub and-requires-clause-a_is : goal.and-requires-clause-a_is
and-requires-clause-a_is c =
    let some = slice_get-some c.args.module.now.lines c.args.net c.requires.net_is in
    let s = sound_as c.args.module.now c.args.net some.0 (And c.in-And.a c.in-And.b) c.requires.module some.1 ((is_of c.args.module.now c.args.net c.args.equation (And c.in-And.a c.in-And.b) c.requires.equation_is c.in-And.is) some.0 some.1) in
    (operand_net c.args.module.now c.args.builder.now c.args.nets.now c.args.net c.in-And.a some.0.width c.net_at.result c.requires.nets s.left c.net_at.ensures).is_net

pub and-requires-clause-b_is : goal.and-requires-clause-b_is
and-requires-clause-b_is c =
    let some = slice_get-some c.args.module.now.lines c.args.net c.requires.net_is in
    let s = sound_as c.args.module.now c.args.net some.0 (And c.in-And.a c.in-And.b) c.requires.module some.1 ((is_of c.args.module.now c.args.net c.args.equation (And c.in-And.a c.in-And.b) c.requires.equation_is c.in-And.is) some.0 some.1) in
    (operand_net c.args.module.now c.args.builder.now c.args.nets.now c.args.net c.in-And.b some.0.width c.net_at-in-And.result c.requires.nets s.right c.net_at-in-And.ensures).is_net

pub and-requires-clause-widths : goal.and-requires-clause-widths
and-requires-clause-widths c =
    let some = slice_get-some c.args.module.now.lines c.args.net c.requires.net_is in
    let s = sound_as c.args.module.now c.args.net some.0 (And c.in-And.a c.in-And.b) c.requires.module some.1 ((is_of c.args.module.now c.args.net c.args.equation (And c.in-And.a c.in-And.b) c.requires.equation_is c.in-And.is) some.0 some.1) in
    operands_alike c.args.module.now c.args.builder.now c.args.nets.now c.args.net c.in-And.a c.in-And.b some.0.width c.net_at.result c.net_at-in-And.result c.requires.nets s c.net_at.ensures c.net_at-in-And.ensures

pub returns-in-And : goal.returns-in-And
returns-in-And c =
    under_ok (λ (line : Line). slice_get c.args.module.now.lines c.args.net ≡ Some line) (λ (line : Line) (net : NetValue). IsOperatorCopy c.args.module.now c.args.builder.now c.and.new.self c.args.gaps.now c.args.nets.now c.args.net line net) c.and.result
    (λ line at. (let s = sound_as c.args.module.now c.args.net line (And c.in-And.a c.in-And.b) c.requires.module at ((is_of c.args.module.now c.args.net c.args.equation (And c.in-And.a c.in-And.b) c.requires.equation_is c.in-And.is) line at) in
    operator_made c.args.module.now c.args.builder.now c.and.new.self c.args.gaps.now c.args.nets.now c.args.net line (And c.in-And.a c.in-And.b) _ c.and.result _ _ c.and.ensures ((is_of c.args.module.now c.args.net c.args.equation (And c.in-And.a c.in-And.b) c.requires.equation_is c.in-And.is) line at) refl (λ port e. cc) (λ value e. cc) ((operand_net c.args.module.now c.args.builder.now c.args.nets.now c.args.net c.in-And.a line.width c.net_at.result c.requires.nets s.left c.net_at.ensures).has_width)
    (λ cycle seen v shows. (let one = shows.net c.in-And.a c.net_at.result c.net_at.ensures in let other = shows.net c.in-And.b c.net_at-in-And.result c.net_at-in-And.ensures in ap (λ x. bit_and (x) (cycle.net c.net_at-in-And.result.number)) (sym one) ∙ ap (λ y. bit_and (seen.net c.in-And.a) (y)) (sym other)))))

pub net_at-requires-in-Or : goal.net_at-requires-in-Or
net_at-requires-in-Or c =
    let some = slice_get-some c.args.module.now.lines c.args.net c.requires.net_is in
    let s = sound_as c.args.module.now c.args.net some.0 (Or c.in-Or.a c.in-Or.b) c.requires.module some.1 ((is_of c.args.module.now c.args.net c.args.equation (Or c.in-Or.a c.in-Or.b) c.requires.equation_is c.in-Or.is) some.0 some.1) in
    operand_within c.args.module.now c.args.builder.now c.args.nets.now c.args.net c.in-Or.a some.0.width c.requires.nets s.left

pub net_at-requires-in-Or-2 : goal.net_at-requires-in-Or-2
net_at-requires-in-Or-2 c =
    let some = slice_get-some c.args.module.now.lines c.args.net c.requires.net_is in
    let s = sound_as c.args.module.now c.args.net some.0 (Or c.in-Or.a c.in-Or.b) c.requires.module some.1 ((is_of c.args.module.now c.args.net c.args.equation (Or c.in-Or.a c.in-Or.b) c.requires.equation_is c.in-Or.is) some.0 some.1) in
    operand_within c.args.module.now c.args.builder.now c.args.nets.now c.args.net c.in-Or.b some.0.width c.requires.nets s.right

pub or-requires-clause-a_is : goal.or-requires-clause-a_is
or-requires-clause-a_is c =
    let some = slice_get-some c.args.module.now.lines c.args.net c.requires.net_is in
    let s = sound_as c.args.module.now c.args.net some.0 (Or c.in-Or.a c.in-Or.b) c.requires.module some.1 ((is_of c.args.module.now c.args.net c.args.equation (Or c.in-Or.a c.in-Or.b) c.requires.equation_is c.in-Or.is) some.0 some.1) in
    (operand_net c.args.module.now c.args.builder.now c.args.nets.now c.args.net c.in-Or.a some.0.width c.net_at-in-Or.result c.requires.nets s.left c.net_at-in-Or.ensures).is_net

pub or-requires-clause-b_is : goal.or-requires-clause-b_is
or-requires-clause-b_is c =
    let some = slice_get-some c.args.module.now.lines c.args.net c.requires.net_is in
    let s = sound_as c.args.module.now c.args.net some.0 (Or c.in-Or.a c.in-Or.b) c.requires.module some.1 ((is_of c.args.module.now c.args.net c.args.equation (Or c.in-Or.a c.in-Or.b) c.requires.equation_is c.in-Or.is) some.0 some.1) in
    (operand_net c.args.module.now c.args.builder.now c.args.nets.now c.args.net c.in-Or.b some.0.width c.net_at-in-Or-2.result c.requires.nets s.right c.net_at-in-Or-2.ensures).is_net

pub or-requires-clause-widths : goal.or-requires-clause-widths
or-requires-clause-widths c =
    let some = slice_get-some c.args.module.now.lines c.args.net c.requires.net_is in
    let s = sound_as c.args.module.now c.args.net some.0 (Or c.in-Or.a c.in-Or.b) c.requires.module some.1 ((is_of c.args.module.now c.args.net c.args.equation (Or c.in-Or.a c.in-Or.b) c.requires.equation_is c.in-Or.is) some.0 some.1) in
    operands_alike c.args.module.now c.args.builder.now c.args.nets.now c.args.net c.in-Or.a c.in-Or.b some.0.width c.net_at-in-Or.result c.net_at-in-Or-2.result c.requires.nets s c.net_at-in-Or.ensures c.net_at-in-Or-2.ensures

pub returns-in-Or : goal.returns-in-Or
returns-in-Or c =
    under_ok (λ (line : Line). slice_get c.args.module.now.lines c.args.net ≡ Some line) (λ (line : Line) (net : NetValue). IsOperatorCopy c.args.module.now c.args.builder.now c.or.new.self c.args.gaps.now c.args.nets.now c.args.net line net) c.or.result
    (λ line at. (let s = sound_as c.args.module.now c.args.net line (Or c.in-Or.a c.in-Or.b) c.requires.module at ((is_of c.args.module.now c.args.net c.args.equation (Or c.in-Or.a c.in-Or.b) c.requires.equation_is c.in-Or.is) line at) in
    operator_made c.args.module.now c.args.builder.now c.or.new.self c.args.gaps.now c.args.nets.now c.args.net line (Or c.in-Or.a c.in-Or.b) _ c.or.result _ _ c.or.ensures ((is_of c.args.module.now c.args.net c.args.equation (Or c.in-Or.a c.in-Or.b) c.requires.equation_is c.in-Or.is) line at) refl (λ port e. cc) (λ value e. cc) ((operand_net c.args.module.now c.args.builder.now c.args.nets.now c.args.net c.in-Or.a line.width c.net_at-in-Or.result c.requires.nets s.left c.net_at-in-Or.ensures).has_width)
    (λ cycle seen v shows. (let one = shows.net c.in-Or.a c.net_at-in-Or.result c.net_at-in-Or.ensures in let other = shows.net c.in-Or.b c.net_at-in-Or-2.result c.net_at-in-Or-2.ensures in ap (λ x. bit_or (x) (cycle.net c.net_at-in-Or-2.result.number)) (sym one) ∙ ap (λ y. bit_or (seen.net c.in-Or.a) (y)) (sym other)))))

pub net_at-requires-in-Xor : goal.net_at-requires-in-Xor
net_at-requires-in-Xor c =
    let some = slice_get-some c.args.module.now.lines c.args.net c.requires.net_is in
    let s = sound_as c.args.module.now c.args.net some.0 (Xor c.in-Xor.a c.in-Xor.b) c.requires.module some.1 ((is_of c.args.module.now c.args.net c.args.equation (Xor c.in-Xor.a c.in-Xor.b) c.requires.equation_is c.in-Xor.is) some.0 some.1) in
    operand_within c.args.module.now c.args.builder.now c.args.nets.now c.args.net c.in-Xor.a some.0.width c.requires.nets s.left

pub net_at-requires-in-Xor-2 : goal.net_at-requires-in-Xor-2
net_at-requires-in-Xor-2 c =
    let some = slice_get-some c.args.module.now.lines c.args.net c.requires.net_is in
    let s = sound_as c.args.module.now c.args.net some.0 (Xor c.in-Xor.a c.in-Xor.b) c.requires.module some.1 ((is_of c.args.module.now c.args.net c.args.equation (Xor c.in-Xor.a c.in-Xor.b) c.requires.equation_is c.in-Xor.is) some.0 some.1) in
    operand_within c.args.module.now c.args.builder.now c.args.nets.now c.args.net c.in-Xor.b some.0.width c.requires.nets s.right

pub xor-requires-clause-a_is : goal.xor-requires-clause-a_is
xor-requires-clause-a_is c =
    let some = slice_get-some c.args.module.now.lines c.args.net c.requires.net_is in
    let s = sound_as c.args.module.now c.args.net some.0 (Xor c.in-Xor.a c.in-Xor.b) c.requires.module some.1 ((is_of c.args.module.now c.args.net c.args.equation (Xor c.in-Xor.a c.in-Xor.b) c.requires.equation_is c.in-Xor.is) some.0 some.1) in
    (operand_net c.args.module.now c.args.builder.now c.args.nets.now c.args.net c.in-Xor.a some.0.width c.net_at-in-Xor.result c.requires.nets s.left c.net_at-in-Xor.ensures).is_net

pub xor-requires-clause-b_is : goal.xor-requires-clause-b_is
xor-requires-clause-b_is c =
    let some = slice_get-some c.args.module.now.lines c.args.net c.requires.net_is in
    let s = sound_as c.args.module.now c.args.net some.0 (Xor c.in-Xor.a c.in-Xor.b) c.requires.module some.1 ((is_of c.args.module.now c.args.net c.args.equation (Xor c.in-Xor.a c.in-Xor.b) c.requires.equation_is c.in-Xor.is) some.0 some.1) in
    (operand_net c.args.module.now c.args.builder.now c.args.nets.now c.args.net c.in-Xor.b some.0.width c.net_at-in-Xor-2.result c.requires.nets s.right c.net_at-in-Xor-2.ensures).is_net

pub xor-requires-clause-widths : goal.xor-requires-clause-widths
xor-requires-clause-widths c =
    let some = slice_get-some c.args.module.now.lines c.args.net c.requires.net_is in
    let s = sound_as c.args.module.now c.args.net some.0 (Xor c.in-Xor.a c.in-Xor.b) c.requires.module some.1 ((is_of c.args.module.now c.args.net c.args.equation (Xor c.in-Xor.a c.in-Xor.b) c.requires.equation_is c.in-Xor.is) some.0 some.1) in
    operands_alike c.args.module.now c.args.builder.now c.args.nets.now c.args.net c.in-Xor.a c.in-Xor.b some.0.width c.net_at-in-Xor.result c.net_at-in-Xor-2.result c.requires.nets s c.net_at-in-Xor.ensures c.net_at-in-Xor-2.ensures

pub returns-in-Xor : goal.returns-in-Xor
returns-in-Xor c =
    under_ok (λ (line : Line). slice_get c.args.module.now.lines c.args.net ≡ Some line) (λ (line : Line) (net : NetValue). IsOperatorCopy c.args.module.now c.args.builder.now c.xor.new.self c.args.gaps.now c.args.nets.now c.args.net line net) c.xor.result
    (λ line at. (let s = sound_as c.args.module.now c.args.net line (Xor c.in-Xor.a c.in-Xor.b) c.requires.module at ((is_of c.args.module.now c.args.net c.args.equation (Xor c.in-Xor.a c.in-Xor.b) c.requires.equation_is c.in-Xor.is) line at) in
    operator_made c.args.module.now c.args.builder.now c.xor.new.self c.args.gaps.now c.args.nets.now c.args.net line (Xor c.in-Xor.a c.in-Xor.b) _ c.xor.result _ _ c.xor.ensures ((is_of c.args.module.now c.args.net c.args.equation (Xor c.in-Xor.a c.in-Xor.b) c.requires.equation_is c.in-Xor.is) line at) refl (λ port e. cc) (λ value e. cc) ((operand_net c.args.module.now c.args.builder.now c.args.nets.now c.args.net c.in-Xor.a line.width c.net_at-in-Xor.result c.requires.nets s.left c.net_at-in-Xor.ensures).has_width)
    (λ cycle seen v shows. (let one = shows.net c.in-Xor.a c.net_at-in-Xor.result c.net_at-in-Xor.ensures in let other = shows.net c.in-Xor.b c.net_at-in-Xor-2.result c.net_at-in-Xor-2.ensures in ap (λ x. bit_xor (x) (cycle.net c.net_at-in-Xor-2.result.number)) (sym one) ∙ ap (λ y. bit_xor (seen.net c.in-Xor.a) (y)) (sym other)))))

pub net_at-requires-in-Add : goal.net_at-requires-in-Add
net_at-requires-in-Add c =
    let some = slice_get-some c.args.module.now.lines c.args.net c.requires.net_is in
    let s = sound_as c.args.module.now c.args.net some.0 (Add c.in-Add.a c.in-Add.b) c.requires.module some.1 ((is_of c.args.module.now c.args.net c.args.equation (Add c.in-Add.a c.in-Add.b) c.requires.equation_is c.in-Add.is) some.0 some.1) in
    operand_within c.args.module.now c.args.builder.now c.args.nets.now c.args.net c.in-Add.a some.0.width c.requires.nets s.left

pub net_at-requires-in-Add-2 : goal.net_at-requires-in-Add-2
net_at-requires-in-Add-2 c =
    let some = slice_get-some c.args.module.now.lines c.args.net c.requires.net_is in
    let s = sound_as c.args.module.now c.args.net some.0 (Add c.in-Add.a c.in-Add.b) c.requires.module some.1 ((is_of c.args.module.now c.args.net c.args.equation (Add c.in-Add.a c.in-Add.b) c.requires.equation_is c.in-Add.is) some.0 some.1) in
    operand_within c.args.module.now c.args.builder.now c.args.nets.now c.args.net c.in-Add.b some.0.width c.requires.nets s.right

pub add-requires-clause-a_is : goal.add-requires-clause-a_is
add-requires-clause-a_is c =
    let some = slice_get-some c.args.module.now.lines c.args.net c.requires.net_is in
    let s = sound_as c.args.module.now c.args.net some.0 (Add c.in-Add.a c.in-Add.b) c.requires.module some.1 ((is_of c.args.module.now c.args.net c.args.equation (Add c.in-Add.a c.in-Add.b) c.requires.equation_is c.in-Add.is) some.0 some.1) in
    (operand_net c.args.module.now c.args.builder.now c.args.nets.now c.args.net c.in-Add.a some.0.width c.net_at-in-Add.result c.requires.nets s.left c.net_at-in-Add.ensures).is_net

pub add-requires-clause-b_is : goal.add-requires-clause-b_is
add-requires-clause-b_is c =
    let some = slice_get-some c.args.module.now.lines c.args.net c.requires.net_is in
    let s = sound_as c.args.module.now c.args.net some.0 (Add c.in-Add.a c.in-Add.b) c.requires.module some.1 ((is_of c.args.module.now c.args.net c.args.equation (Add c.in-Add.a c.in-Add.b) c.requires.equation_is c.in-Add.is) some.0 some.1) in
    (operand_net c.args.module.now c.args.builder.now c.args.nets.now c.args.net c.in-Add.b some.0.width c.net_at-in-Add-2.result c.requires.nets s.right c.net_at-in-Add-2.ensures).is_net

pub add-requires-clause-widths : goal.add-requires-clause-widths
add-requires-clause-widths c =
    let some = slice_get-some c.args.module.now.lines c.args.net c.requires.net_is in
    let s = sound_as c.args.module.now c.args.net some.0 (Add c.in-Add.a c.in-Add.b) c.requires.module some.1 ((is_of c.args.module.now c.args.net c.args.equation (Add c.in-Add.a c.in-Add.b) c.requires.equation_is c.in-Add.is) some.0 some.1) in
    operands_alike c.args.module.now c.args.builder.now c.args.nets.now c.args.net c.in-Add.a c.in-Add.b some.0.width c.net_at-in-Add.result c.net_at-in-Add-2.result c.requires.nets s c.net_at-in-Add.ensures c.net_at-in-Add-2.ensures

pub returns-in-Add : goal.returns-in-Add
returns-in-Add c =
    under_ok (λ (line : Line). slice_get c.args.module.now.lines c.args.net ≡ Some line) (λ (line : Line) (net : NetValue). IsOperatorCopy c.args.module.now c.args.builder.now c.add.new.self c.args.gaps.now c.args.nets.now c.args.net line net) c.add.result
    (λ line at. (let s = sound_as c.args.module.now c.args.net line (Add c.in-Add.a c.in-Add.b) c.requires.module at ((is_of c.args.module.now c.args.net c.args.equation (Add c.in-Add.a c.in-Add.b) c.requires.equation_is c.in-Add.is) line at) in
    operator_made c.args.module.now c.args.builder.now c.add.new.self c.args.gaps.now c.args.nets.now c.args.net line (Add c.in-Add.a c.in-Add.b) _ c.add.result _ _ c.add.ensures ((is_of c.args.module.now c.args.net c.args.equation (Add c.in-Add.a c.in-Add.b) c.requires.equation_is c.in-Add.is) line at) refl (λ port e. cc) (λ value e. cc) ((operand_net c.args.module.now c.args.builder.now c.args.nets.now c.args.net c.in-Add.a line.width c.net_at-in-Add.result c.requires.nets s.left c.net_at-in-Add.ensures).has_width)
    (λ cycle seen v shows. (let one = shows.net c.in-Add.a c.net_at-in-Add.result c.net_at-in-Add.ensures in let other = shows.net c.in-Add.b c.net_at-in-Add-2.result c.net_at-in-Add-2.ensures in ap (λ w. (cycle.net c.net_at-in-Add.result.number + cycle.net c.net_at-in-Add-2.result.number) % 2 ^ w) (operand_net c.args.module.now c.args.builder.now c.args.nets.now c.args.net c.in-Add.a line.width c.net_at-in-Add.result c.requires.nets s.left c.net_at-in-Add.ensures).has_width ∙ ap (λ x. (x + cycle.net c.net_at-in-Add-2.result.number) % 2 ^ line.width) (sym one) ∙ ap (λ y. (seen.net c.in-Add.a + y) % 2 ^ line.width) (sym other)))))

pub net_at-requires-in-Sub : goal.net_at-requires-in-Sub
net_at-requires-in-Sub c =
    let some = slice_get-some c.args.module.now.lines c.args.net c.requires.net_is in
    let s = sound_as c.args.module.now c.args.net some.0 (Sub c.in-Sub.a c.in-Sub.b) c.requires.module some.1 ((is_of c.args.module.now c.args.net c.args.equation (Sub c.in-Sub.a c.in-Sub.b) c.requires.equation_is c.in-Sub.is) some.0 some.1) in
    operand_within c.args.module.now c.args.builder.now c.args.nets.now c.args.net c.in-Sub.a some.0.width c.requires.nets s.left

pub net_at-requires-in-Sub-2 : goal.net_at-requires-in-Sub-2
net_at-requires-in-Sub-2 c =
    let some = slice_get-some c.args.module.now.lines c.args.net c.requires.net_is in
    let s = sound_as c.args.module.now c.args.net some.0 (Sub c.in-Sub.a c.in-Sub.b) c.requires.module some.1 ((is_of c.args.module.now c.args.net c.args.equation (Sub c.in-Sub.a c.in-Sub.b) c.requires.equation_is c.in-Sub.is) some.0 some.1) in
    operand_within c.args.module.now c.args.builder.now c.args.nets.now c.args.net c.in-Sub.b some.0.width c.requires.nets s.right

pub sub-requires-clause-a_is : goal.sub-requires-clause-a_is
sub-requires-clause-a_is c =
    let some = slice_get-some c.args.module.now.lines c.args.net c.requires.net_is in
    let s = sound_as c.args.module.now c.args.net some.0 (Sub c.in-Sub.a c.in-Sub.b) c.requires.module some.1 ((is_of c.args.module.now c.args.net c.args.equation (Sub c.in-Sub.a c.in-Sub.b) c.requires.equation_is c.in-Sub.is) some.0 some.1) in
    (operand_net c.args.module.now c.args.builder.now c.args.nets.now c.args.net c.in-Sub.a some.0.width c.net_at-in-Sub.result c.requires.nets s.left c.net_at-in-Sub.ensures).is_net

pub sub-requires-clause-b_is : goal.sub-requires-clause-b_is
sub-requires-clause-b_is c =
    let some = slice_get-some c.args.module.now.lines c.args.net c.requires.net_is in
    let s = sound_as c.args.module.now c.args.net some.0 (Sub c.in-Sub.a c.in-Sub.b) c.requires.module some.1 ((is_of c.args.module.now c.args.net c.args.equation (Sub c.in-Sub.a c.in-Sub.b) c.requires.equation_is c.in-Sub.is) some.0 some.1) in
    (operand_net c.args.module.now c.args.builder.now c.args.nets.now c.args.net c.in-Sub.b some.0.width c.net_at-in-Sub-2.result c.requires.nets s.right c.net_at-in-Sub-2.ensures).is_net

pub sub-requires-clause-widths : goal.sub-requires-clause-widths
sub-requires-clause-widths c =
    let some = slice_get-some c.args.module.now.lines c.args.net c.requires.net_is in
    let s = sound_as c.args.module.now c.args.net some.0 (Sub c.in-Sub.a c.in-Sub.b) c.requires.module some.1 ((is_of c.args.module.now c.args.net c.args.equation (Sub c.in-Sub.a c.in-Sub.b) c.requires.equation_is c.in-Sub.is) some.0 some.1) in
    operands_alike c.args.module.now c.args.builder.now c.args.nets.now c.args.net c.in-Sub.a c.in-Sub.b some.0.width c.net_at-in-Sub.result c.net_at-in-Sub-2.result c.requires.nets s c.net_at-in-Sub.ensures c.net_at-in-Sub-2.ensures

pub returns-in-Sub : goal.returns-in-Sub
returns-in-Sub c =
    under_ok (λ (line : Line). slice_get c.args.module.now.lines c.args.net ≡ Some line) (λ (line : Line) (net : NetValue). IsOperatorCopy c.args.module.now c.args.builder.now c.sub.new.self c.args.gaps.now c.args.nets.now c.args.net line net) c.sub.result
    (λ line at. (let s = sound_as c.args.module.now c.args.net line (Sub c.in-Sub.a c.in-Sub.b) c.requires.module at ((is_of c.args.module.now c.args.net c.args.equation (Sub c.in-Sub.a c.in-Sub.b) c.requires.equation_is c.in-Sub.is) line at) in
    operator_made c.args.module.now c.args.builder.now c.sub.new.self c.args.gaps.now c.args.nets.now c.args.net line (Sub c.in-Sub.a c.in-Sub.b) _ c.sub.result _ _ c.sub.ensures ((is_of c.args.module.now c.args.net c.args.equation (Sub c.in-Sub.a c.in-Sub.b) c.requires.equation_is c.in-Sub.is) line at) refl (λ port e. cc) (λ value e. cc) ((operand_net c.args.module.now c.args.builder.now c.args.nets.now c.args.net c.in-Sub.a line.width c.net_at-in-Sub.result c.requires.nets s.left c.net_at-in-Sub.ensures).has_width)
    (λ cycle seen v shows. (let one = shows.net c.in-Sub.a c.net_at-in-Sub.result c.net_at-in-Sub.ensures in let other = shows.net c.in-Sub.b c.net_at-in-Sub-2.result c.net_at-in-Sub-2.ensures in ap (λ w. (cycle.net c.net_at-in-Sub.result.number + (2 ^ w - cycle.net c.net_at-in-Sub-2.result.number)) % 2 ^ w) (operand_net c.args.module.now c.args.builder.now c.args.nets.now c.args.net c.in-Sub.a line.width c.net_at-in-Sub.result c.requires.nets s.left c.net_at-in-Sub.ensures).has_width ∙ ap (λ x. (x + (2 ^ line.width - cycle.net c.net_at-in-Sub-2.result.number)) % 2 ^ line.width) (sym one) ∙ ap (λ y. (seen.net c.in-Sub.a + (2 ^ line.width - y)) % 2 ^ line.width) (sym other)))))

pub net_at-requires-in-Eq : goal.net_at-requires-in-Eq
net_at-requires-in-Eq c =
    let some = slice_get-some c.args.module.now.lines c.args.net c.requires.net_is in
    let s = sound_as c.args.module.now c.args.net some.0 (Eq c.in-Eq.a c.in-Eq.b) c.requires.module some.1 ((is_of c.args.module.now c.args.net c.args.equation (Eq c.in-Eq.a c.in-Eq.b) c.requires.equation_is c.in-Eq.is) some.0 some.1) in
    operand_within c.args.module.now c.args.builder.now c.args.nets.now c.args.net c.in-Eq.a s.width c.requires.nets s.operands.left

pub net_at-requires-in-Eq-2 : goal.net_at-requires-in-Eq-2
net_at-requires-in-Eq-2 c =
    let some = slice_get-some c.args.module.now.lines c.args.net c.requires.net_is in
    let s = sound_as c.args.module.now c.args.net some.0 (Eq c.in-Eq.a c.in-Eq.b) c.requires.module some.1 ((is_of c.args.module.now c.args.net c.args.equation (Eq c.in-Eq.a c.in-Eq.b) c.requires.equation_is c.in-Eq.is) some.0 some.1) in
    operand_within c.args.module.now c.args.builder.now c.args.nets.now c.args.net c.in-Eq.b s.width c.requires.nets s.operands.right

pub eq-requires-clause-a_is : goal.eq-requires-clause-a_is
eq-requires-clause-a_is c =
    let some = slice_get-some c.args.module.now.lines c.args.net c.requires.net_is in
    let s = sound_as c.args.module.now c.args.net some.0 (Eq c.in-Eq.a c.in-Eq.b) c.requires.module some.1 ((is_of c.args.module.now c.args.net c.args.equation (Eq c.in-Eq.a c.in-Eq.b) c.requires.equation_is c.in-Eq.is) some.0 some.1) in
    (operand_net c.args.module.now c.args.builder.now c.args.nets.now c.args.net c.in-Eq.a s.width c.net_at-in-Eq.result c.requires.nets s.operands.left c.net_at-in-Eq.ensures).is_net

pub eq-requires-clause-b_is : goal.eq-requires-clause-b_is
eq-requires-clause-b_is c =
    let some = slice_get-some c.args.module.now.lines c.args.net c.requires.net_is in
    let s = sound_as c.args.module.now c.args.net some.0 (Eq c.in-Eq.a c.in-Eq.b) c.requires.module some.1 ((is_of c.args.module.now c.args.net c.args.equation (Eq c.in-Eq.a c.in-Eq.b) c.requires.equation_is c.in-Eq.is) some.0 some.1) in
    (operand_net c.args.module.now c.args.builder.now c.args.nets.now c.args.net c.in-Eq.b s.width c.net_at-in-Eq-2.result c.requires.nets s.operands.right c.net_at-in-Eq-2.ensures).is_net

pub eq-requires-clause-widths : goal.eq-requires-clause-widths
eq-requires-clause-widths c =
    let some = slice_get-some c.args.module.now.lines c.args.net c.requires.net_is in
    let s = sound_as c.args.module.now c.args.net some.0 (Eq c.in-Eq.a c.in-Eq.b) c.requires.module some.1 ((is_of c.args.module.now c.args.net c.args.equation (Eq c.in-Eq.a c.in-Eq.b) c.requires.equation_is c.in-Eq.is) some.0 some.1) in
    operands_alike c.args.module.now c.args.builder.now c.args.nets.now c.args.net c.in-Eq.a c.in-Eq.b s.width c.net_at-in-Eq.result c.net_at-in-Eq-2.result c.requires.nets s.operands c.net_at-in-Eq.ensures c.net_at-in-Eq-2.ensures

pub returns-in-Eq : goal.returns-in-Eq
returns-in-Eq c =
    under_ok (λ (line : Line). slice_get c.args.module.now.lines c.args.net ≡ Some line) (λ (line : Line) (net : NetValue). IsOperatorCopy c.args.module.now c.args.builder.now c.eq.new.self c.args.gaps.now c.args.nets.now c.args.net line net) c.eq.result
    (λ line at. (let s = sound_as c.args.module.now c.args.net line (Eq c.in-Eq.a c.in-Eq.b) c.requires.module at ((is_of c.args.module.now c.args.net c.args.equation (Eq c.in-Eq.a c.in-Eq.b) c.requires.equation_is c.in-Eq.is) line at) in
    operator_made c.args.module.now c.args.builder.now c.eq.new.self c.args.gaps.now c.args.nets.now c.args.net line (Eq c.in-Eq.a c.in-Eq.b) _ c.eq.result _ _ c.eq.ensures ((is_of c.args.module.now c.args.net c.args.equation (Eq c.in-Eq.a c.in-Eq.b) c.requires.equation_is c.in-Eq.is) line at) refl (λ port e. cc) (λ value e. cc) (sym s.one_bit)
    (λ cycle seen v shows. (let one = shows.net c.in-Eq.a c.net_at-in-Eq.result c.net_at-in-Eq.ensures in let other = shows.net c.in-Eq.b c.net_at-in-Eq-2.result c.net_at-in-Eq-2.ensures in ap (λ x. if x == cycle.net c.net_at-in-Eq-2.result.number then 1 else 0) (sym one) ∙ ap (λ y. if seen.net c.in-Eq.a == y then 1 else 0) (sym other)))))

pub net_at-requires-in-Less : goal.net_at-requires-in-Less
net_at-requires-in-Less c =
    let some = slice_get-some c.args.module.now.lines c.args.net c.requires.net_is in
    let s = sound_as c.args.module.now c.args.net some.0 (Less c.in-Less.a c.in-Less.b) c.requires.module some.1 ((is_of c.args.module.now c.args.net c.args.equation (Less c.in-Less.a c.in-Less.b) c.requires.equation_is c.in-Less.is) some.0 some.1) in
    operand_within c.args.module.now c.args.builder.now c.args.nets.now c.args.net c.in-Less.a s.width c.requires.nets s.operands.left

pub net_at-requires-in-Less-2 : goal.net_at-requires-in-Less-2
net_at-requires-in-Less-2 c =
    let some = slice_get-some c.args.module.now.lines c.args.net c.requires.net_is in
    let s = sound_as c.args.module.now c.args.net some.0 (Less c.in-Less.a c.in-Less.b) c.requires.module some.1 ((is_of c.args.module.now c.args.net c.args.equation (Less c.in-Less.a c.in-Less.b) c.requires.equation_is c.in-Less.is) some.0 some.1) in
    operand_within c.args.module.now c.args.builder.now c.args.nets.now c.args.net c.in-Less.b s.width c.requires.nets s.operands.right

pub less-requires-clause-a_is : goal.less-requires-clause-a_is
less-requires-clause-a_is c =
    let some = slice_get-some c.args.module.now.lines c.args.net c.requires.net_is in
    let s = sound_as c.args.module.now c.args.net some.0 (Less c.in-Less.a c.in-Less.b) c.requires.module some.1 ((is_of c.args.module.now c.args.net c.args.equation (Less c.in-Less.a c.in-Less.b) c.requires.equation_is c.in-Less.is) some.0 some.1) in
    (operand_net c.args.module.now c.args.builder.now c.args.nets.now c.args.net c.in-Less.a s.width c.net_at-in-Less.result c.requires.nets s.operands.left c.net_at-in-Less.ensures).is_net

pub less-requires-clause-b_is : goal.less-requires-clause-b_is
less-requires-clause-b_is c =
    let some = slice_get-some c.args.module.now.lines c.args.net c.requires.net_is in
    let s = sound_as c.args.module.now c.args.net some.0 (Less c.in-Less.a c.in-Less.b) c.requires.module some.1 ((is_of c.args.module.now c.args.net c.args.equation (Less c.in-Less.a c.in-Less.b) c.requires.equation_is c.in-Less.is) some.0 some.1) in
    (operand_net c.args.module.now c.args.builder.now c.args.nets.now c.args.net c.in-Less.b s.width c.net_at-in-Less-2.result c.requires.nets s.operands.right c.net_at-in-Less-2.ensures).is_net

pub less-requires-clause-widths : goal.less-requires-clause-widths
less-requires-clause-widths c =
    let some = slice_get-some c.args.module.now.lines c.args.net c.requires.net_is in
    let s = sound_as c.args.module.now c.args.net some.0 (Less c.in-Less.a c.in-Less.b) c.requires.module some.1 ((is_of c.args.module.now c.args.net c.args.equation (Less c.in-Less.a c.in-Less.b) c.requires.equation_is c.in-Less.is) some.0 some.1) in
    operands_alike c.args.module.now c.args.builder.now c.args.nets.now c.args.net c.in-Less.a c.in-Less.b s.width c.net_at-in-Less.result c.net_at-in-Less-2.result c.requires.nets s.operands c.net_at-in-Less.ensures c.net_at-in-Less-2.ensures

pub returns-in-Less : goal.returns-in-Less
returns-in-Less c =
    under_ok (λ (line : Line). slice_get c.args.module.now.lines c.args.net ≡ Some line) (λ (line : Line) (net : NetValue). IsOperatorCopy c.args.module.now c.args.builder.now c.less.new.self c.args.gaps.now c.args.nets.now c.args.net line net) c.less.result
    (λ line at. (let s = sound_as c.args.module.now c.args.net line (Less c.in-Less.a c.in-Less.b) c.requires.module at ((is_of c.args.module.now c.args.net c.args.equation (Less c.in-Less.a c.in-Less.b) c.requires.equation_is c.in-Less.is) line at) in
    operator_made c.args.module.now c.args.builder.now c.less.new.self c.args.gaps.now c.args.nets.now c.args.net line (Less c.in-Less.a c.in-Less.b) _ c.less.result _ _ c.less.ensures ((is_of c.args.module.now c.args.net c.args.equation (Less c.in-Less.a c.in-Less.b) c.requires.equation_is c.in-Less.is) line at) refl (λ port e. cc) (λ value e. cc) (sym s.one_bit)
    (λ cycle seen v shows. (let one = shows.net c.in-Less.a c.net_at-in-Less.result c.net_at-in-Less.ensures in let other = shows.net c.in-Less.b c.net_at-in-Less-2.result c.net_at-in-Less-2.ensures in ap (λ x. if nat_lt (x) (cycle.net c.net_at-in-Less-2.result.number) then 1 else 0) (sym one) ∙ ap (λ y. if nat_lt (seen.net c.in-Less.a) (y) then 1 else 0) (sym other)))))

pub net_at-requires-in-Concat : goal.net_at-requires-in-Concat
net_at-requires-in-Concat c =
    let some = slice_get-some c.args.module.now.lines c.args.net c.requires.net_is in
    let s = sound_as c.args.module.now c.args.net some.0 (Concat c.in-Concat.a c.in-Concat.b) c.requires.module some.1 ((is_of c.args.module.now c.args.net c.args.equation (Concat c.in-Concat.a c.in-Concat.b) c.requires.equation_is c.in-Concat.is) some.0 some.1) in
    operand_within c.args.module.now c.args.builder.now c.args.nets.now c.args.net c.in-Concat.a s.high_width c.requires.nets s.high

pub net_at-requires-in-Concat-2 : goal.net_at-requires-in-Concat-2
net_at-requires-in-Concat-2 c =
    let some = slice_get-some c.args.module.now.lines c.args.net c.requires.net_is in
    let s = sound_as c.args.module.now c.args.net some.0 (Concat c.in-Concat.a c.in-Concat.b) c.requires.module some.1 ((is_of c.args.module.now c.args.net c.args.equation (Concat c.in-Concat.a c.in-Concat.b) c.requires.equation_is c.in-Concat.is) some.0 some.1) in
    operand_within c.args.module.now c.args.builder.now c.args.nets.now c.args.net c.in-Concat.b s.low_width c.requires.nets s.low

pub concat-requires-clause-a_is : goal.concat-requires-clause-a_is
concat-requires-clause-a_is c =
    let some = slice_get-some c.args.module.now.lines c.args.net c.requires.net_is in
    let s = sound_as c.args.module.now c.args.net some.0 (Concat c.in-Concat.a c.in-Concat.b) c.requires.module some.1 ((is_of c.args.module.now c.args.net c.args.equation (Concat c.in-Concat.a c.in-Concat.b) c.requires.equation_is c.in-Concat.is) some.0 some.1) in
    (operand_net c.args.module.now c.args.builder.now c.args.nets.now c.args.net c.in-Concat.a s.high_width c.net_at-in-Concat.result c.requires.nets s.high c.net_at-in-Concat.ensures).is_net

pub concat-requires-clause-b_is : goal.concat-requires-clause-b_is
concat-requires-clause-b_is c =
    let some = slice_get-some c.args.module.now.lines c.args.net c.requires.net_is in
    let s = sound_as c.args.module.now c.args.net some.0 (Concat c.in-Concat.a c.in-Concat.b) c.requires.module some.1 ((is_of c.args.module.now c.args.net c.args.equation (Concat c.in-Concat.a c.in-Concat.b) c.requires.equation_is c.in-Concat.is) some.0 some.1) in
    (operand_net c.args.module.now c.args.builder.now c.args.nets.now c.args.net c.in-Concat.b s.low_width c.net_at-in-Concat-2.result c.requires.nets s.low c.net_at-in-Concat-2.ensures).is_net

pub concat-requires-clause-widths : goal.concat-requires-clause-widths
concat-requires-clause-widths c =
    let some = slice_get-some c.args.module.now.lines c.args.net c.requires.net_is in
    let s = sound_as c.args.module.now c.args.net some.0 (Concat c.in-Concat.a c.in-Concat.b) c.requires.module some.1 ((is_of c.args.module.now c.args.net c.args.equation (Concat c.in-Concat.a c.in-Concat.b) c.requires.equation_is c.in-Concat.is) some.0 some.1) in
    let one = (operand_net c.args.module.now c.args.builder.now c.args.nets.now c.args.net c.in-Concat.a s.high_width c.net_at-in-Concat.result c.requires.nets s.high c.net_at-in-Concat.ensures).has_width in
    let other = (operand_net c.args.module.now c.args.builder.now c.args.nets.now c.args.net c.in-Concat.b s.low_width c.net_at-in-Concat-2.result c.requires.nets s.low c.net_at-in-Concat-2.ensures).has_width in
    let sum = s.sum in
    let small = (c.requires.module.well_made.lines c.args.net some.0 some.1).small in
    omega (arith, one, other, sum, small)

pub returns-in-Concat : goal.returns-in-Concat
returns-in-Concat c =
    under_ok (λ (line : Line). slice_get c.args.module.now.lines c.args.net ≡ Some line) (λ (line : Line) (net : NetValue). IsOperatorCopy c.args.module.now c.args.builder.now c.concat.new.self c.args.gaps.now c.args.nets.now c.args.net line net) c.concat.result
    (λ line at. (let s = sound_as c.args.module.now c.args.net line (Concat c.in-Concat.a c.in-Concat.b) c.requires.module at ((is_of c.args.module.now c.args.net c.args.equation (Concat c.in-Concat.a c.in-Concat.b) c.requires.equation_is c.in-Concat.is) line at) in
    operator_made c.args.module.now c.args.builder.now c.concat.new.self c.args.gaps.now c.args.nets.now c.args.net line (Concat c.in-Concat.a c.in-Concat.b) _ c.concat.result _ _ c.concat.ensures ((is_of c.args.module.now c.args.net c.args.equation (Concat c.in-Concat.a c.in-Concat.b) c.requires.equation_is c.in-Concat.is) line at) refl (λ port e. cc) (λ value e. cc) (let high = (operand_net c.args.module.now c.args.builder.now c.args.nets.now c.args.net c.in-Concat.a s.high_width c.net_at-in-Concat.result c.requires.nets s.high c.net_at-in-Concat.ensures).has_width in let low = (operand_net c.args.module.now c.args.builder.now c.args.nets.now c.args.net c.in-Concat.b s.low_width c.net_at-in-Concat-2.result c.requires.nets s.low c.net_at-in-Concat-2.ensures).has_width in let sum = s.sum in omega (arith, high, low, sum))
    (λ cycle seen v shows. (let one = shows.net c.in-Concat.a c.net_at-in-Concat.result c.net_at-in-Concat.ensures in let other = shows.net c.in-Concat.b c.net_at-in-Concat-2.result c.net_at-in-Concat-2.ensures in let low = (operand_net c.args.module.now c.args.builder.now c.args.nets.now c.args.net c.in-Concat.b s.low_width c.net_at-in-Concat-2.result c.requires.nets s.low c.net_at-in-Concat-2.ensures).has_width in
    rw s.low.width (ap (λ w. cycle.net c.net_at-in-Concat.result.number * 2 ^ w + cycle.net c.net_at-in-Concat-2.result.number) low ∙ ap (λ x. x * 2 ^ s.low_width + cycle.net c.net_at-in-Concat-2.result.number) (sym one) ∙ ap (λ y. seen.net c.in-Concat.a * 2 ^ s.low_width + y) (sym other))))))

pub net_at-requires-in-Not : goal.net_at-requires-in-Not
net_at-requires-in-Not c =
    let some = slice_get-some c.args.module.now.lines c.args.net c.requires.net_is in
    let s = sound_as c.args.module.now c.args.net some.0 (Not c.in-Not.a) c.requires.module some.1 ((is_of c.args.module.now c.args.net c.args.equation (Not c.in-Not.a) c.requires.equation_is c.in-Not.is) some.0 some.1) in
    operand_within c.args.module.now c.args.builder.now c.args.nets.now c.args.net c.in-Not.a some.0.width c.requires.nets s

pub not-requires : goal.not-requires
not-requires c =
    let some = slice_get-some c.args.module.now.lines c.args.net c.requires.net_is in
    let s = sound_as c.args.module.now c.args.net some.0 (Not c.in-Not.a) c.requires.module some.1 ((is_of c.args.module.now c.args.net c.args.equation (Not c.in-Not.a) c.requires.equation_is c.in-Not.is) some.0 some.1) in
    record { a_is = (operand_net c.args.module.now c.args.builder.now c.args.nets.now c.args.net c.in-Not.a some.0.width c.net_at-in-Not.result c.requires.nets s c.net_at-in-Not.ensures).is_net }

pub returns-in-Not : goal.returns-in-Not
returns-in-Not c =
    under_ok (λ (line : Line). slice_get c.args.module.now.lines c.args.net ≡ Some line) (λ (line : Line) (net : NetValue). IsOperatorCopy c.args.module.now c.args.builder.now c.not.new.self c.args.gaps.now c.args.nets.now c.args.net line net) c.not.result
    (λ line at. (let s = sound_as c.args.module.now c.args.net line (Not c.in-Not.a) c.requires.module at ((is_of c.args.module.now c.args.net c.args.equation (Not c.in-Not.a) c.requires.equation_is c.in-Not.is) line at) in
    operator_made c.args.module.now c.args.builder.now c.not.new.self c.args.gaps.now c.args.nets.now c.args.net line (Not c.in-Not.a) _ c.not.result _ _ c.not.ensures ((is_of c.args.module.now c.args.net c.args.equation (Not c.in-Not.a) c.requires.equation_is c.in-Not.is) line at) refl (λ port e. cc) (λ value e. cc) ((operand_net c.args.module.now c.args.builder.now c.args.nets.now c.args.net c.in-Not.a line.width c.net_at-in-Not.result c.requires.nets s c.net_at-in-Not.ensures).has_width)
    (λ cycle seen v shows. (let one = shows.net c.in-Not.a c.net_at-in-Not.result c.net_at-in-Not.ensures in ap (λ w. 2 ^ w - 1 - cycle.net c.net_at-in-Not.result.number) (operand_net c.args.module.now c.args.builder.now c.args.nets.now c.args.net c.in-Not.a line.width c.net_at-in-Not.result c.requires.nets s c.net_at-in-Not.ensures).has_width ∙ ap (λ x. 2 ^ line.width - 1 - x) (sym one)))))

pub net_at-requires-in-Any : goal.net_at-requires-in-Any
net_at-requires-in-Any c =
    let some = slice_get-some c.args.module.now.lines c.args.net c.requires.net_is in
    let s = sound_as c.args.module.now c.args.net some.0 (Any c.in-Any.a) c.requires.module some.1 ((is_of c.args.module.now c.args.net c.args.equation (Any c.in-Any.a) c.requires.equation_is c.in-Any.is) some.0 some.1) in
    operand_within c.args.module.now c.args.builder.now c.args.nets.now c.args.net c.in-Any.a s.width c.requires.nets s.operand

pub any-requires : goal.any-requires
any-requires c =
    let some = slice_get-some c.args.module.now.lines c.args.net c.requires.net_is in
    let s = sound_as c.args.module.now c.args.net some.0 (Any c.in-Any.a) c.requires.module some.1 ((is_of c.args.module.now c.args.net c.args.equation (Any c.in-Any.a) c.requires.equation_is c.in-Any.is) some.0 some.1) in
    record { a_is = (operand_net c.args.module.now c.args.builder.now c.args.nets.now c.args.net c.in-Any.a s.width c.net_at-in-Any.result c.requires.nets s.operand c.net_at-in-Any.ensures).is_net }

pub returns-in-Any : goal.returns-in-Any
returns-in-Any c =
    under_ok (λ (line : Line). slice_get c.args.module.now.lines c.args.net ≡ Some line) (λ (line : Line) (net : NetValue). IsOperatorCopy c.args.module.now c.args.builder.now c.any.new.self c.args.gaps.now c.args.nets.now c.args.net line net) c.any.result
    (λ line at. (let s = sound_as c.args.module.now c.args.net line (Any c.in-Any.a) c.requires.module at ((is_of c.args.module.now c.args.net c.args.equation (Any c.in-Any.a) c.requires.equation_is c.in-Any.is) line at) in
    operator_made c.args.module.now c.args.builder.now c.any.new.self c.args.gaps.now c.args.nets.now c.args.net line (Any c.in-Any.a) _ c.any.result _ _ c.any.ensures ((is_of c.args.module.now c.args.net c.args.equation (Any c.in-Any.a) c.requires.equation_is c.in-Any.is) line at) refl (λ port e. cc) (λ value e. cc) (sym s.one_bit)
    (λ cycle seen v shows. (let one = shows.net c.in-Any.a c.net_at-in-Any.result c.net_at-in-Any.ensures in ap (λ x. if x == 0 then 0 else 1) (sym one)))))

pub net_at-requires-in-Mux : goal.net_at-requires-in-Mux
net_at-requires-in-Mux c =
    let some = slice_get-some c.args.module.now.lines c.args.net c.requires.net_is in
    let s = sound_as c.args.module.now c.args.net some.0 (Mux c.in-Mux.s c.in-Mux.a c.in-Mux.b) c.requires.module some.1 ((is_of c.args.module.now c.args.net c.args.equation (Mux c.in-Mux.s c.in-Mux.a c.in-Mux.b) c.requires.equation_is c.in-Mux.is) some.0 some.1) in
    operand_within c.args.module.now c.args.builder.now c.args.nets.now c.args.net c.in-Mux.s 1 c.requires.nets s.test

pub net_at-requires-in-Mux-2 : goal.net_at-requires-in-Mux-2
net_at-requires-in-Mux-2 c =
    let some = slice_get-some c.args.module.now.lines c.args.net c.requires.net_is in
    let s = sound_as c.args.module.now c.args.net some.0 (Mux c.in-Mux.s c.in-Mux.a c.in-Mux.b) c.requires.module some.1 ((is_of c.args.module.now c.args.net c.args.equation (Mux c.in-Mux.s c.in-Mux.a c.in-Mux.b) c.requires.equation_is c.in-Mux.is) some.0 some.1) in
    operand_within c.args.module.now c.args.builder.now c.args.nets.now c.args.net c.in-Mux.a some.0.width c.requires.nets s.branches.left

pub net_at-requires-in-Mux-3 : goal.net_at-requires-in-Mux-3
net_at-requires-in-Mux-3 c =
    let some = slice_get-some c.args.module.now.lines c.args.net c.requires.net_is in
    let s = sound_as c.args.module.now c.args.net some.0 (Mux c.in-Mux.s c.in-Mux.a c.in-Mux.b) c.requires.module some.1 ((is_of c.args.module.now c.args.net c.args.equation (Mux c.in-Mux.s c.in-Mux.a c.in-Mux.b) c.requires.equation_is c.in-Mux.is) some.0 some.1) in
    operand_within c.args.module.now c.args.builder.now c.args.nets.now c.args.net c.in-Mux.b some.0.width c.requires.nets s.branches.right

pub mux-requires-clause-s_is : goal.mux-requires-clause-s_is
mux-requires-clause-s_is c =
    let some = slice_get-some c.args.module.now.lines c.args.net c.requires.net_is in
    let s = sound_as c.args.module.now c.args.net some.0 (Mux c.in-Mux.s c.in-Mux.a c.in-Mux.b) c.requires.module some.1 ((is_of c.args.module.now c.args.net c.args.equation (Mux c.in-Mux.s c.in-Mux.a c.in-Mux.b) c.requires.equation_is c.in-Mux.is) some.0 some.1) in
    (operand_net c.args.module.now c.args.builder.now c.args.nets.now c.args.net c.in-Mux.s 1 c.net_at-in-Mux.result c.requires.nets s.test c.net_at-in-Mux.ensures).is_net

pub mux-requires-clause-one_bit : goal.mux-requires-clause-one_bit
mux-requires-clause-one_bit c =
    let some = slice_get-some c.args.module.now.lines c.args.net c.requires.net_is in
    let s = sound_as c.args.module.now c.args.net some.0 (Mux c.in-Mux.s c.in-Mux.a c.in-Mux.b) c.requires.module some.1 ((is_of c.args.module.now c.args.net c.args.equation (Mux c.in-Mux.s c.in-Mux.a c.in-Mux.b) c.requires.equation_is c.in-Mux.is) some.0 some.1) in
    (operand_net c.args.module.now c.args.builder.now c.args.nets.now c.args.net c.in-Mux.s 1 c.net_at-in-Mux.result c.requires.nets s.test c.net_at-in-Mux.ensures).has_width

pub mux-requires-clause-a_is : goal.mux-requires-clause-a_is
mux-requires-clause-a_is c =
    let some = slice_get-some c.args.module.now.lines c.args.net c.requires.net_is in
    let s = sound_as c.args.module.now c.args.net some.0 (Mux c.in-Mux.s c.in-Mux.a c.in-Mux.b) c.requires.module some.1 ((is_of c.args.module.now c.args.net c.args.equation (Mux c.in-Mux.s c.in-Mux.a c.in-Mux.b) c.requires.equation_is c.in-Mux.is) some.0 some.1) in
    (operand_net c.args.module.now c.args.builder.now c.args.nets.now c.args.net c.in-Mux.a some.0.width c.net_at-in-Mux-2.result c.requires.nets s.branches.left c.net_at-in-Mux-2.ensures).is_net

pub mux-requires-clause-b_is : goal.mux-requires-clause-b_is
mux-requires-clause-b_is c =
    let some = slice_get-some c.args.module.now.lines c.args.net c.requires.net_is in
    let s = sound_as c.args.module.now c.args.net some.0 (Mux c.in-Mux.s c.in-Mux.a c.in-Mux.b) c.requires.module some.1 ((is_of c.args.module.now c.args.net c.args.equation (Mux c.in-Mux.s c.in-Mux.a c.in-Mux.b) c.requires.equation_is c.in-Mux.is) some.0 some.1) in
    (operand_net c.args.module.now c.args.builder.now c.args.nets.now c.args.net c.in-Mux.b some.0.width c.net_at-in-Mux-3.result c.requires.nets s.branches.right c.net_at-in-Mux-3.ensures).is_net

pub mux-requires-clause-widths : goal.mux-requires-clause-widths
mux-requires-clause-widths c =
    let some = slice_get-some c.args.module.now.lines c.args.net c.requires.net_is in
    let s = sound_as c.args.module.now c.args.net some.0 (Mux c.in-Mux.s c.in-Mux.a c.in-Mux.b) c.requires.module some.1 ((is_of c.args.module.now c.args.net c.args.equation (Mux c.in-Mux.s c.in-Mux.a c.in-Mux.b) c.requires.equation_is c.in-Mux.is) some.0 some.1) in
    operands_alike c.args.module.now c.args.builder.now c.args.nets.now c.args.net c.in-Mux.a c.in-Mux.b some.0.width c.net_at-in-Mux-2.result c.net_at-in-Mux-3.result c.requires.nets s.branches c.net_at-in-Mux-2.ensures c.net_at-in-Mux-3.ensures

pub returns-in-Mux : goal.returns-in-Mux
returns-in-Mux c =
    under_ok (λ (line : Line). slice_get c.args.module.now.lines c.args.net ≡ Some line) (λ (line : Line) (net : NetValue). IsOperatorCopy c.args.module.now c.args.builder.now c.mux.new.self c.args.gaps.now c.args.nets.now c.args.net line net) c.mux.result
    (λ line at. (let s = sound_as c.args.module.now c.args.net line (Mux c.in-Mux.s c.in-Mux.a c.in-Mux.b) c.requires.module at ((is_of c.args.module.now c.args.net c.args.equation (Mux c.in-Mux.s c.in-Mux.a c.in-Mux.b) c.requires.equation_is c.in-Mux.is) line at) in
    operator_made c.args.module.now c.args.builder.now c.mux.new.self c.args.gaps.now c.args.nets.now c.args.net line (Mux c.in-Mux.s c.in-Mux.a c.in-Mux.b) _ c.mux.result _ _ c.mux.ensures ((is_of c.args.module.now c.args.net c.args.equation (Mux c.in-Mux.s c.in-Mux.a c.in-Mux.b) c.requires.equation_is c.in-Mux.is) line at) refl (λ port e. cc) (λ value e. cc) ((operand_net c.args.module.now c.args.builder.now c.args.nets.now c.args.net c.in-Mux.a line.width c.net_at-in-Mux-2.result c.requires.nets s.branches.left c.net_at-in-Mux-2.ensures).has_width)
    (λ cycle seen v shows. (let test = shows.net c.in-Mux.s c.net_at-in-Mux.result c.net_at-in-Mux.ensures in let one = shows.net c.in-Mux.a c.net_at-in-Mux-2.result c.net_at-in-Mux-2.ensures in let other = shows.net c.in-Mux.b c.net_at-in-Mux-3.result c.net_at-in-Mux-3.ensures in
    ap (λ t. if t == 0 then cycle.net c.net_at-in-Mux-3.result.number else cycle.net c.net_at-in-Mux-2.result.number) (sym test) ∙ ap (λ x. if seen.net c.in-Mux.s == 0 then cycle.net c.net_at-in-Mux-3.result.number else x) (sym one) ∙ ap (λ y. if seen.net c.in-Mux.s == 0 then y else seen.net c.in-Mux.a) (sym other)))))

pub net_at-requires-in-Slice : goal.net_at-requires-in-Slice
net_at-requires-in-Slice c =
    let some = slice_get-some c.args.module.now.lines c.args.net c.requires.net_is in
    let s = sound_as c.args.module.now c.args.net some.0 (Slice c.in-Slice.a c.in-Slice.high c.in-Slice.low) c.requires.module some.1 ((is_of c.args.module.now c.args.net c.args.equation (Slice c.in-Slice.a c.in-Slice.high c.in-Slice.low) c.requires.equation_is c.in-Slice.is) some.0 some.1) in
    operand_within c.args.module.now c.args.builder.now c.args.nets.now c.args.net c.in-Slice.a s.width c.requires.nets s.operand

pub slice-requires-clause-a_is : goal.slice-requires-clause-a_is
slice-requires-clause-a_is c =
    let some = slice_get-some c.args.module.now.lines c.args.net c.requires.net_is in
    let s = sound_as c.args.module.now c.args.net some.0 (Slice c.in-Slice.a c.in-Slice.high c.in-Slice.low) c.requires.module some.1 ((is_of c.args.module.now c.args.net c.args.equation (Slice c.in-Slice.a c.in-Slice.high c.in-Slice.low) c.requires.equation_is c.in-Slice.is) some.0 some.1) in
    (operand_net c.args.module.now c.args.builder.now c.args.nets.now c.args.net c.in-Slice.a s.width c.net_at-in-Slice.result c.requires.nets s.operand c.net_at-in-Slice.ensures).is_net

pub slice-requires-clause-order : goal.slice-requires-clause-order
slice-requires-clause-order c =
    let some = slice_get-some c.args.module.now.lines c.args.net c.requires.net_is in
    let s = sound_as c.args.module.now c.args.net some.0 (Slice c.in-Slice.a c.in-Slice.high c.in-Slice.low) c.requires.module some.1 ((is_of c.args.module.now c.args.net c.args.equation (Slice c.in-Slice.a c.in-Slice.high c.in-Slice.low) c.requires.equation_is c.in-Slice.is) some.0 some.1) in
    s.order

pub slice-requires-clause-inside : goal.slice-requires-clause-inside
slice-requires-clause-inside c =
    let some = slice_get-some c.args.module.now.lines c.args.net c.requires.net_is in
    let s = sound_as c.args.module.now c.args.net some.0 (Slice c.in-Slice.a c.in-Slice.high c.in-Slice.low) c.requires.module some.1 ((is_of c.args.module.now c.args.net c.args.equation (Slice c.in-Slice.a c.in-Slice.high c.in-Slice.low) c.requires.equation_is c.in-Slice.is) some.0 some.1) in
    let wide = (operand_net c.args.module.now c.args.builder.now c.args.nets.now c.args.net c.in-Slice.a s.width c.net_at-in-Slice.result c.requires.nets s.operand c.net_at-in-Slice.ensures).has_width in
    let inside = s.inside in
    omega (arith, wide, inside)

pub returns-in-Slice : goal.returns-in-Slice
returns-in-Slice c =
    under_ok (λ (line : Line). slice_get c.args.module.now.lines c.args.net ≡ Some line) (λ (line : Line) (net : NetValue). IsOperatorCopy c.args.module.now c.args.builder.now c.slice.new.self c.args.gaps.now c.args.nets.now c.args.net line net) c.slice.result
    (λ line at. (let s = sound_as c.args.module.now c.args.net line (Slice c.in-Slice.a c.in-Slice.high c.in-Slice.low) c.requires.module at ((is_of c.args.module.now c.args.net c.args.equation (Slice c.in-Slice.a c.in-Slice.high c.in-Slice.low) c.requires.equation_is c.in-Slice.is) line at) in
    operator_made c.args.module.now c.args.builder.now c.slice.new.self c.args.gaps.now c.args.nets.now c.args.net line (Slice c.in-Slice.a c.in-Slice.high c.in-Slice.low) _ c.slice.result _ _ c.slice.ensures ((is_of c.args.module.now c.args.net c.args.equation (Slice c.in-Slice.a c.in-Slice.high c.in-Slice.low) c.requires.equation_is c.in-Slice.is) line at) refl (λ port e. cc) (λ value e. cc) (sym s.bits)
    (λ cycle seen v shows. (let one = shows.net c.in-Slice.a c.net_at-in-Slice.result c.net_at-in-Slice.ensures in ap (λ x. x / 2 ^ c.in-Slice.low % 2 ^ (c.in-Slice.high - c.in-Slice.low + 1)) (sym one)))))

pub returns-in-Constant : goal.returns-in-Constant
returns-in-Constant c =
    under_ok (λ (line : Line). slice_get c.args.module.now.lines c.args.net ≡ Some line) (λ (line : Line) (net : NetValue). IsOperatorCopy c.args.module.now c.args.builder.now c.constant.new.self c.args.gaps.now c.args.nets.now c.args.net line net) c.constant.result
    (λ line at. (let s = sound_as c.args.module.now c.args.net line (Constant c.in-Constant.value) c.requires.module at ((is_of c.args.module.now c.args.net c.args.equation (Constant c.in-Constant.value) c.requires.equation_is c.in-Constant.is) line at) in
    operator_made c.args.module.now c.args.builder.now c.constant.new.self c.args.gaps.now c.args.nets.now c.args.net line (Constant c.in-Constant.value) _ c.constant.result _ _ c.constant.ensures ((is_of c.args.module.now c.args.net c.args.equation (Constant c.in-Constant.value) c.requires.equation_is c.in-Constant.is) line at) refl (λ port e. cc) (λ value e. e) (s.width)
    (λ cycle seen v shows. (refl))))

pub input-requires : goal.input-requires
input-requires c =
    let some = slice_get-some c.args.module.now.lines c.args.net c.requires.net_is in
    let s = sound_as c.args.module.now c.args.net some.0 (Input c.in-Input.port) c.requires.module some.1 ((is_of c.args.module.now c.args.net c.args.equation (Input c.in-Input.port) c.requires.equation_is c.in-Input.is) some.0 some.1) in
    (some.0.width, subst (λ (ps : List PortLine). IsInputPort ps c.in-Input.port some.0.width) (sym c.requires.ports) s)

pub returns-in-Input : goal.returns-in-Input
returns-in-Input c line at =
    let is = (is_of c.args.module.now c.args.net c.args.equation (Input c.in-Input.port) c.requires.equation_is c.in-Input.is) line at in
    let s = sound_as c.args.module.now c.args.net line (Input c.in-Input.port) c.requires.module at is in
    let wide = c.input.ensures.width line.width (subst (λ (ps : List PortLine). IsInputPort ps c.in-Input.port line.width) (sym c.requires.ports) s) in
    record {
      net_is = record { is_net = c.input.ensures.net; has_width = wide };
      holds = λ cycle v seen shows same. record {
        fits = subst (λ w. seen.net c.args.net < 2 ^ w) wide (subst (λ t. t < 2 ^ c.input.result.width) (sym same) (c.input.ensures.value cycle v).0);
        value = subst (λ (e : Equation). IfSome (value_of c.args.module.now.lines seen line.width e) (λ x. seen.net c.args.net ≡ x)) (sym is) (same ∙ (c.input.ensures.value cycle v).1 ∙ sym (shows.input c.in-Input.port));
      };
      input = λ port its. (let e : c.in-Input.port ≡ port = same_port c.in-Input.port port (sym is ∙ its) in
          c.input.ensures.number ∙ ap (λ (ps : List PortLine). input_net ps c.in-Input.port) c.requires.ports ∙ ap (input_net c.args.module.now.ports) e);
      same = λ port its. refl;
      constant = λ value its. absurd (no_constant c.in-Input.port value (sym is ∙ its));
      plain = ap is_register is;
      grows = alike_none c.args.builder.now;
    }
  where
    same_port : (k j : ℕ) → Input k ≡ Input j → k ≡ j
    same_port k j e = cc

    no_constant : (k : ℕ) (value : Val) → Input k ≡ Constant value → ⊥
    no_constant k value e = cc

pub gap_at-gap-requires : goal.gap_at-gap-requires
gap_at-gap-requires c =
    let some = slice_get-some c.args.module.now.lines c.args.net c.requires.net_is in
    let s = sound_as c.args.module.now c.args.net some.0 (Read c.in-Read.memory c.in-Read.address) c.requires.module some.1 ((is_of c.args.module.now c.args.net c.args.equation (Read c.in-Read.memory c.in-Read.address) c.requires.equation_is c.in-Read.is) some.0 some.1) in
    gap_within c.args.module.now c.args.gaps.now c.in-Read.memory s.memory c.requires.fit s.is

pub bounds-mems-memory : goal.bounds-mems-memory
bounds-mems-memory c =
    let some = slice_get-some c.args.module.now.lines c.args.net c.requires.net_is in
    let s = sound_as c.args.module.now c.args.net some.0 (Read c.in-Read.memory c.in-Read.address) c.requires.module some.1 ((is_of c.args.module.now c.args.net c.args.equation (Read c.in-Read.memory c.in-Read.address) c.requires.equation_is c.in-Read.is) some.0 some.1) in
    mem_within c.args.module.now c.args.gaps.now c.args.mems.now c.in-Read.memory s.memory c.gap_at-gap.result c.requires.mems s.is c.gap_at-gap.ensures

pub net_at-requires-in-Read : goal.net_at-requires-in-Read
net_at-requires-in-Read c =
    let some = slice_get-some c.args.module.now.lines c.args.net c.requires.net_is in
    let s = sound_as c.args.module.now c.args.net some.0 (Read c.in-Read.memory c.in-Read.address) c.requires.module some.1 ((is_of c.args.module.now c.args.net c.args.equation (Read c.in-Read.memory c.in-Read.address) c.requires.equation_is c.in-Read.is) some.0 some.1) in
    operand_within c.args.module.now c.args.builder.now c.args.nets.now c.args.net c.in-Read.address s.memory.address_bits c.requires.nets s.address

pub read_memory-requires-clause-mem_is : goal.read_memory-requires-clause-mem_is
read_memory-requires-clause-mem_is c =
    let some = slice_get-some c.args.module.now.lines c.args.net c.requires.net_is in
    let s = sound_as c.args.module.now c.args.net some.0 (Read c.in-Read.memory c.in-Read.address) c.requires.module some.1 ((is_of c.args.module.now c.args.net c.args.equation (Read c.in-Read.memory c.in-Read.address) c.requires.equation_is c.in-Read.is) some.0 some.1) in
    let mem_at = item_at c.args.mems.now c.in-Read.memory c.index-mems-memory.result (mem_within c.args.module.now c.args.gaps.now c.args.mems.now c.in-Read.memory s.memory c.gap_at-gap.result c.requires.mems s.is c.gap_at-gap.ensures) c.index-mems-memory.is in
    narrow_mem c.args.module.now c.args.builder.now c.args.gaps.now c.args.mems.now c.in-Read.memory s.memory c.gap_at-gap.result c.index-mems-memory.result c.requires.mems c.requires.narrow s.is c.gap_at-gap.ensures mem_at

pub read_memory-requires-clause-address_is : goal.read_memory-requires-clause-address_is
read_memory-requires-clause-address_is c =
    let some = slice_get-some c.args.module.now.lines c.args.net c.requires.net_is in
    let s = sound_as c.args.module.now c.args.net some.0 (Read c.in-Read.memory c.in-Read.address) c.requires.module some.1 ((is_of c.args.module.now c.args.net c.args.equation (Read c.in-Read.memory c.in-Read.address) c.requires.equation_is c.in-Read.is) some.0 some.1) in
    (operand_net c.args.module.now c.args.builder.now c.args.nets.now c.args.net c.in-Read.address s.memory.address_bits c.net_at-in-Read.result c.requires.nets s.address c.net_at-in-Read.ensures).is_net

pub read_memory-requires-clause-widths : goal.read_memory-requires-clause-widths
read_memory-requires-clause-widths c =
    let some = slice_get-some c.args.module.now.lines c.args.net c.requires.net_is in
    let s = sound_as c.args.module.now c.args.net some.0 (Read c.in-Read.memory c.in-Read.address) c.requires.module some.1 ((is_of c.args.module.now c.args.net c.args.equation (Read c.in-Read.memory c.in-Read.address) c.requires.equation_is c.in-Read.is) some.0 some.1) in
    let mem_at = item_at c.args.mems.now c.in-Read.memory c.index-mems-memory.result (mem_within c.args.module.now c.args.gaps.now c.args.mems.now c.in-Read.memory s.memory c.gap_at-gap.result c.requires.mems s.is c.gap_at-gap.ensures) c.index-mems-memory.is in
    let mem_is = mem_is c.args.module.now c.args.gaps.now c.args.mems.now c.in-Read.memory s.memory c.gap_at-gap.result c.index-mems-memory.result c.requires.mems s.is c.gap_at-gap.ensures mem_at in
    (operand_net c.args.module.now c.args.builder.now c.args.nets.now c.args.net c.in-Read.address s.memory.address_bits c.net_at-in-Read.result c.requires.nets s.address c.net_at-in-Read.ensures).has_width ∙ sym (ap (λ (m : MemValue). m.address_bits) mem_is)

pub widened-requires-clause-inside : goal.widened-requires-clause-inside
widened-requires-clause-inside c =
    let some = slice_get-some c.args.module.now.lines c.args.net c.requires.net_is in
    let s = sound_as c.args.module.now c.args.net some.0 (Read c.in-Read.memory c.in-Read.address) c.requires.module some.1 ((is_of c.args.module.now c.args.net c.args.equation (Read c.in-Read.memory c.in-Read.address) c.requires.equation_is c.in-Read.is) some.0 some.1) in
    let mem_at = item_at c.args.mems.now c.in-Read.memory c.index-mems-memory.result (mem_within c.args.module.now c.args.gaps.now c.args.mems.now c.in-Read.memory s.memory c.gap_at-gap.result c.requires.mems s.is c.gap_at-gap.ensures) c.index-mems-memory.is in
    let mem_is = mem_is c.args.module.now c.args.gaps.now c.args.mems.now c.in-Read.memory s.memory c.gap_at-gap.result c.index-mems-memory.result c.requires.mems s.is c.gap_at-gap.ensures mem_at in
    let fits = fits_memory c.args.module.now c.args.gaps.now c.in-Read.memory s.memory c.gap_at-gap.result c.requires.fit s.is c.gap_at-gap.ensures in
    let word = c.in_ok-word-in-Read.ensures.net.1 in
    let width : c.index-mems-memory.result.width ≡ s.memory.width - c.gap_at-gap.result.zeros = ap (λ (m : MemValue). m.width) mem_is in
    let inside = fits.inside in
    omega (arith, word, width, inside)

pub widened-requires-clause-small : goal.widened-requires-clause-small
widened-requires-clause-small c =
    let some = slice_get-some c.args.module.now.lines c.args.net c.requires.net_is in
    let s = sound_as c.args.module.now c.args.net some.0 (Read c.in-Read.memory c.in-Read.address) c.requires.module some.1 ((is_of c.args.module.now c.args.net c.args.equation (Read c.in-Read.memory c.in-Read.address) c.requires.equation_is c.in-Read.is) some.0 some.1) in
    let mem_at = item_at c.args.mems.now c.in-Read.memory c.index-mems-memory.result (mem_within c.args.module.now c.args.gaps.now c.args.mems.now c.in-Read.memory s.memory c.gap_at-gap.result c.requires.mems s.is c.gap_at-gap.ensures) c.index-mems-memory.is in
    let mem_is = mem_is c.args.module.now c.args.gaps.now c.args.mems.now c.in-Read.memory s.memory c.gap_at-gap.result c.index-mems-memory.result c.requires.mems s.is c.gap_at-gap.ensures mem_at in
    let fits = fits_memory c.args.module.now c.args.gaps.now c.in-Read.memory s.memory c.gap_at-gap.result c.requires.fit s.is c.gap_at-gap.ensures in
    let word = c.in_ok-word-in-Read.ensures.net.1 in
    let width : c.index-mems-memory.result.width ≡ s.memory.width - c.gap_at-gap.result.zeros = ap (λ (m : MemValue). m.width) mem_is in
    let inside = fits.inside in
    let wide = s.width in
    let small = small_line c.args.module.now c.args.net some.0 c.requires.module some.1 in
    omega (arith, word, width, inside, wide, small)

pub returns-in_ok-word-in-Read : goal.returns-in_ok-word-in-Read
returns-in_ok-word-in-Read c =
    under_ok (λ (line : Line). slice_get c.args.module.now.lines c.args.net ≡ Some line) (λ (line : Line) (net : NetValue). IsOperatorCopy c.args.module.now c.args.builder.now c.widened.new.builder c.args.gaps.now c.args.nets.now c.args.net line net) c.widened.result
    (λ line at. (let is = (is_of c.args.module.now c.args.net c.args.equation (Read c.in-Read.memory c.in-Read.address) c.requires.equation_is c.in-Read.is) line at in
    let s = sound_as c.args.module.now c.args.net line (Read c.in-Read.memory c.in-Read.address) c.requires.module at is in
    let mem_at = item_at c.args.mems.now c.in-Read.memory c.index-mems-memory.result (mem_within c.args.module.now c.args.gaps.now c.args.mems.now c.in-Read.memory s.memory c.gap_at-gap.result c.requires.mems s.is c.gap_at-gap.ensures) c.index-mems-memory.is in
    let mem_is = mem_is c.args.module.now c.args.gaps.now c.args.mems.now c.in-Read.memory s.memory c.gap_at-gap.result c.index-mems-memory.result c.requires.mems s.is c.gap_at-gap.ensures mem_at in
    let fits = fits_memory c.args.module.now c.args.gaps.now c.in-Read.memory s.memory c.gap_at-gap.result c.requires.fit s.is c.gap_at-gap.ensures in
    read_made c.args.module.now c.args.builder.now c.read_memory.new.self c.widened.new.builder c.args.gaps.now c.args.nets.now c.args.net c.in-Read.memory c.in-Read.address line s.memory c.gap_at-gap.result c.index-mems-memory.result
    c.net_at-in-Read.result c.in_ok-word-in-Read.word c.widened.result is s.width fits c.gap_at-gap.ensures c.net_at-in-Read.ensures mem_is c.read_memory.ensures.extends c.read_memory.ensures.grows c.in_ok-word-in-Read.ensures.net.1
    c.in_ok-word-in-Read.ensures.value c.widened.ensures))

use Rattle.std.proofs.Common.{Option, is_some, IfSome, sym, ap, subst, ◌∙◌}
use Rattle.netlist.specs.Nets.{NetValue}
use Rattle.net_parts.specs.Nets.{IsNetOfWidth}
use Rattle.interconnect.proofs.Driving.{input_may, input_some}
use Rattle.interconnect.proofs.outputs.input_net.Goals as goal

pub input_of-requires-clause-input : goal.input_of-requires-clause-input
input_of-requires-clause-input c = (c.requires.input.0, input_may c.args.plan.now.system c.args.end c.args.role c.requires.input.0 c.requires.input.1)

pub unwrap-requires : goal.unwrap-requires
unwrap-requires c =
    let system = c.args.plan.now.system in
    let width = c.requires.input.0 in
    let read = c.input_of.ensures.net width (input_may system c.args.end c.args.role width c.requires.input.1) in
    ap is_some read ∙ input_some system c.args.end c.args.role width c.requires.input.1

pub returns-clause-net : goal.returns-clause-net
returns-clause-net c width is = sym (c.input_of.ensures.net width (input_may c.args.plan.now.system c.args.end c.args.role width is)) ∙ c.unwrap.ensures

pub returns-clause-is : goal.returns-clause-is
returns-clause-is c width is =
    subst (λ (net : Option NetValue). IfSome net (λ n. IsNetOfWidth c.args.builder.now n width)) c.unwrap.ensures
    (c.input_of.ensures.is width (input_may c.args.plan.now.system c.args.end c.args.role width is))

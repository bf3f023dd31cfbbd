use Rattle.std.proofs.Common.{◌≡◌, ℕ, List, length, arith, ap, subst}
use Rattle.system_tables.specs.declared.tables.EndId.{EndId}
use Rattle.address_map.specs.Maps.{agents_of}
use Rattle.interconnect.specs.Agents.{AreAgentsIn}
use Rattle.interconnect.proofs.Gathered.{no_agent}
use Rattle.interconnect.proofs.agents.agent_ends.Goals as goal

pub loop-number-init : goal.loop-number-init
loop-number-init c = no_agent c.args.plan.now.system c.args.builder.now _ c.new-ends.ensures

pub push_agent-requires-clause-inside : goal.push_agent-requires-clause-inside
push_agent-requires-clause-inside c = omega (arith, ap (λ (es : List EndId). length es) c.agents-number-end.ensures, c.loop-number-test.true)

pub returns : goal.returns
returns c =
    let last : c.loop-number.number ≡ length (agents_of c.args.plan.now.system) = omega (arith, ap (λ (es : List EndId). length es) c.agents-number-end.ensures, c.loop-number-test.false, c.loop-number.auto.number-end) in
    subst (λ (n : ℕ). AreAgentsIn c.args.plan.now.system c.args.builder.now n c.loop-number.ends) last c.loop-number.invariant

use Rattle.std.proofs.Common.{◌≡◌, ℕ, length, sym, ap, subst, ◌∙◌, arith}
use Rattle.netlist.specs.Netlists.{Netlist}
use Rattle.cycle_sim.specs.Sims.{input_widths}
use Rattle.simulations.specs.Lanes.{LanesSoFar}
use Rattle.simulations.proofs.campaigns.Begun.{lanes_counted}
use Rattle.simulations.proofs.campaigns.counted.run_lanes.Goals as goal

pub run_cycle-requires-clause-inputs : goal.run_cycle-requires-clause-inputs
run_cycle-requires-clause-inputs c = c.cycles.invariant.inputs ∙ ap (λ (n : Netlist). length (input_widths n.ports)) (sym c.cycles.invariant.netlist)

pub run_cycle-requires-clause-so_far : goal.run_cycle-requires-clause-so_far
run_cycle-requires-clause-so_far c = (c.requires.first.0, c.requires.first.1, c.args.cycles, c.cycles.counter, c.cycles-test.true, c.cycles.invariant.so_far c.requires.first.0 c.requires.first.1 c.requires.first.2)

pub cycles-preserved : goal.cycles-preserved
cycles-preserved c = record {
  netlist = c.run_cycle.ensures.netlist ∙ c.cycles.invariant.netlist;
  inputs = c.run_cycle.ensures.inputs ∙ c.cycles.invariant.inputs;
  so_far = λ plan scenarios first. c.run_cycle.ensures.more plan scenarios c.args.cycles c.cycles.counter c.cycles-test.true (c.cycles.invariant.so_far plan scenarios first);
}

pub counts_in-requires : goal.counts_in-requires
counts_in-requires c = (c.cycles.invariant.so_far c.requires.first.0 c.requires.first.1 c.requires.first.2).count

pub returns-clause-counted : goal.returns-clause-counted
returns-clause-counted c = λ plan scenarios first.
    let low = c.cycles-test.false in
    let most = c.cycles.auto.counter-end in
    let end : c.cycles.counter ≡ c.args.cycles = omega (arith, low, most) in
    lanes_counted c.counts_go_on.ensures.whole plan scenarios c.args.cycles c.cycles.lanes c.cycles.benches c.counts_in.result
    (subst (λ (k : ℕ). LanesSoFar plan scenarios c.args.cycles k c.cycles.lanes c.cycles.benches) end (c.cycles.invariant.so_far plan scenarios first)) (omega arith) c.counts_in.ensures

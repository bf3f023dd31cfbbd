use Rattle.std.proofs.Common.{◌≡◌, List, length}
use Rattle.link_rules.specs.Plans.{PlanTable}
use Rattle.cycle_sim.specs.Sims.{input_widths}
use Rattle.scenario_tables.specs.declared.scenario.Scenario.{Scenario}
use Rattle.simulations.specs.Lanes.{LanesSoFar}
use Rattle.simulations.proofs.campaigns.counted.run_lanes.Given as goal

abbrev pub invariant-cycles : goal.invariant-cycles
invariant-cycles l = record {
  netlist : l.lanes.netlist ≡ l.initial.lanes.netlist;
  inputs : length l.inputs ≡ length (input_widths l.initial.lanes.netlist.ports);
  so_far : (plan : PlanTable) (scenarios : List Scenario) → LanesSoFar plan scenarios l.fn.cycles 0 l.initial.lanes l.initial.benches → LanesSoFar plan scenarios l.fn.cycles l.counter l.lanes l.benches;
}

use Rattle.std.proofs.Common.{◌≡◌, ◌≤◌, length, take}
use Rattle.cycle_sim.specs.Sims.{input_widths}
use Rattle.lane_sim.specs.LaneSims.{widths_in}
use Rattle.lane_sim.proofs.nets.are_inputs.Given as goal

abbrev pub invariant-loop-port : goal.invariant-loop-port
invariant-loop-port l = record {
  within : l.taken ≤ length l.inputs;
  taken : widths_in (take l.taken l.inputs) ≡ input_widths (take l.port-index l.ports);
}

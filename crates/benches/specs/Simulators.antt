-- A simulator whose outputs a test bench reads.
use Rattle.std.specs.Prelude.{ℕ, ◌<◌}
use Rattle.cycle_sim.specs.Sims.{SimValue}
use Rattle.lane_sim.specs.LaneSims.{lane_of}
use Rattle.benches.specs.declared.parts.kind.SimulatorKind.{SimulatorKind}

-- the plain simulator that it is, or is in its lane
abbrev pub simulator_of : SimulatorKind → SimValue
simulator_of (SimulatorKind.Plain sim) = sim.now
simulator_of (SimulatorKind.Lane lanes lane) = lane_of lanes.now lane

-- a lane is one of eight
abbrev pub IsKind : SimulatorKind → Type 0
IsKind (SimulatorKind.Plain sim) = Unit {0}
IsKind (SimulatorKind.Lane lanes lane) = lane < 8

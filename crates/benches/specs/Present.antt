-- A cycle of a run that is the present one of a simulator.
use Rattle.std.specs.Prelude.{◌≡◌, ℕ}
use Rattle.netlist.specs.Runs.{Run}
use Rattle.cycle_sim.specs.Sims.{SimValue, present}

-- each net has the level in the cycle that it has in the simulator
abbrev pub IsPresent : Run → ℕ → SimValue → Type 0
IsPresent run c sim = (n : ℕ) → run.net c n ≡ (present sim).net n

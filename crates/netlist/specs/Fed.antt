-- Runs that go on with given inputs.
use Rattle.std.specs.Prelude.{◌≡◌, ℕ, suc, ◌<◌}
use Rattle.netlist.specs.Netlists.{Netlist}
use Rattle.netlist.specs.Runs.{Run, cycle_of, IsRun}

-- a run of one more cycle, in which these stand at the input ports; the cycles before are those of the run
pub record GoesOnFed (netlist : Netlist) (run : Run) (cycles : ℕ) (inputs : ℕ → ℕ) : Type 0 where
  pub longer : Run
  pub is_run : IsRun netlist longer (suc cycles)
  pub begins : (c : ℕ) → c < cycles → cycle_of longer c ≡ cycle_of run c
  pub fed : longer.input cycles ≡ inputs

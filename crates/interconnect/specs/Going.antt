-- Legal runs of a module go on.
use Rattle.std.specs.Prelude.{◌≡◌, ℕ, ◌+◌, ◌<◌}
use Rattle.link_rules.specs.Plans.{PlanTable}
use Rattle.netlist.specs.Netlists.{Netlist}
use Rattle.netlist.specs.Runs.{Run, cycle_of, IsRun}
use Rattle.memory_runs.specs.Beginnings.{RunsAgreeBefore}
use Rattle.memory_runs.specs.Whole.{IsLegalRun}
use Rattle.memory_plans.specs.Systems.{memory_system}
use Rattle.interconnect.specs.Memory.{module_run}

-- a run of so many more cycles that begins with the cycles of this one, and whose hosts and agents are legal in them all
pub record GoesOnLegally (plan : PlanTable) (netlist : Netlist) (run : Run) (cycles more : ℕ) : Type 0 where
  pub longer : Run
  pub is_run : IsRun netlist longer (cycles + more)
  pub begins : (c : ℕ) → c < cycles → cycle_of longer c ≡ cycle_of run c
  pub legal : IsLegalRun (memory_system plan) (module_run plan netlist longer) (cycles + more)
  pub same : RunsAgreeBefore (module_run plan netlist run) (module_run plan netlist longer) cycles

-- each run of the module whose hosts and agents are legal is the beginning of longer ones
abbrev pub LegalRunsGoOn : PlanTable → Netlist → Type 0
LegalRunsGoOn plan netlist =
    (run : Run) (cycles more : ℕ) → IsRun netlist run cycles
    → IsLegalRun (memory_system plan) (module_run plan netlist run) cycles → GoesOnLegally plan netlist run cycles more

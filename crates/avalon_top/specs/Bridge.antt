-- What the files of a bridge call for.
use Rattle.std.specs.Prelude.{ℕ, List}
use Rattle.scenario_runs.specs.declared.bridges.faults.BridgeFault.{BridgeFault}
use Rattle.scenario_runs.specs.declared.bridges.faults.BridgeFault.TheVariants as fault
use Rattle.scenario_runs.specs.Refused.{CanBridge, IsBridgeFault}
use Rattle.task_words.specs.declared.Task.{Task}
use Rattle.task_words.specs.declared.Task.TheVariants.{Bridge}
use Rattle.task_words.specs.Words.{AreBridgeCycles}
use Rattle.answer_lines.specs.declared.exit.Exit.{Exit}
use Rattle.answer_lines.specs.declared.exit.Exit.TheVariants as exit
use Rattle.avalon_top.specs.Systems.{answer_of_system}
use Rattle.avalon_top.specs.Refused.{DoneOrRefused}

-- the answer to a bridge of so many cycles that is refused: L6 is passed by so many values of nets
abbrev pub answer_of_bridge : ℕ → BridgeFault → Exit
answer_of_bridge cycles (fault.SystemRefused refused) = answer_of_system (Bridge cycles) refused
answer_of_bridge cycles (fault.PacketRefused byte rule) = exit.PacketRefused byte rule
answer_of_bridge cycles (fault.TooManyValues count) = exit.Limit 6 count
answer_of_bridge cycles fault.NoMemory = exit.NoMemory

-- the answer that the files of a system and transactions call for, where nothing fails
abbrev pub BridgeCallsFor : ℕ → List (List ℕ) → List ℕ → Exit → Type 0
BridgeCallsFor cycles files bytes =
    DoneOrRefused (CanBridge files bytes cycles) (IsBridgeFault files bytes cycles) (answer_of_bridge cycles)

-- a bridge has cycles as its words state them
abbrev pub HasBridgeCycles : Task → Type 0
HasBridgeCycles (Bridge cycles) = AreBridgeCycles cycles
HasBridgeCycles _ = Unit {0}

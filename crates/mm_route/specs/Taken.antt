-- What a side takes in a cycle, and what each step of a run does.
use Rattle.std.specs.Prelude.{ℕ, ◌+◌, ◌<◌, Bool, not, ◌&&◌, ◌||◌, if◌then◌else◌}
use Rattle.histories.specs.History.{is_raised}
use Rattle.netlist.specs.Nets.{NetValue}
use Rattle.netlist.specs.Netlists.{Netlist}
use Rattle.netlist.specs.Runs.{Cycle, Run, cycle_of, IsRun}
use Rattle.command_nets.specs.declared.nets.CommandNets.{CommandNets}

-- a beat is taken
abbrev pub taken_in : Cycle → CommandNets → NetValue → Bool
taken_in cycle command wait =
    (is_raised (cycle.net command.read.number) || is_raised (cycle.net command.write.number))
    && not (is_raised (cycle.net wait.number))

abbrev pub reads_in : Cycle → CommandNets → NetValue → Bool
reads_in cycle command wait = taken_in cycle command wait && is_raised (cycle.net command.read.number)

-- the words that a read asks as it is taken
abbrev pub asked_in : Cycle → CommandNets → NetValue → ℕ
asked_in cycle command wait = if reads_in cycle command wait then cycle.net command.count.number else 0

-- in each run, of each cycle and the next one
abbrev pub EachStep : Netlist → (Cycle → Cycle → Type 0) → Type 0
EachStep netlist P =
    (run : Run) (cycles : ℕ) → IsRun netlist run cycles → (c : ℕ) → c + 1 < cycles → P (cycle_of run c) (cycle_of run (c + 1))

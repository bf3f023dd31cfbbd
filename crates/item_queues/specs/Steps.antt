-- What registers take from cycle to cycle.
use Rattle.std.specs.Prelude.{◌≡◌, ℕ, ◌+◌, ◌-◌, ◌%◌, ◌^◌, ◌<◌, ◌≤◌, ◌==◌}
use Rattle.histories.specs.History.{one_if}
use Rattle.netlist.specs.Nets.{NetValue}
use Rattle.netlist.specs.Netlists.{Netlist}
use Rattle.netlist.specs.Runs.{Run, IsRun}

-- in each cycle of each run but the last one
abbrev pub EachStep : Netlist → (Run → ℕ → Type 0) → Type 0
EachStep netlist P = (run : Run) (cycles : ℕ) → IsRun netlist run cycles → (c : ℕ) → c + 1 < cycles → P run c

-- a pointer goes on by one place where the bit is high, and from the last place to the first
abbrev pub MovesBy : Netlist → NetValue → NetValue → Type 0
MovesBy netlist pointer moves =
    EachStep netlist (λ run c. run.net (c + 1) pointer.number
    ≡ (run.net c pointer.number + one_if (run.net c moves.number == 1)) % 2 ^ pointer.width)

-- a count that rises where one comes and falls where one goes, if that fits so many bits; one that comes may go at once
abbrev pub IsNextCount : ℕ → ℕ → ℕ → ℕ → ℕ → Type 0
IsNextCount bits count comes goes next =
    count + one_if (comes == 1) < 2 ^ bits → one_if (goes == 1) ≤ count + one_if (comes == 1)
    → next ≡ (count + one_if (comes == 1)) - one_if (goes == 1)

abbrev pub CountsOn : Netlist → NetValue → NetValue → NetValue → Type 0
CountsOn netlist count comes goes =
    EachStep netlist (λ run c. IsNextCount count.width (run.net c count.number) (run.net c comes.number) (run.net c goes.number)
    (run.net (c + 1) count.number))

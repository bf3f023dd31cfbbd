-- A register that keeps what a bit was in the last cycles.
use Rattle.std.specs.Prelude.{◌≡◌, ℕ, ◌+◌, ◌-◌, ◌*◌, ◌%◌, ◌^◌, ◌<◌, nat_le, if◌then◌else◌}
use Rattle.netlist.specs.Nets.{NetValue}
use Rattle.netlist.specs.Netlists.{Netlist, IsWaiting}
use Rattle.netlist.specs.Runs.{Run, IsRun, Always}
use Rattle.netlist.specs.Longer.{Extends}
use Rattle.net_parts.specs.Nets.{IsNetOfWidth}
use Rattle.net_parts.specs.Laws.{net_lasts}

-- what a signal was so many cycles before; before the first cycle it was 0
abbrev pub earlier : (ℕ → ℕ) → ℕ → ℕ → ℕ
earlier signal cycles c = if nat_le cycles c then signal (c - cycles) else 0

-- a register with a bit for each of these cycles, that waits for its next net
pub record IsHistory (netlist : Netlist) (history : NetValue) (cycles : ℕ) : Type 0 where
  pub net : IsNetOfWidth netlist history cycles
  pub waits : IsWaiting netlist history.number

-- from a cycle to the next, the bit comes in at the bottom and the highest bit goes
pub record TakesBit (netlist : Netlist) (history bit : NetValue) : Type 0 where
  pub is_bit : Always netlist (λ cycle. cycle.net bit.number < 2)
  pub moves : (run : Run) (cycles : ℕ) → IsRun netlist run cycles → (c : ℕ) → c + 1 < cycles
      → run.net (c + 1) history.number ≡ run.net c bit.number + 2 * (run.net c history.number % 2 ^ (history.width - 1))

-- ---- what stands lasts. No contract reads these proofs; laws of runs cite them

pub history_lasts : (old new : Netlist) (history : NetValue) (cycles : ℕ) → Extends old new
    → (IsWaiting old history.number → IsWaiting new history.number) → IsHistory old history cycles → IsHistory new history cycles
history_lasts old new history cycles e wait h = record { net = net_lasts old new history cycles e h.net; waits = wait h.waits }

pub takes_lasts : (old new : Netlist) (history bit : NetValue) → Extends old new → TakesBit old history bit
    → TakesBit new history bit
takes_lasts old new history bit e h = record {
  is_bit = λ cycle v. h.is_bit cycle (e.valuations cycle v);
  moves = λ run cycles r. h.moves run cycles (e.runs run cycles r);
}

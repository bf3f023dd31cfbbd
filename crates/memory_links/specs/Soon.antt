-- A link that is asked shows it soon: reads that travel while others are owed rest on it.
use Rattle.std.specs.Prelude.{◌≡◌, ℕ, suc, ◌||◌, IsTrue, IsFalse}
use Rattle.memory_runs.specs.Commands.{shows}
use Rattle.memory_machines.specs.Link.{Port, taken_at}

-- a beat that is shown above is shown below in the next cycle at the latest, and where none is shown below, nothing is kept
pub record ShowsSoon (up down : Port) : Type 0 where
  pub shape : up.shape ≡ down.shape
  pub next : (c : ℕ) → IsTrue (shows up.commands.signals c)
      → IsTrue (shows down.commands.signals c || shows down.commands.signals (suc c))
  pub all : (c : ℕ) → IsFalse (shows down.commands.signals c) → taken_at up c ≡ taken_at down c

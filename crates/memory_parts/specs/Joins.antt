-- A side that shows the beats of another.
use Rattle.std.specs.Prelude.{◌≡◌, ℕ, ◌<◌, IsTrue}
use Rattle.memory_runs.specs.Commands.{shows}
use Rattle.memory_machines.specs.Link.{Port, marked_at}

-- a beat that is shown below is the one that is shown above
pub record KeepsBeats (up down : Port) (end : ℕ) : Type 0 where
  pub shown : (c : ℕ) → c < end → IsTrue (shows down.commands.signals c) → IsTrue (shows up.commands.signals c)
  pub same : (c : ℕ) → c < end → IsTrue (shows down.commands.signals c) → (marked_at down c).transfer ≡ (marked_at up c).transfer

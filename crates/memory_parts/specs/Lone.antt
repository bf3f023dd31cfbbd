-- An agent that one host alone is joined to: its arbiter is a wire, with no register and no choice.
use Rattle.std.specs.Prelude.{◌≡◌, ℕ, ◌<◌, nat_eq, IsTrue, IsFalse}
use Rattle.histories.specs.History.{is_raised}
use Rattle.memory_runs.specs.Commands.{shows}
use Rattle.memory_machines.specs.Link.{Port}
use Rattle.memory_machines.specs.Lines.{TaggedPort}

-- the host's port is the one below, and each word that comes bears its tag. Whoever else is there asks nothing and is given no
-- word
pub record IsLoneWire (host hosts : ℕ) (up : ℕ → Port) (down : TaggedPort) (end : ℕ) : Type 0 where
  pub one : up host ≡ down.port
  pub tag : (c : ℕ) → c < end → IsTrue (is_raised (down.answers.valid c)) → down.answer_tag c ≡ host
  pub shapes : (h : ℕ) → h < hosts → (up h).shape ≡ down.shape
  pub silent : (h c : ℕ) → IsFalse (nat_eq h host) → c < end → IsFalse (shows (up h).commands.signals c)
  pub quiet : (h c : ℕ) → h < hosts → IsFalse (nat_eq h host) → c < end → IsFalse (is_raised ((up h).answers.valid c))

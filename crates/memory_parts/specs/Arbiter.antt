-- The arbiter as a machine: the turn rule, the multiplexer, and the answers sent back by their tags.
use Rattle.std.specs.Prelude.{◌≡◌, ℕ, suc, ◌<◌, Bool, not, ◌&&◌, ◌||◌, List, IsTrue, IsFalse, None, MatchOption, nat_eq}
use Rattle.histories.specs.History.{is_raised}
use Rattle.memory_runs.specs.Commands.{shows}
use Rattle.memory_runs.specs.Order.{is_agent}
use Rattle.memory_machines.specs.Link.{Port}
use Rattle.memory_machines.specs.Lines.{TaggedPort}
use Rattle.memory_machines.specs.Machines.{raw_at}
use Rattle.memory_machines.specs.Turns.{Grant, chosen, grant_after, asks_at, ends_at}
use Rattle.histories.specs.Turns.{Seat}

-- whose beat is shown, by the registers and by who asks. The wait and the answers of the cycle aren't read
abbrev pub chooses : (ℕ → Grant) → (ℕ → Port) → ℕ → ℕ → Bool
chooses grant up c host = is_agent host (chosen (grant c) (asks_at up c)).host

-- `grant`: the host whose command is open, the holder's place in the ring, and the shares that it has left
pub record IsArbiterMachine (seats : List Seat) (hosts : ℕ) (up : ℕ → Port) (down : TaggedPort) (grant : ℕ → Grant)
    (end : ℕ) : Type 0 where
  pub shapes : (h : ℕ) → h < hosts → (up h).shape ≡ down.shape
  pub begins : grant 0 ≡ record { open_host = None; round = record { left = 0; ring = seats } }
  pub next : (c : ℕ) → suc c < end
      → grant (suc c) ≡ grant_after (grant c) (chosen (grant c) (asks_at up c)) (ends_at up down.port c)
  -- the chosen one's beat goes on as it is, with its tag and its `more`; where none is chosen, none is shown
  pub shown : (c : ℕ) → c < end
      → MatchOption (chosen (grant c) (asks_at up c)).host
      (IsFalse (shows down.commands.signals c)) (λ host. raw_at down.port c ≡ raw_at (up host) c)
  pub wait : (h c : ℕ) → h < hosts → c < end → IsTrue (shows (up h).commands.signals c)
      → is_raised ((up h).commands.waitrequest c) ≡ not (chooses grant up c h) || is_raised (down.commands.waitrequest c)
  -- a word goes to the asker whose tag it bears. What stands there without one isn't told
  pub valid : (h c : ℕ) → h < hosts → c < end
      → is_raised ((up h).answers.valid c) ≡ is_raised (down.answers.valid c) && nat_eq (down.answer_tag c) h
  pub word : (h c : ℕ) → h < hosts → c < end → IsTrue (is_raised ((up h).answers.valid c))
      → (up h).answers.word c ≡ down.answers.word c
  pub code : (h c : ℕ) → h < hosts → c < end → IsTrue (is_raised ((up h).answers.valid c))
      → (up h).answers.code c ≡ down.answers.code c

-- How many beats of others an arbiter may take before one of a host that asks.
use Rattle.std.specs.Prelude.{ℕ, suc, ◌+◌, ◌*◌, ◌<◌, ◌≤◌, Bool, List, [], ◌∷◌, nat_eq, if◌then◌else◌, IsTrue, IsFalse, Option, Some, None}
use Rattle.histories.specs.Turns.{Seat, Round, last_host}
use Rattle.histories.specs.History.{is_raised}
use Rattle.memory_runs.specs.Commands.{shows}
use Rattle.memory_machines.specs.Link.{Port, takes, taken_at, marked_at, closes, is_last_joined}
use Rattle.memory_runs.specs.Awake.{Throughout}
use Rattle.memory_machines.specs.Turns.{Grant, asks_at}

-- the beats of the hosts that stand before this one, where a command of a host brings at most so many
abbrev pub beats_ahead : (ℕ → ℕ) → ℕ → List Seat → ℕ
beats_ahead longest host [] = 0
beats_ahead longest host (seat ∷ later) =
    if nat_eq seat.host host then 0 else seat.shares * longest seat.host + beats_ahead longest host later

-- the beats of all hosts but this one, in a round
abbrev pub beats_of_others : (ℕ → ℕ) → ℕ → List Seat → ℕ
beats_of_others longest host [] = 0
beats_of_others longest host (seat ∷ later) =
    (if nat_eq seat.host host then 0 else seat.shares * longest seat.host) + beats_of_others longest host later

-- how many beats of others may still be taken before one of this host, where no command is open
abbrev pub round_allows : (ℕ → ℕ) → ℕ → Round → ℕ
round_allows longest host round =
    beats_ahead longest host round.ring
    + (if nat_eq (last_host round.ring) host then 0 else round.left * longest (last_host round.ring))

-- and where one is, of which so many beats are still to come
abbrev pub open_allows : (ℕ → ℕ) → ℕ → (ℕ → ℕ) → Option ℕ → Round → ℕ
open_allows longest host rest None round = round_allows longest host round
open_allows longest host rest (Some other) round = if nat_eq other host then 0 else rest other + round_allows longest host round

abbrev pub grant_allows : (ℕ → ℕ) → ℕ → (ℕ → ℕ) → Grant → ℕ
grant_allows longest host rest grant = open_allows longest host rest grant.open_host grant.round

-- as a cycle begins, at most so many steps of the command that goes on or begins next at a port are still to come. A step is a
-- beat that is taken there, or a good cycle in which the command is left open and no beat of it is shown
pub record HasStepsLeft (port : Port) (good : ℕ → Bool) (longest : ℕ) (rest : ℕ → ℕ) (end : ℕ) : Type 0 where
  pub some : (c : ℕ) → c ≤ end → 1 ≤ rest c
  pub few : (c : ℕ) → c ≤ end → rest c ≤ longest
  pub fewer : (c : ℕ) → c < end → IsTrue (takes port c) → IsFalse (closes (marked_at port c)) → rest (suc c) + 1 ≤ rest c
  pub stays : (c : ℕ) → c < end → IsFalse (takes port c) → rest (suc c) ≤ rest c
  pub gaps : (c : ℕ) → c < end → IsTrue (is_last_joined (taken_at port c)) → IsFalse (shows port.commands.signals c)
      → IsTrue (good c) → rest (suc c) + 1 ≤ rest c

-- in each cycle of a stretch a host asks at an arbiter, and isn't taken
pub record WaitsItsTurn (up : ℕ → Port) (host from size : ℕ) : Type 0 where
  pub asks : Throughout from size (λ c. IsTrue (asks_at up c host))
  pub none : Throughout from size (λ c. IsFalse (takes (up host) c))

-- what lies below a port has a rank, which falls in each good cycle in which a beat stands there and isn't taken, and doesn't
-- rise in another cycle in which nothing is taken
pub record HasPace (down : Port) (good : ℕ → Bool) (rank : ℕ → ℕ) (pace from size : ℕ) : Type 0 where
  pub bounded : Throughout from size (λ c. rank (suc c) ≤ pace)
  pub falls : Throughout from size (λ c. IsTrue (shows down.commands.signals c) → IsFalse (takes down c) → IsTrue (good c)
      → rank (suc c) < rank c)
  pub stays : Throughout from size (λ c. IsFalse (takes down c) → rank (suc c) ≤ rank c)

-- reads that aren't joined to others, each of no more beats than there are steps left
pub record HasSingleReads (port : Port) (rest : ℕ → ℕ) (end : ℕ) : Type 0 where
  pub few : (c : ℕ) → c < end → IsTrue (shows port.commands.signals c) → IsFalse (is_raised (port.commands.write c))
      → port.commands.count c ≤ rest c
  pub single : (c : ℕ) → c < end → IsTrue (shows port.commands.signals c) → IsFalse (is_raised (port.commands.write c))
      → IsFalse (is_raised (port.commands.more c))

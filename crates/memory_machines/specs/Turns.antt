-- The turn rule at the ports of an arbiter: whose beat is shown in each cycle, by what is asked, taken and left open.
use Rattle.std.specs.Prelude.{◌≡◌, ℕ, zero, suc, ◌+◌, ◌<◌, ◌≤◌, nat_eq, not, Bool, ◌&&◌, List, if◌then◌else◌, IsTrue, IsFalse, Option, Some, None, is_none, MatchOption, map}
use Rattle.histories.specs.History.{one_if}
use Rattle.memory_runs.specs.Views.{System}
use Rattle.memory_runs.specs.Commands.{shows}
use Rattle.memory_machines.specs.Link.{Port, takes, marked_at, closes}
use Rattle.histories.specs.Turns.{Round, Seat, Turn, turn_of, AllShare, is_seated}
use Rattle.histories.specs.Turns.Turn.{Nobody, Begins}

-- the host whose beat is shown in a cycle, if any, and the round after it
pub record Choice : Type 0 where
  pub host : Option ℕ
  pub round : Round

abbrev pub choice_by : Turn → Choice
choice_by (Nobody round) = record { host = None; round = round }
choice_by (Begins host round) = record { host = Some host; round = round }

-- where a command is open its host alone may go on; where none is, the round decides
abbrev pub choice_of : Option ℕ → (ℕ → Bool) → Round → Choice
choice_of None asks round = choice_by (turn_of asks round)
choice_of (Some host) asks round = record { host = if asks host then Some host else None; round = round }

-- the host whose command is open as a cycle begins, and the round
pub record Grant : Type 0 where
  pub open_host : Option ℕ
  pub round : Round

-- a command stays open until its last beat is taken
abbrev pub open_after : Option ℕ → Option ℕ → (ℕ → Bool) → Option ℕ
open_after before None ends = before
open_after before (Some host) ends = if ends host then None else Some host

abbrev pub asks_at : (ℕ → Port) → ℕ → ℕ → Bool
asks_at up cycle host = shows (up host).commands.signals cycle

-- the beat of a host is taken below and closes its joined command
abbrev pub ends_at : (ℕ → Port) → Port → ℕ → ℕ → Bool
ends_at up down cycle host = takes down cycle && closes (marked_at (up host) cycle)

abbrev pub chosen : Grant → (ℕ → Bool) → Choice
chosen grant asks = choice_of grant.open_host asks grant.round

abbrev pub grant_after : Grant → Choice → (ℕ → Bool) → Grant
grant_after grant choice ends = record { open_host = open_after grant.open_host choice.host ends; round = choice.round }

-- at first no command is open, and the host of the agent's last connection holds the turn with nothing left
abbrev pub grant_before : List Seat → (ℕ → Port) → Port → ℕ → Grant
grant_before seats up down zero = record { open_host = None; round = record { left = 0; ring = seats } }
grant_before seats up down (suc cycle) =
    let grant = grant_before seats up down cycle in
    grant_after grant (chosen grant (asks_at up cycle)) (ends_at up down cycle)

-- in each cycle the beat of the chosen host is shown, with its tag, and none where nobody is chosen
abbrev pub TakesTurnsByRule : List Seat → (ℕ → Port) → Port → ℕ → Type 0
TakesTurnsByRule seats up down end =
    (c : ℕ) → c < end →
    MatchOption (chosen (grant_before seats up down c) (asks_at up c)).host (IsFalse (shows down.commands.signals c)) (λ host.
    IsTrue (shows down.commands.signals c) × (down.commands.tag c ≡ (up host).commands.tag c))

-- the seats of an agent: its hosts in the order of the connections, with their shares
abbrev pub seats_of : System → ℕ → List Seat
seats_of system agent = map (λ host. record { host = host; shares = system.shares host agent }) (system.joined agent)

-- a command begins under a tag that passes the test: none is open as the cycle begins, and a beat with that tag is shown
abbrev pub begins_at : List Seat → (ℕ → Port) → Port → (ℕ → Bool) → ℕ → Bool
begins_at seats up down test cycle =
    is_none (grant_before seats up down cycle).open_host && shows down.commands.signals cycle && test (down.commands.tag cycle)

-- how many commands of other hosts begin in so many cycles
abbrev pub others_begun : List Seat → (ℕ → Port) → Port → ℕ → ℕ → ℕ → ℕ
others_begun seats up down host from zero = 0
others_begun seats up down host from (suc size) =
    one_if (begins_at seats up down (λ tag. not (nat_eq tag host)) from) + others_begun seats up down host (suc from) size

-- in a window a host asks in each cycle, and none of its commands begins
abbrev pub IsKeptAsking : List Seat → (ℕ → Port) → Port → ℕ → ℕ → ℕ → Type 0
IsKeptAsking seats up down host from size =
    (c : ℕ) → from ≤ c → c < from + size → IsTrue (asks_at up c host) × IsFalse (begins_at seats up down (nat_eq host) c)

-- a host that asks bears its number as its tag
abbrev pub BearOwnTags : (ℕ → Port) → ℕ → Type 0
BearOwnTags up end = (host c : ℕ) → c < end → IsTrue (asks_at up c host) → (up host).commands.tag c ≡ host

-- an arbiter that keeps the turn rule, among hosts that each have a share
pub record IsFairArbiter (seats : List Seat) (up : ℕ → Port) (down : Port) (end : ℕ) : Type 0 where
  pub rule : TakesTurnsByRule seats up down end
  pub tags : BearOwnTags up end
  pub shares : AllShare seats

-- a host with a seat asks throughout a window before `end`, and none of its commands begins in it
pub record AsksInVain (seats : List Seat) (up : ℕ → Port) (down : Port) (end host from size : ℕ) : Type 0 where
  pub seated : IsTrue (is_seated host seats)
  pub within : from + size ≤ end
  pub asks : IsKeptAsking seats up down host from size

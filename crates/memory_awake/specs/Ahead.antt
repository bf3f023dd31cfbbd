-- Reads that travel while others are owed: what the parts that lead to an agent do of what it is asked, where nothing but it can
-- wait.
use Rattle.std.specs.Prelude.{ℕ, suc, ◌-◌, ◌<◌, ◌≤◌, length, IsTrue, IsFalse}
use Rattle.histories.specs.History.{is_raised}
use Rattle.memory_runs.specs.Views.{System, Run}
use Rattle.memory_runs.specs.Commands.{shows}
use Rattle.memory_runs.specs.Order.{issued, taken, of_host, is_joined}
use Rattle.memory_runs.specs.Awake.{is_alike}
use Rattle.memory_machines.specs.Link.{Port, taken_at, operations_among}
use Rattle.memory_machines.specs.Lines.{target_of}
use Rattle.memory_machines.specs.Rank.{is_unclosed}
use Rattle.memory_parts.specs.Steps.{has_room}
use Rattle.memory_parts.specs.Ahead.{AcceptsAhead, BearsMore}
use Rattle.memory_links.specs.Soon.{ShowsSoon}
use Rattle.memory_awake.specs.Front.{owes_alone}
use Rattle.memory_awake.specs.Ways.{Ways, tagged}
use Rattle.memory_awake.specs.Wires.{IsWire}

-- where fewer than 16 reads of a host are under way and the agent alone owes it words, nothing waits before the route: a beat is
-- shown behind it, or all that the host has presented for the agent was taken there
abbrev pub KeepsNothingBack : System → Run → ℕ → ℕ → Port → ℕ → Type 0
KeepsNothingBack system run host agent top end =
    (c : ℕ) → c < end → IsTrue (has_room system run host c) → IsTrue (owes_alone system run host agent c)
    → IsFalse (shows top.commands.signals c) →
    length (issued system run host agent (suc c)) ≤ length (operations_among (target_of system agent) top.shape (taken_at top c))

-- no command is left open at a port
abbrev pub LeavesNothingOpen : Port → ℕ → Type 0
LeavesNothingOpen port end = (c : ℕ) → c < end → IsFalse (is_unclosed port c)

-- what the parts that lead to an agent with readdatavalid do beside their records
pub record LeadsAhead (system : System) (run : Run) (agent : ℕ) (ways : Ways) (end : ℕ) : Type 0 where
  pub accepts : AcceptsAhead system run agent (tagged ways 0) end
  pub pipe : (i : ℕ) → i < ways.stages → ShowsSoon (ways.lower (suc i)) (ways.lower i)
  pub back : (h : ℕ) → h < system.hosts → KeepsNothingBack system run h agent (ways.upper h (ways.above h)) end
  pub closed : (h : ℕ) → h < system.hosts → IsFalse (system.host h).has_burst
      → LeavesNothingOpen (ways.upper h (ways.above h)) (end - 1)
  pub joined : (h c : ℕ) → h < system.hosts → c < end → IsTrue (shows (ways.upper h (ways.above h)).commands.signals c)
      → IsTrue (is_joined system agent h)
  -- a host whose plain commands reach the agent one for one is wired to the arbiter
  pub wired : (h : ℕ) → h < system.hosts → IsTrue (is_joined system agent h)
      → IsTrue (is_alike (system.host h) (system.agent agent)) → IsWire (ways.upper h (ways.above h)) (ways.upper h 0)

-- all unfinished commands of a host are for the agent, which waits for nothing: more reads may be under way, and an operation of
-- the host isn't taken
pub record CanTakeMore (system : System) (run : Run) (agent host c : ℕ) : Type 0 where
  pub ready : IsFalse (is_raised ((run.at_agent agent).waitrequest c))
  pub bears : BearsMore system run agent c
  pub room : IsTrue (has_room system run host c)
  pub alone : IsTrue (owes_alone system run host agent c)
  pub untaken : length (of_host host (taken system run agent c)) < length (issued system run host agent (suc c))

-- Full turns: what is asked of the hosts at an arbiter, and whose beats are taken behind it.
use Rattle.std.specs.Prelude.{◌≡◌, ℕ, zero, suc, ◌+◌, ◌-◌, ◌<◌, ◌≤◌, Bool, true, false, not, ◌&&◌, ◌||◌, List, [], ◌∷◌, ◌++◌, map, take, drop, nat_eq, IsTrue, IsFalse, Some, length}
use Rattle.std.specs.List.{list_any}
use Rattle.histories.specs.History.{IsPrefix, only_if, is_raised}
use Rattle.memory_runs.specs.Views.{System, Run}
use Rattle.memory_runs.specs.Commands.{shows, agent_accepts}
use Rattle.memory_runs.specs.Order.{Owner, taken, host_transfers, is_joined, issued}
use Rattle.memory_runs.specs.Awake.{Throughout, Sometime, shows_plain_write, begun, first_owners, may_be_counted, of_command, up_to, count_for, commands_begun, is_for, are_finished_before, has_no_operation}
use Rattle.memory_machines.specs.Link.{Port, Target, takes, taken_at, marked_at, closes, is_nonempty, operations_in, operations_among}
use Rattle.memory_machines.specs.Begun.{owners_of_groups, groups_whole}
use Rattle.memory_machines.specs.Lines.{TaggedPort, groups_of, tagged_operations, target_of}
use Rattle.memory_machines.specs.Straight.{GoesStraightThrough, IsShownPromptly}
use Rattle.memory_machines.specs.Turns.{begins_at, seats_of}
use Rattle.memory_links.specs.InStep.{GoesInStep}
use Rattle.memory_parts.specs.Steps.{IsHostPart, IsRoutePart, IsArbiterPart}
use Rattle.memory_awake.specs.Slack.{PassesOn}
use Rattle.memory_awake.specs.Theorem.{Boundaries}

-- each number stands once
abbrev pub are_apart : List ℕ → Bool
are_apart [] = true
are_apart (x ∷ later) = not (list_any (nat_eq x) later) && are_apart later

-- the hosts whose beats are taken in so many cycles, in order
abbrev pub hosts_taken : Port → ℕ → ℕ → List ℕ
hosts_taken down from zero = []
hosts_taken down from (suc size) = only_if (takes down from) (down.commands.tag from) ++ hosts_taken down (suc from) size

-- in each cycle of a window each host joined to an agent asks at its arbiter, with a beat that ends its command
abbrev pub AllAskPlainly : System → ℕ → (ℕ → Port) → ℕ → ℕ → Type 0
AllAskPlainly system agent up from size =
    (h c : ℕ) → IsTrue (is_joined system agent h) → from ≤ c → c < from + size →
    IsTrue (shows (up h).commands.signals c) × IsTrue (closes (marked_at (up h) c))

-- the hosts of these commands stand in a row among those whose beats are taken in a window
pub record AreAmong (owners : List Owner) (down : Port) (from size : ℕ) : Type 0 where
  pub first : ℕ
  pub few : ℕ
  pub same : map (λ o. o.tag) owners ≡ take few (drop first (hosts_taken down from size))

-- a write beat with an operation that ends its command stands at a port
pub record IsPlainAt (target : Target) (port : Port) (c : ℕ) : Type 0 where
  pub shown : IsTrue (shows port.commands.signals c)
  pub write : IsTrue (is_raised (port.commands.write c))
  pub ends : IsTrue (closes (marked_at port c))
  pub acts : IsTrue (is_nonempty (operations_in target port.shape (marked_at port c)))

-- a link shows such a beat in the cycle in which it comes, as a wire does
abbrev pub HandsWritesOn : Target → Port → Port → ℕ → Type 0
HandsWritesOn target up down end = (c : ℕ) → c < end → IsPlainAt target up c → IsPlainAt target down c

-- from a cycle on up to another a host shows plain writes for an agent, and as the first one begins all earlier commands are
-- finished
pub record WritesPlainly (system : System) (run : Run) (agent host from c : ℕ) : Type 0 where
  pub earlier : IsTrue (are_finished_before system run host (commands_begun system run host (suc from)) from)
  pub starts : from ≤ c
  pub writes : (k : ℕ) → from ≤ k → k ≤ c → IsTrue (shows_plain_write system run agent k host)

-- a beat with an operation that ends its command stands at a port
pub record EndsThere (target : Target) (port : Port) (c : ℕ) : Type 0 where
  pub shown : IsTrue (shows port.commands.signals c)
  pub ends : IsTrue (closes (marked_at port c))
  pub acts : IsTrue (is_nonempty (operations_in target port.shape (marked_at port c)))

-- what turns ask beside `IsBuilt`: no host is joined to an agent twice, and while a host writes plainly what lies between its
-- route and the arbiter hands each write on in its cycle
pub record HandsPlainWrites (system : System) (run : Run) (inside : Boundaries) (agent end : ℕ) : Type 0 where
  pub apart : IsTrue (are_apart (system.joined agent))
  pub links : (h from c : ℕ) → IsTrue (is_joined system agent h) → c < end → WritesPlainly system run agent h from c →
      IsPlainAt (target_of system agent) (inside.upper h agent (inside.links h agent)) c
      → EndsThere (target_of system agent) (inside.upper h agent 0) c

-- next to the hosts, at the routes and at the arbiters each part keeps its record, each stage holds back two beats at most, and
-- the part next to an agent none
pub record AreParts (system : System) (run : Run) (inside : Boundaries) (end : ℕ) : Type 0 where
  pub host : (h : ℕ) → h < system.hosts → IsHostPart system run h (inside.after_host h) end
  pub route : (h : ℕ) → h < system.hosts
      → IsRoutePart system h (inside.after_host h) (λ a. inside.upper h a (inside.links h a)) end
  pub arbiter : (a : ℕ) → a < system.agents → IsArbiterPart system a (λ h. inside.upper h a 0) (inside.lower a system.stages) end
  pub stage : (a i : ℕ) → a < system.agents → i < system.stages
      → PassesOn (record { hold = 2; kept = 1 }) (inside.lower a (suc i)).port (inside.lower a i).port end
  pub agent : (a c : ℕ) → a < system.agents → c < end
      → takes (inside.lower a 0).port c ≡ agent_accepts (system.agent a) (run.at_agent a) c

-- the last command that a host has presented is for an agent and has an operation, and all earlier ones are finished
pub record WaitsAlone (system : System) (run : Run) (agent host c : ℕ) : Type 0 where
  pub presented : IsTrue (is_for system run host (Some agent) (commands_begun system run host (suc c)) (suc c))
  pub operation : IsFalse (has_no_operation system run host (commands_begun system run host (suc c)) (suc c))
  pub earlier : IsTrue (are_finished_before system run host (commands_begun system run host (suc c)) c)

-- so a host waits before an agent's arbiter: not all operations that it has presented were taken there, and no command of it
-- begins there
pub record WaitsBefore (system : System) (run : Run) (inside : Boundaries) (agent host c : ℕ) : Type 0 where
  pub alone : WaitsAlone system run agent host c
  pub untaken : length
      (operations_among (target_of system agent) (inside.upper host agent 0).shape (taken_at (inside.upper host agent 0) c))
      < length (issued system run host agent (suc c))
  pub none : IsFalse
      (begins_at (seats_of system agent) (λ h. inside.upper h agent 0) (inside.lower agent system.stages).port (nat_eq host) c)

-- the hosts of the commands begun at an agent are, in order, those of the first owners of what is taken before it, by the ends of
-- their commands; and that is the front of what is taken behind the arbiter, where commands stand whole
pub record BeginsByTurns (system : System) (run : Run) (agent : ℕ) (near far : TaggedPort) (end : ℕ) : Type 0 where
  pub begun : (c : ℕ) → c ≤ end
      → map (λ o. o.tag) (begun system run agent c)
      ≡ map (λ o. o.tag)
      (first_owners []
      (owners_of_groups (λ _. 0) (λ _. false) (groups_of (target_of system agent) far.shape (taken_at near.port c))))
  pub operations : (c : ℕ) → c ≤ end
      → taken system run agent c ≡ tagged_operations (groups_of (target_of system agent) far.shape (taken_at near.port c))
  pub pipe : (c : ℕ) → c ≤ end → IsPrefix (taken_at near.port c) (taken_at far.port c)
  pub whole : (c : ℕ) → c ≤ end → IsTrue (groups_whole (groups_of (target_of system agent) far.shape (taken_at far.port c)))
  pub tags : (c : ℕ) → c < end → IsTrue (takes far.port c) → IsTrue (is_joined system agent (far.port.commands.tag c))

-- an operation stands at a port
abbrev pub ShowsOperation : Target → Port → ℕ → Type 0
ShowsOperation target port c =
    IsTrue (shows port.commands.signals c) × IsTrue (is_nonempty (operations_in target port.shape (marked_at port c)))

-- a host waits before an agent's arbiter for a command that may be counted: all earlier ones are finished, and nothing of this
-- one was taken there
pub record WaitsThere (system : System) (run : Run) (agent : ℕ) (port : Port) (host number c : ℕ) : Type 0 where
  pub presented : IsTrue (is_for system run host (Some agent) number (suc c))
  pub counted : IsTrue (list_any (may_be_counted system host agent) (of_command number (host_transfers system run host (suc c))))
  pub earlier : IsTrue (are_finished_before system run host number c)
  pub untaken : length (operations_among (target_of system agent) port.shape (taken_at port c))
      ≤ count_for system host agent (up_to (number - 1) (host_transfers system run host (suc c)))

-- what `few` asks beside `IsBuilt`: where a host waits so for a few cycles and one more, an operation stands before the arbiter
-- in one of them
abbrev pub AsksWithin : ℕ → System → Run → (ℕ → Port) → ℕ → ℕ → Type 0
AsksWithin late system run up agent end =
    (host number from : ℕ) → host < system.hosts → from + suc late ≤ end
    → Throughout from (suc late) (WaitsThere system run agent (up host) host number) →
    Sometime from (suc late) (ShowsOperation (target_of system agent) (up host))

-- write bursts of a host may be counted at an agent, and so are to be shown promptly
abbrev pub may_burst_to : System → ℕ → ℕ → Bool
may_burst_to system host agent = not (system.host host).has_enables || (system.agent agent).has_enables

-- what lies between the routes and an agent's arbiter: plain commands go straight through it, between equal words in step, and
-- first beats are shown promptly
pub record LeadsFairly (system : System) (inside : Boundaries) (ahead : Bool) (agent host end : ℕ) : Type 0 where
  pub straight : GoesStraightThrough (λ _. ahead) (target_of system agent) (inside.upper host agent (inside.links host agent))
      (inside.upper host agent 0) end
  pub step : (inside.upper host agent (inside.links host agent)).shape.word_bytes ≡ (inside.upper host agent 0).shape.word_bytes
      → GoesInStep ahead (target_of system agent) (inside.upper host agent (inside.links host agent))
      (inside.upper host agent 0) end
  pub prompt : IsShownPromptly 30 (may_burst_to system host agent) (target_of system agent)
      (inside.upper host agent (inside.links host agent)) (inside.upper host agent 0) end

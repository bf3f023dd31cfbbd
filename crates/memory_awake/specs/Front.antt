-- What stands between a host's port and the boundary behind its route, for one agent: the part next to the host and the route,
-- both wired through.
use Rattle.std.specs.Prelude.{◌≡◌, ℕ, suc, ◌+◌, ◌<◌, ◌≤◌, Bool, ◌&&◌, ◌||◌, length, take, drop, nat_le, IsTrue, IsFalse, Option, Some, None}
use Rattle.std.specs.List.{list_any, list_all}
use Rattle.histories.specs.History.{is_raised, IsPrefix}
use Rattle.memory_runs.specs.Views.{System, Run}
use Rattle.memory_runs.specs.Views.Kind.{Writes}
use Rattle.memory_runs.specs.Commands.{shows, transfer_at, burst_before, read_beats}
use Rattle.memory_runs.specs.Legal.{IsLegalHost, host_accepts, is_under_way}
use Rattle.memory_runs.specs.Order.{place_of, of_host, taken}
use Rattle.memory_runs.specs.Awake.{owes, is_place, count_for, serves, is_given_from, is_written_to, Sometime}
use Rattle.memory_machines.specs.Link.{Port, takes, taken_at, shown_at, operations_among}
use Rattle.memory_machines.specs.Lines.{target_of, asked_among, host_accepted, tagged_operations, groups_of}
use Rattle.memory_machines.specs.Rank.{is_owed, is_unclosed}
use Rattle.memory_parts.specs.Steps.{given_before}
use Rattle.memory_awake.specs.Ways.{Ways, Standings, KeepsAwake, longest}

-- a host shows a beat for a place
abbrev pub shows_for : System → Run → ℕ → Option ℕ → ℕ → Bool
shows_for system run host place c =
    shows (run.at_host host).signals c
    && is_place place
    (place_of system host
    (transfer_at (system.host host).shape (run.at_host host).signals (host_accepts (run.at_host host)) c))

-- as the cycle begins, each word that a host asked by an accepted read is given
abbrev pub are_all_given : System → Run → ℕ → ℕ → Bool
are_all_given system run host c = nat_le (length (read_beats (host_accepted system run host c))) (given_before system run host c)

-- by the end of the cycle, the next word that is owed to a host is for a place
abbrev pub owes_next : System → Run → ℕ → Option ℕ → ℕ → Bool
owes_next system run host place c =
    list_any (λ q. is_place place q.place)
    (take 1 (drop (given_before system run host (suc c)) (asked_among system host (host_accepted system run host (suc c)))))

-- as the cycle begins, the words that a host asked by accepted reads and wasn't given are all owed by one agent
abbrev pub owes_alone : System → Run → ℕ → ℕ → ℕ → Bool
owes_alone system run host agent c =
    list_all (λ q. is_place (Some agent) q.place)
    (drop (given_before system run host c) (asked_among system host (host_accepted system run host c)))

-- a write burst for a place is under way as the cycle begins
abbrev pub is_bursting : System → Run → ℕ → Option ℕ → ℕ → Bool
is_bursting system run host place c =
    is_under_way (system.host host).shape (run.at_host host).signals (host_accepts (run.at_host host)) c
    && is_place place
    (system.place host Writes
    (burst_before (system.host host).shape (run.at_host host).signals (host_accepts (run.at_host host)) c).first)

pub record IsFront (system : System) (run : Run) (host agent : ℕ) (top : Port) (end : ℕ) : Type 0 where
  -- a beat for the agent is shown behind the route in its cycle, where all words that the host asked before are given. A read of
  -- a host without readdatavalid stands at the host until its word comes: from its cycle on the word is owed behind the route
  pub shown : (c : ℕ) → c < end → IsTrue (shows_for system run host (Some agent) c) → IsTrue (are_all_given system run host c) →
      IsTrue (shows top.commands.signals c || is_owed top c || is_given_from system run (Some agent) c host)
  -- a write beat is taken behind the route exactly when it is accepted from the host; a read that is taken there is owed its
  -- words
  pub writes : (c : ℕ) → c < end → IsTrue (takes top c) → IsTrue (is_raised (top.commands.write c))
      → IsTrue (is_written_to system run (Some agent) c host)
  pub reads : (c : ℕ) → c < end → IsTrue (takes top c) → IsFalse (is_raised (top.commands.write c)) → IsTrue (is_owed top c)
  -- nothing is kept: what was accepted from the host for this agent was taken behind the route
  pub taken : (c : ℕ) → c ≤ end
      → count_for system host agent (host_accepted system run host c)
      ≤ length (operations_among (target_of system agent) top.shape (taken_at top c))
  -- a word that is owed to the host next is owed behind the route
  pub owed : (c : ℕ) → c < end → IsTrue (owes_next system run host (Some agent) c) → IsTrue (is_owed top c)
  -- a command is left open behind the route while the host's burst is under way, and not else
  pub opened : (c : ℕ) → c < end → IsTrue (is_unclosed top c)
      → IsTrue (is_bursting system run host (Some agent) c || is_written_to system run (Some agent) c host)
  pub bursts : (c : ℕ) → c < end → IsTrue (is_bursting system run host (Some agent) c)
      → IsTrue (shows (run.at_host host).signals c) → IsTrue (shows top.commands.signals c)

-- a word that comes up behind the route is given to the host in its cycle
abbrev pub GivesAtOnce : System → Run → ℕ → ℕ → Port → ℕ → Type 0
GivesAtOnce system run host agent top end =
    (c : ℕ) → c < end → IsTrue (is_raised (top.answers.valid c)) → IsTrue (is_given_from system run (Some agent) c host)

-- every part between the hosts and an agent keeps its record
pub record KeepsWhole (system : System) (run : Run) (agent : ℕ) (ways : Ways) (standings : Standings) (end : ℕ) : Type 0 where
  pub awake : KeepsAwake system run agent ways standings end
  pub front : (h : ℕ) → h < system.hosts → IsFront system run h agent (ways.upper h (ways.above h)) end
  pub gives : (h : ℕ) → h < system.hosts → GivesAtOnce system run h agent (ways.upper h (ways.above h)) end
  pub links : (h : ℕ) → h < system.hosts → 0 < ways.above h
  -- by the lines that give safety: what the agent has taken is the front of what stands behind the arbiter
  pub in_order : (c : ℕ) → c ≤ end
      → IsPrefix (taken system run agent c)
      (tagged_operations
      (groups_of (target_of system agent) (ways.lower ways.stages).shape (shown_at (ways.lower ways.stages) c)))
  pub words : (h : ℕ) → h < system.hosts → (ways.upper h 0).shape.word_bytes ≡ (ways.lower ways.stages).shape.word_bytes

-- what a host wants of an agent in a cycle
pub data Wants (system : System) (run : Run) (agent host c : ℕ) : Type 0 where
  a_beat : IsTrue (shows_for system run host (Some agent) c) → IsTrue (are_all_given system run host c)
      → Wants system run agent host c
  an_operation : length (of_host host (taken system run agent c)) < count_for system host agent (host_accepted system run host c)
      → Wants system run agent host c
  a_word : IsTrue (owes_next system run host (Some agent) c) → Wants system run agent host c

-- nothing but the module can keep the agent idle, told by the ports
pub record IsWantedAt (system : System) (run : Run) (agent host c : ℕ) : Type 0 where
  pub wants : Wants system run agent host c
  pub ready : IsFalse (is_raised ((run.at_agent agent).waitrequest c))
  pub answered : IsFalse (owes system run agent c)
  pub bursts : (h : ℕ) → h < system.hosts → IsTrue (is_bursting system run h (Some agent) c)
      → IsTrue (shows (run.at_host h).signals c)

-- the default agent: it takes a beat in the cycle in which it is shown, where all that was asked before is given, and gives a
-- word in the next cycle
pub record IsDefaultFront (system : System) (run : Run) (host end : ℕ) : Type 0 where
  pub due : ℕ → Bool  -- it gives a word in this cycle
  pub beats : (c : ℕ) → c < end → IsTrue (shows_for system run host None c) → IsTrue (are_all_given system run host c) →
      IsTrue (is_given_from system run None c host || is_written_to system run None c host || due (suc c))
  pub owed : (c : ℕ) → c < end → IsTrue (owes_next system run host None c) → IsTrue (due (suc c))
  pub gives : (c : ℕ) → c < end → IsTrue (due c) → IsTrue (is_given_from system run None c host)

-- what a host wants of the default agent
pub data WantsDefault (system : System) (run : Run) (host c : ℕ) : Type 0 where
  beat : IsTrue (shows_for system run host None c) → IsTrue (are_all_given system run host c) → WantsDefault system run host c
  word : IsTrue (owes_next system run host None c) → WantsDefault system run host c

-- every host is legal in the cycles before `end`
abbrev pub AreLegalHosts : System → Run → ℕ → Type 0
AreLegalHosts system run end = (h : ℕ) → h < system.hosts → IsLegalHost (system.host h) (run.at_host h) end

-- an agent, or the default agent for a host, is served in some cycle of a window
abbrev pub IsServedIn : System → Run → ℕ → ℕ → ℕ → Type 0
IsServedIn system run agent from size = Sometime from size (λ c. IsTrue (serves system run agent c))

abbrev pub IsDefaultServedIn : System → Run → ℕ → ℕ → ℕ → Type 0
IsDefaultServedIn system run host from size =
    Sometime from size (λ c. IsTrue (is_given_from system run None c host || is_written_to system run None c host))

-- nothing is served in so many cycles, though the agent owes no answer
pub record IsUnserved (system : System) (run : Run) (agent from size : ℕ) : Type 0 where
  pub none : (c : ℕ) → c < size → IsFalse (serves system run agent (from + c))
  pub answered : (c : ℕ) → c < size → IsFalse (owes system run agent (from + c))

-- in each window of this size, in which and in whose next cycle nothing is served, the ranks and moves of the parts allow less
abbrev pub AllowLessThan : ℕ → System → Run → ℕ → Ways → Standings → ℕ → Type 0
AllowLessThan size system run agent ways standings end =
    (from : ℕ) → from + suc size ≤ end → IsUnserved system run agent from (suc size)
    → longest system run agent ways standings from size < size

-- What the parts next to hosts and agents, the route and the arbiter do in each cycle, told by their two sides alone.
use Rattle.std.specs.Prelude.{◌≡◌, ℕ, suc, ◌+◌, ◌-◌, ◌<◌, ◌≤◌, Bool, true, false, not, ◌&&◌, ◌||◌, List, [], ◌∷◌, length, drop, map, filter, if◌then◌else◌, nat_eq, nat_lt, IsTrue, IsFalse, Option, Some, None}
use Rattle.std.specs.List.{list_all}
use Rattle.histories.specs.History.{before, is_raised, one_if}
use Rattle.memory_runs.specs.Views.{System, Run}
use Rattle.memory_runs.specs.Commands.{shows, transfer_at, agent_accepts, stood_before}
use Rattle.memory_runs.specs.Legal.{IsLegalHost, host_accepts, given, gives_word, unanswered}
use Rattle.memory_runs.specs.Order.{Asked, place_of, is_agent, is_joined, taken, beats_taken, is_read_beat, words_given_in}
use Rattle.memory_runs.specs.Awake.{is_place, owes, longest_wait}
use Rattle.memory_machines.specs.Link.{Port, Marked, takes, taken_at, shown_at, marked_at, words_at, words_owed, operations_among, AreLegalAt, AnswersAreOwed}
use Rattle.memory_machines.specs.Lines.{TaggedPort, target_of, asked_among, AreTaggedInOrder}
use Rattle.memory_machines.specs.Rank.{is_owed}
use Rattle.memory_machines.specs.PartRanks.{AgentRankFalls}
use Rattle.memory_machines.specs.Turns.{TakesTurnsByRule, seats_of}
use Rattle.memory_parts.specs.Host.{ReadsWords}

-- ---- next to a host

abbrev pub given_before : System → Run → ℕ → ℕ → ℕ
given_before system run host c = length (given (system.host host) (run.at_host host) c)

-- fewer than 16 reads were under way at the end of the cycle before
abbrev pub has_room : System → Run → ℕ → ℕ → Bool
has_room system run host c =
    nat_lt
    (unanswered (system.host host).shape (run.at_host host).signals (host_accepts (run.at_host host))
    (given_before system run host c) c) 16

-- a read was taken below, and as the cycle begins not all its words have come
abbrev pub is_gone : Port → ℕ → Bool
is_gone down c = nat_lt (length (words_at down c)) (words_owed down c)

-- the gate for reads: with readdatavalid fewer than 16 are under way, without it none is
abbrev pub may_read : System → Run → ℕ → Port → ℕ → Bool
may_read system run host down c =
    if (system.host host).has_readdatavalid then has_room system run host c else not (is_gone down c)

-- a beat is accepted where it is taken below, but a read of a host without readdatavalid where its word comes
abbrev pub passes_on : System → Run → ℕ → Port → ℕ → Bool
passes_on system run host down c =
    if is_raised ((run.at_host host).write c) || (system.host host).has_readdatavalid then takes down c
    else is_raised (down.answers.valid c)

pub record IsHostPart (system : System) (run : Run) (host : ℕ) (down : Port) (end : ℕ) : Type 0 where
  pub legal : IsLegalHost (system.host host) (run.at_host host) end
  pub one_word : ReadsWords (system.host host) (run.at_host host) end
  pub bytes : down.shape.word_bytes ≡ (system.host host).word_bytes
  pub shown : (c : ℕ) → c < end
      → shows down.commands.signals c
      ≡ (shows (run.at_host host).signals c && (is_raised ((run.at_host host).write c) || may_read system run host down c))
  pub accepts : (c : ℕ) → c < end → host_accepts (run.at_host host) c ≡ passes_on system run host down c
  pub same : (c : ℕ) → c < end → IsTrue (shows down.commands.signals c)
      → (marked_at down c).transfer
      ≡ transfer_at (system.host host).shape (run.at_host host).signals (host_accepts (run.at_host host)) c
  pub level : (c : ℕ) → c < end → IsTrue (shows down.commands.signals c)
      → is_raised (down.commands.write c) ≡ is_raised ((run.at_host host).write c)
  pub more : (c : ℕ) → c < end → IsTrue (shows down.commands.signals c)
      → (marked_at down c).more ≡ not (marked_at down c).transfer.ends
  pub gives : (c : ℕ) → c < end → gives_word (system.host host) (run.at_host host) c ≡ is_raised (down.answers.valid c)
  -- what is given to it
  pub owed : AnswersAreOwed down end

-- ---- the route

-- the words that are owed above the route as a cycle begins, with their places
abbrev pub owed_places : System → ℕ → Port → ℕ → List Asked
owed_places system host up c =
    drop (length (words_at up c)) (asked_among system host (map (λ (m : Marked). m.transfer) (taken_at up c)))

abbrev pub place_shown : System → ℕ → Port → ℕ → Option ℕ
place_shown system host up c = place_of system host (marked_at up c).transfer

-- the gate: a write goes on; a read where no word is owed by another place, as the cycle begins
abbrev pub is_open : System → ℕ → Port → Option ℕ → ℕ → Bool
is_open system host up place c =
    is_raised (up.commands.write c) || list_all (λ q. is_place place q.place) (owed_places system host up c)

-- the word that comes in a cycle is that of the place that owes the next one. The default agent gives one in each cycle in which
-- it owes one
abbrev pub comes_from : (ℕ → Port) → ℕ → Option ℕ → Bool
comes_from down c None = true
comes_from down c (Some a) = is_raised ((down a).answers.valid c)

abbrev pub comes : (ℕ → Port) → ℕ → List Asked → Bool
comes down c [] = false
comes down c (q ∷ later) = comes_from down c q.place

pub record IsRoutePart (system : System) (host : ℕ) (up : Port) (down : ℕ → Port) (end : ℕ) : Type 0 where
  pub places : (c a : ℕ) → c < end → IsTrue (shows up.commands.signals c) → place_shown system host up c ≡ Some a
      → a < system.agents
  pub shape : (a : ℕ) → a < system.agents → (down a).shape ≡ up.shape
  pub shown : (a c : ℕ) → a < system.agents → c < end
      → shows (down a).commands.signals c
      ≡ (shows up.commands.signals c && is_agent a (place_shown system host up c) && is_open system host up (Some a) c)
  pub accepts : (a c : ℕ) → a < system.agents → c < end → IsTrue (is_agent a (place_shown system host up c))
      → takes up c ≡ takes (down a) c
  pub default : (c : ℕ) → c < end → place_shown system host up c ≡ None
      → takes up c ≡ (shows up.commands.signals c && is_open system host up None c)
  pub same : (a c : ℕ) → a < system.agents → c < end → IsTrue (shows (down a).commands.signals c)
      → (marked_at (down a) c).transfer ≡ (marked_at up c).transfer
  pub level : (a c : ℕ) → a < system.agents → c < end → IsTrue (shows (down a).commands.signals c)
      → is_raised ((down a).commands.write c) ≡ is_raised (up.commands.write c)
  pub more : (a c : ℕ) → a < system.agents → c < end → IsTrue (shows (down a).commands.signals c)
      → (marked_at (down a) c).more ≡ (marked_at up c).more
  pub words : (c : ℕ) → c < end → is_raised (up.answers.valid c) ≡ comes down c (owed_places system host up c)
  -- what is given to it
  pub owed : (a : ℕ) → a < system.agents → AnswersAreOwed (down a) end
  pub legal : (a : ℕ) → a < system.agents → AreLegalAt (down a) end

-- ---- the arbiter: wired through

-- ports past the last host show nothing
abbrev pub AreSilentPast : ℕ → (ℕ → Port) → ℕ → Type 0
AreSilentPast hosts up end = (h c : ℕ) → hosts ≤ h → c < end → IsFalse (shows (up h).commands.signals c)

pub record IsArbiterPart (system : System) (agent : ℕ) (up : ℕ → Port) (down : TaggedPort) (end : ℕ) : Type 0 where
  -- what is asked of the askers
  pub legal : (h : ℕ) → h < system.hosts → AreLegalAt (up h) end
  pub joined : (h c : ℕ) → c < end → IsTrue (shows (up h).commands.signals c)
      → (h < system.hosts) × IsTrue (is_joined system agent h)
  pub own_tag : (h c : ℕ) → c < end → IsTrue (shows (up h).commands.signals c) → (up h).commands.tag c ≡ h
  -- what it gives
  pub turns : TakesTurnsByRule (seats_of system agent) up down.port end
  pub tagged : (h c : ℕ) → h < system.hosts → c < end → IsTrue (takes (up h) c) → down.commands.tag c ≡ h
  pub taken : (h c : ℕ) → h < system.hosts → c < end → down.commands.tag c ≡ h → takes (up h) c ≡ takes down.port c
  pub same : (h c : ℕ) → h < system.hosts → c < end → down.commands.tag c ≡ h → IsTrue (takes down.port c)
      → marked_at (up h) c ≡ marked_at down.port c
  pub words : (h c : ℕ) → h < system.hosts → c < end
      → is_raised ((up h).answers.valid c) ≡ (is_raised (down.answers.valid c) && nat_eq (down.answer_tag c) h)
  pub in_order : AreTaggedInOrder down end

-- ---- next to the agent

-- the words that an agent has given before a cycle
abbrev pub words_from_agent : System → Run → ℕ → ℕ → ℕ
words_from_agent system run agent c = length (before (words_given_in system run agent) c)

pub record IsAgentPart (system : System) (run : Run) (agent : ℕ) (up : TaggedPort) (rank : ℕ → ℕ) (largest end : ℕ) : Type 0 where
  pub legal : AreLegalAt up.port end
  pub falls : AgentRankFalls system run agent up rank largest end
  -- nothing is kept: it accepts exactly when the agent does
  pub accepted : (c : ℕ) → c < end → takes up.port c ≡ agent_accepts (system.agent agent) (run.at_agent agent) c
  -- where a word is owed above by the end of a cycle, an operation is untaken, or the agent accepts in this cycle (at latency 0
  -- the word goes up one cycle later), or the agent owes one
  pub words : (c : ℕ) → c < end → IsTrue (is_owed up.port c) →
      IsTrue
      (nat_lt (length (taken system run agent (suc c)))
      (length (operations_among (target_of system agent) up.shape (shown_at up.port (suc c))))
      || agent_accepts (system.agent agent) (run.at_agent agent) c || owes system run agent c)
  -- a word goes up in its cycle, or in the next where the agent accepts in its cycle; and the agent gives none that isn't asked
  pub given : (c : ℕ) → c ≤ end → length (words_at up.port c) ≤ words_from_agent system run agent c
  pub come : (c : ℕ) → c < end → IsFalse (agent_accepts (system.agent agent) (run.at_agent agent) c)
      → words_from_agent system run agent (suc c) ≤ length (words_at up.port (suc c))
  pub asked : (c : ℕ) → c < end
      → words_from_agent system run agent c ≤ length (filter is_read_beat (beats_taken system run agent c))

-- the rank of the part next to an agent: the wait states that the beat hasn't stood, and 1 while the agent owes a word as the
-- cycle begins, since the gate on reads is a register
abbrev pub agent_rank : System → Run → ℕ → ℕ → ℕ
agent_rank system run agent c =
    (longest_wait (system.agent agent) - stood_before (system.agent agent) (run.at_agent agent) c)
    + one_if (nat_lt (words_from_agent system run agent c) (length (filter is_read_beat (beats_taken system run agent c))))

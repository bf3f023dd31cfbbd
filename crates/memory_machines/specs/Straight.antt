-- Commands that go straight through a part, and first beats that are shown promptly.
use Rattle.std.specs.Prelude.{◌≡◌, ℕ, suc, ◌+◌, ◌-◌, ◌*◌, ◌<◌, ◌≤◌, Bool, not, ◌&&◌, ◌||◌, List, [], ◌∷◌, ◌++◌, length, map, take, drop, if◌then◌else◌, nat_eq, nat_lt, nat_le, IsTrue, Some, filter, flat_map, slice_get, fold}
use Rattle.std.specs.List.{list_any, list_all}
use Rattle.histories.specs.History.{one_if, is_raised, numbers, standing}
use Rattle.memory_runs.specs.Views.{Shape, HostSide, HostView, System, Run}
use Rattle.memory_runs.specs.Operations.{Beat, filled_lanes, is_enabled, own_operations, piece_bytes}
use Rattle.memory_runs.specs.Commands.{shows, agent_accepts, is_of_reads, transfer_at, words_before}
use Rattle.memory_runs.specs.Legal.{gives_word, unanswered}
use Rattle.memory_runs.specs.Order.{Asked, is_agent, place_of, transfer_operations}
use Rattle.memory_machines.specs.Link.{Target, Port, Marked, takes, marked_at, shown_at, taken_at, closes, is_nonempty, is_last_joined, operations_in, operations_among, read_beats, words_at}
use Rattle.memory_machines.specs.Lines.{asked_among, target_of, TaggedPort}

-- what was presented before the command that a side shows in a cycle
abbrev pub earlier_shown : Port → ℕ → List Marked
earlier_shown port cycle = take (length (shown_at port (suc cycle)) - 1) (shown_at port (suc cycle))

abbrev pub has_lane : Shape → Marked → Bool
has_lane shape marked =
    list_any (λ (b : Beat). list_any (is_enabled b.enables) (numbers 0 shape.word_bytes)) marked.transfer.beats

-- a command by itself: `more` doesn't join it to the one before it
abbrev pub begins_alone : List Marked → Marked → Bool
begins_alone earlier marked = marked.transfer.begins && not (is_last_joined earlier)

-- a plain command: one beat, an enabled lane, and joined to no other
abbrev pub is_plain : Shape → List Marked → Marked → Bool
is_plain shape earlier marked =
    begins_alone earlier marked && closes marked && nat_eq (length marked.transfer.beats) 1 && has_lane shape marked

-- a plain command is shown in this cycle
abbrev pub shows_plain : Port → ℕ → Bool
shows_plain port c = shows port.commands.signals c && is_plain port.shape (earlier_shown port c) (marked_at port c)

-- as the cycle begins, all words of these commands are answered
abbrev pub are_answered : Port → List Marked → ℕ → Bool
are_answered port earlier c = nat_le (length (read_beats earlier)) (length (words_at port c))

-- as the cycle begins, these commands and no others are taken below, and no beat without an operation is left standing there
abbrev pub are_just_taken : Target → Port → Port → List Marked → ℕ → Bool
are_just_taken target up down earlier c =
    nat_eq (length (operations_among target down.shape (taken_at down c))) (length (operations_among target up.shape earlier))
    && list_all (λ m. is_nonempty (operations_in target down.shape m))
    (standing (shows down.commands.signals) (takes down) (marked_at down) c)

-- as the cycle begins, these commands are wholly taken below
abbrev pub are_taken_below : Target → Port → Port → List Marked → ℕ → Bool
are_taken_below target up down earlier c =
    nat_le (length (operations_among target up.shape earlier)) (length (operations_among target down.shape (taken_at down c)))

-- ---- a link

-- a plain command at equal words goes through in the cycle in which it is shown. Its earlier commands are taken, and answered but
-- where `ahead` lifts this
pub record GoesStraightThrough (ahead : ℕ → Bool) (target : Target) (up down : Port) (end : ℕ) : Type 0 where
  pub shown : (c : ℕ) → c < end → up.shape.word_bytes ≡ down.shape.word_bytes → IsTrue (shows_plain up c) →
      IsTrue (are_just_taken target up down (earlier_shown up c) c && (ahead c || are_answered up (earlier_shown up c) c)) →
      IsTrue (shows down.commands.signals c)
      × (operations_in target down.shape (marked_at down c) ≡ operations_in target up.shape (marked_at up c))
  pub accepted : (c : ℕ) → c < end → up.shape.word_bytes ≡ down.shape.word_bytes → IsTrue (shows_plain up c) →
      IsTrue (are_just_taken target up down (earlier_shown up c) c && (ahead c || are_answered up (earlier_shown up c) c)) →
      takes up c ≡ takes down c
  -- whatever waits: it isn't accepted above before it is taken below
  pub kept : (c : ℕ) → c < end → up.shape.word_bytes ≡ down.shape.word_bytes → IsTrue (shows_plain up c) → IsTrue (takes up c) →
      IsTrue (are_taken_below target up down (taken_at up (suc c)) (suc c))

-- an operation of the beat lies in the first word of the lower size that it covers
abbrev pub has_first_lane : Target → Shape → Shape → Marked → Bool
has_first_lane target up down marked =
    list_any (λ (b : Beat). list_any (λ lane. nat_lt lane (piece_bytes up down)) (filled_lanes up target.shape b.enables))
    (take 1 marked.transfer.beats)

-- a read, a write of one beat, or, where the host has no byte enables or the agent has them, a write burst
abbrev pub may_be_prompt : Bool → Marked → Bool
may_be_prompt may_burst marked = is_of_reads marked.transfer.kind || closes marked || may_burst

-- by the end of the cycle a beat with an operation of a later command has been shown below
abbrev pub shows_after : Target → Port → Port → List Marked → ℕ → Bool
shows_after target up down earlier c =
    nat_lt (length (operations_among target up.shape earlier))
    (length (operations_among target down.shape (shown_at down (suc c))))

-- the beats of the last joined command of these
abbrev pub last_command : List Marked → List Marked
last_command transfers =
    fold (λ command m. if list_all (λ n. not (closes n)) command then command ++ m ∷ [] else m ∷ []) [] transfers

-- a joined write without an enabled lane has its last beat accepted in this cycle
abbrev pub accepts_empty_write : Port → ℕ → Bool
accepts_empty_write port c =
    takes port c && closes (marked_at port c)
    && list_all (λ m. not (is_of_reads m.transfer.kind) && not (has_lane port.shape m)) (last_command (taken_at port (suc c)))

-- a write beat without an operation is shown
abbrev pub shows_empty_write : Target → Port → ℕ → Bool
shows_empty_write target port c =
    shows port.commands.signals c && not (is_of_reads (marked_at port c).transfer.kind)
    && not (is_nonempty (operations_in target port.shape (marked_at port c)))

-- `few`: cycles, 0 where a command is shown in its own cycle
pub record IsShownPromptly (few : ℕ) (may_burst : Bool) (target : Target) (up down : Port) (end : ℕ) : Type 0 where
  -- a command that begins in an enabled lane, once all earlier ones are taken and answered, is shown within a few cycles,
  -- whatever waits below
  pub shown : (c number : ℕ) (m : Marked) → c + few < end → slice_get (shown_at up (suc c)) number ≡ Some m →
      IsTrue
      (begins_alone (take number (shown_at up (suc c))) m && may_be_prompt may_burst m
      && has_first_lane target up.shape down.shape m) →
      IsTrue
      (are_taken_below target up down (take number (shown_at up (suc c))) c
      && are_answered up (take number (shown_at up (suc c))) c) →
      IsTrue (shows_after target up down (take number (shown_at up (suc c))) (c + few))
  -- of a write without an enabled lane no beat is left to be taken once its last one is accepted, until another command is
  -- presented
  pub empty : (c d : ℕ) → c ≤ d → d < end → IsTrue (accepts_empty_write up c)
      → length (shown_at up (suc d)) ≡ length (shown_at up (suc c)) →
      IsTrue (shows_empty_write target down d) → (d ≡ c) × IsTrue (takes down c)

-- ---- mm_host: its upper side is the host's port

-- a host's port as the side of a link: `more` joins the beats of a burst
abbrev pub port_of_host : HostSide → HostView → ℕ → Port
port_of_host side view host = record {
  shape = side.shape;
  commands = record {
    signals = view.signals;
    more =
        λ c. one_if
        (not (transfer_at side.shape view.signals (λ k. shows view.signals k && not (is_raised (view.waitrequest k))) c).ends);
    tag = λ c. host;
    waitrequest = view.waitrequest;
  };
  answers = record { valid = λ c. one_if (gives_word side view c); word = view.readdata; code = view.response };
}

-- fewer than 16 reads were under way at the end of the cycle before
abbrev pub has_room_for_reads : Port → ℕ → Bool
has_room_for_reads port c =
    nat_lt (unanswered port.shape port.commands.signals (takes port) (length (words_at port c)) c) 16

-- as the cycle begins, these are all that was taken below
abbrev pub are_all_taken : Port → List Marked → ℕ → Bool
are_all_taken down earlier c = nat_eq (length (taken_at down c)) (length earlier)

abbrev pub host_may_go_on : Port → Port → ℕ → Bool
host_may_go_on up down c =
    are_all_taken down (earlier_shown up c) c && (has_room_for_reads up c || are_answered up (earlier_shown up c) c)

-- the acceptance of a read at a host without readdatavalid is that of its word
pub record HostGoesStraightThrough (side : HostSide) (view : HostView) (host : ℕ) (down : Port) (end : ℕ) : Type 0 where
  pub shown : (c : ℕ) → c < end → IsTrue (shows_plain (port_of_host side view host) c)
      → IsTrue (host_may_go_on (port_of_host side view host) down c) →
      IsTrue (shows down.commands.signals c)
      × ((marked_at down c).transfer ≡ (marked_at (port_of_host side view host) c).transfer)
  pub accepted : (c : ℕ) → c < end → IsTrue (shows_plain (port_of_host side view host) c)
      → IsTrue (host_may_go_on (port_of_host side view host) down c) →
      IsTrue (side.has_readdatavalid || is_raised (view.write c)) → takes (port_of_host side view host) c ≡ takes down c

pub record HostIsPrompt (few : ℕ) (side : HostSide) (view : HostView) (host : ℕ) (down : Port) (end : ℕ) : Type 0 where
  pub shown : (c number : ℕ) (m : Marked) → c + few < end
      → slice_get (shown_at (port_of_host side view host) (suc c)) number ≡ Some m →
      IsTrue (m.transfer.begins) → number ≤ length (taken_at down c) →
      IsTrue (are_answered (port_of_host side view host) (take number (shown_at (port_of_host side view host) (suc c))) c) →
      number < length (shown_at down (suc (c + few)))
  pub empty : (c : ℕ) → c < end → IsTrue (accepts_empty_write (port_of_host side view host) c) →
      length (taken_at down (suc c)) ≡ length (taken_at (port_of_host side view host) (suc c))

-- ---- mm_route: one upper side, and a lower side for each agent

abbrev pub operations_for : System → ℕ → ℕ → List Marked → ℕ
operations_for system host agent transfers =
    length
    (flat_map (λ m. transfer_operations system host agent m.transfer)
    (filter (λ m. is_agent agent (place_of system host m.transfer)) transfers))

-- as the cycle begins, these commands are wholly taken, each at its agent, and no beat without an operation is left standing at
-- `agent`
abbrev pub are_routed : System → ℕ → ℕ → (ℕ → Port) → List Marked → ℕ → Bool
are_routed system host agent down earlier c =
    list_all (λ a. nat_le (operations_for system host a earlier)
    (length (operations_among (target_of system a) (down a).shape (taken_at (down a) c))))
    (numbers 0 system.agents)
    && nat_eq (length (operations_among (target_of system agent) (down agent).shape (taken_at (down agent) c)))
    (operations_for system host agent earlier)
    && list_all (λ m. is_nonempty (operations_in (target_of system agent) (down agent).shape m))
    (standing (shows (down agent).commands.signals) (takes (down agent)) (marked_at (down agent)) c)

-- all words that are owed are owed by one agent
abbrev pub owes_alone : System → ℕ → ℕ → Port → List Marked → ℕ → Bool
owes_alone system host agent up earlier c =
    list_all (λ (q : Asked). is_agent agent q.place)
    (drop (length (words_at up c)) (asked_among system host (map (λ (m : Marked). m.transfer) earlier)))

abbrev pub route_may_go_on : System → ℕ → ℕ → Port → (ℕ → Port) → ℕ → Bool
route_may_go_on system host agent up down c =
    shows_plain up c && is_agent agent (place_of system host (marked_at up c).transfer)
    && are_routed system host agent down (earlier_shown up c) c
    && (owes_alone system host agent up (earlier_shown up c) c || are_answered up (earlier_shown up c) c)

pub record RouteGoesStraightThrough (system : System) (host agent : ℕ) (up : Port) (down : ℕ → Port) (end : ℕ) : Type 0 where
  pub shown : (c : ℕ) → c < end → IsTrue (route_may_go_on system host agent up down c) →
      IsTrue (shows (down agent).commands.signals c)
      × (operations_in (target_of system agent) (down agent).shape (marked_at (down agent) c)
      ≡ transfer_operations system host agent (marked_at up c).transfer)
  pub accepted : (c : ℕ) → c < end → IsTrue (route_may_go_on system host agent up down c) → takes up c ≡ takes (down agent) c

-- the route's words are the host's, so a command of any kind is prompt, write bursts aside where the agent lacks the host's byte
-- enables
abbrev pub may_burst_to : System → ℕ → ℕ → Bool
may_burst_to system host agent = not (system.host host).has_enables || (system.agent agent).has_enables

pub record RouteIsPrompt (few : ℕ) (system : System) (host agent : ℕ) (up : Port) (down : ℕ → Port) (end : ℕ) : Type 0 where
  pub shown : (c number : ℕ) (m : Marked) → c + few < end → slice_get (shown_at up (suc c)) number ≡ Some m
      → IsTrue (is_agent agent (place_of system host m.transfer)) →
      IsTrue
      (begins_alone (take number (shown_at up (suc c))) m && may_be_prompt (may_burst_to system host agent) m
      && has_lane up.shape (record m { transfer = record m.transfer { beats = take 1 m.transfer.beats } })) →
      IsTrue
      (list_all (λ a. nat_le (operations_for system host a (take number (shown_at up (suc c))))
      (length (operations_among (target_of system a) (down a).shape (taken_at (down a) c))))
      (numbers 0 system.agents)
      && are_answered up (take number (shown_at up (suc c))) c) →
      operations_for system host agent (take number (shown_at up (suc c)))
      < length (operations_among (target_of system agent) (down agent).shape (shown_at (down agent) (suc (c + few))))
  pub empty : (c d : ℕ) → c ≤ d → d < end → IsTrue (accepts_empty_write up c)
      → length (shown_at up (suc d)) ≡ length (shown_at up (suc c)) →
      IsTrue (is_agent agent (place_of system host (marked_at up c).transfer)) →
      IsTrue (shows_empty_write (target_of system agent) (down agent) d) → (d ≡ c) × IsTrue (takes (down agent) c)

-- ---- Pipe and mm_agent

-- in any `2·stages + 1` cycles throughout which some presented beat isn't taken below, a beat is shown below, whatever answers
-- are owed or come
abbrev pub KeepsShowing : ℕ → Port → Port → ℕ → Type 0
KeepsShowing stages up down end =
    (c : ℕ) → c + 2 * stages < end
    → ((d : ℕ) → c ≤ d → d ≤ c + 2 * stages → length (taken_at down d) < length (shown_at up (suc d))) →
    (d : ℕ) × (c ≤ d) × (d ≤ c + 2 * stages) × IsTrue (shows down.commands.signals d)

-- the unanswered reads of an agent were fewer than its bound at the end of the cycle before
abbrev pub has_room_at_agent : System → Run → ℕ → ℕ → Bool
has_room_at_agent system run agent c =
    let side = system.agent agent in
    let view = run.at_agent agent in
    nat_lt (unanswered side.shape view.signals (agent_accepts side view) (words_before view.readdatavalid c) c) side.pending

-- before an agent with readdatavalid the command that is asked for is shown in each cycle in which it is a write, or the agent
-- has room for a read
pub record ShowsWhatItIsAsked (system : System) (run : Run) (agent : ℕ) (up : TaggedPort) (end : ℕ) : Type 0 where
  pub shown : (c : ℕ) → c < end → IsTrue (system.agent agent).has_readdatavalid →
      IsTrue
      (shows up.commands.signals c
      && (not (is_of_reads (marked_at up.port c).transfer.kind) || has_room_at_agent system run agent c)) →
      IsTrue (shows (run.at_agent agent).signals c)
      × (flat_map (own_operations (system.agent agent).shape (system.agent agent).span)
      (transfer_at (system.agent agent).shape (run.at_agent agent).signals
      (agent_accepts (system.agent agent) (run.at_agent agent)) c).beats
      ≡ operations_in (target_of system agent) up.shape (marked_at up.port c))

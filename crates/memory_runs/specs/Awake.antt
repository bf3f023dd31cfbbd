-- Service within a window, fairness, and packed reads.
use Rattle.std.specs.Prelude.{◌≡◌, ℕ, suc, ◌+◌, ◌-◌, ◌*◌, ◌<◌, ◌≤◌, Bool, true, false, not, ◌&&◌, ◌||◌, List, [], ◌∷◌, length, map, take, drop, if◌then◌else◌, nat_eq, nat_le, nat_lt, max, IsTrue, IsFalse, Option, Some, None, filter, flat_map, zip, sum, slice_index}
use Rattle.std.specs.List.{list_any, list_all}
use Rattle.histories.specs.History.{before, is_raised, numbers}
use Rattle.memory_runs.specs.Views.{HostSide, AgentSide, System, Run}
use Rattle.memory_runs.specs.Views.Kind.{Writes}
use Rattle.memory_runs.specs.Operations.{filled_of_piece}
use Rattle.memory_runs.specs.Commands.{Transfer, shows, agent_accepts, transfer_at, burst_before, accepted, read_beats, is_of_reads, words_before}
use Rattle.memory_runs.specs.Legal.{host_accepts, given, gives_word, is_under_way, unanswered}
use Rattle.memory_runs.specs.Order.{Owner, asked, place_of, is_agent, host_transfers, for_agent, transfer_operations, issued, taken, of_host, beats_taken, words_given_in, is_read_beat, owners_taken, is_same_owner, command_numbers}

-- two places are one
abbrev pub is_place : Option ℕ → Option ℕ → Bool
is_place None None = true
is_place None (Some agent) = false
is_place (Some agent) other = is_agent agent other

-- the transfers of the commands up to a number
abbrev pub up_to : ℕ → List Transfer → List Transfer
up_to number transfers = map (λ p. p.1) (filter (λ p. nat_le p.0 number) (zip (command_numbers 0 transfers) transfers))

-- those of one command
abbrev pub of_command : ℕ → List Transfer → List Transfer
of_command number transfers = map (λ p. p.1) (filter (λ p. nat_eq p.0 number) (zip (command_numbers 0 transfers) transfers))

-- how many commands a host has presented before a cycle
abbrev pub commands_begun : System → Run → ℕ → ℕ → ℕ
commands_begun system run host cycle = length (filter (λ t. t.begins) (host_transfers system run host cycle))

-- a presented command goes to a place
abbrev pub is_for : System → Run → ℕ → Option ℕ → ℕ → ℕ → Bool
is_for system run host place number cycle =
    list_any (λ t. is_place place (place_of system host t)) (of_command number (host_transfers system run host cycle))

-- `own` members of a row of `all` so far, the last of which are these, are among the first `reached`
abbrev pub are_reached : ℕ → ℕ → ℕ → Bool
are_reached own all reached = nat_eq own 0 || nat_le all reached

abbrev pub count_for : System → ℕ → ℕ → List Transfer → ℕ
count_for system host agent transfers =
    length (flat_map (transfer_operations system host agent) (for_agent system host agent transfers))

-- the operations of a command at an agent are taken
abbrev pub are_taken : System → Run → ℕ → ℕ → ℕ → ℕ → Bool
are_taken system run host number cycle agent =
    let presented = host_transfers system run host (suc cycle) in
    are_reached (count_for system host agent (of_command number presented)) (count_for system host agent (up_to number presented))
    (length (of_host host (taken system run agent cycle)))

-- the words of a command are given
abbrev pub are_given : System → Run → ℕ → ℕ → ℕ → Bool
are_given system run host number cycle =
    let presented = host_transfers system run host (suc cycle) in
    are_reached (length (read_beats (of_command number presented))) (length (read_beats (up_to number presented)))
    (length (given (system.host host) (run.at_host host) cycle))

-- by the cycles before this one all beats of a command are accepted, all its operations taken and all its words given
abbrev pub is_finished : System → Run → ℕ → ℕ → ℕ → Bool
is_finished system run host number cycle =
    nat_le number
    (length
    (filter (λ t. t.ends)
    (accepted (system.host host).shape (run.at_host host).signals (host_accepts (run.at_host host)) cycle)))
    && list_all (are_taken system run host number cycle) (numbers 0 system.agents)
    && are_given system run host number cycle

-- presented by the end of this cycle, and not finished before it
abbrev pub is_unfinished : System → Run → ℕ → ℕ → ℕ → Bool
is_unfinished system run host number cycle =
    nat_le 1 number && nat_le number (commands_begun system run host (suc cycle))
    && not (is_finished system run host number cycle)

-- all commands of a host before this one are finished
abbrev pub are_finished_before : System → Run → ℕ → ℕ → ℕ → Bool
are_finished_before system run host number cycle =
    list_all (λ earlier. is_finished system run host earlier cycle) (numbers 1 (number - 1))

abbrev pub is_oldest : System → Run → ℕ → ℕ → ℕ → Bool
is_oldest system run host number cycle =
    is_unfinished system run host number cycle && are_finished_before system run host number cycle

-- a host with a write burst for a place under way shows a beat
abbrev pub shows_its_burst : System → Run → Option ℕ → ℕ → ℕ → Bool
shows_its_burst system run place cycle host =
    let shape = (system.host host).shape in
    let view = run.at_host host in
    not (is_under_way shape view.signals (host_accepts view) cycle
    && is_place place (system.place host Writes (burst_before shape view.signals (host_accepts view) cycle).first))
    || shows view.signals cycle

-- read beats that an agent has accepted and not answered by the end of a cycle
abbrev pub owes : System → Run → ℕ → ℕ → Bool
owes system run agent cycle =
    nat_lt (length (before (words_given_in system run agent) (suc cycle)))
    (length (filter is_read_beat (beats_taken system run agent (suc cycle))))

-- a host is given a word of a read for a place
abbrev pub is_given_from : System → Run → Option ℕ → ℕ → ℕ → Bool
is_given_from system run place cycle host =
    gives_word (system.host host) (run.at_host host) cycle
    && list_any (λ q. is_place place q.place)
    (take 1 (drop (length (given (system.host host) (run.at_host host) cycle)) (asked system run host (suc cycle))))

-- a write beat for a place is accepted from a host
abbrev pub is_written_to : System → Run → Option ℕ → ℕ → ℕ → Bool
is_written_to system run place cycle host =
    host_accepts (run.at_host host) cycle && is_raised ((run.at_host host).write cycle)
    && is_place place
    (place_of system host
    (transfer_at (system.host host).shape (run.at_host host).signals (host_accepts (run.at_host host)) cycle))

-- the larger wait time of an agent without waitrequest
abbrev pub longest_wait : AgentSide → ℕ
longest_wait side = if side.has_waitrequest then 0 else max side.read_wait side.write_wait

-- the number of cycles within which a wanted agent is served: generous, so that ranks that add up over the parts fit in it
abbrev pub window_of : System → ℕ → ℕ
window_of system wait = 64 * (4 + system.stages) + 2 * wait

abbrev pub agent_window : System → ℕ → ℕ
agent_window system agent = window_of system (longest_wait (system.agent agent))

-- in each cycle of a window
abbrev pub Throughout : ℕ → ℕ → (ℕ → Type 0) → Type 0
Throughout from size Holds = (c : ℕ) → from ≤ c → c < from + size → Holds c

-- in some cycle of it
abbrev pub Sometime : ℕ → ℕ → (ℕ → Type 0) → Type 0
Sometime from size Holds = (c : ℕ) × (from ≤ c) × (c < from + size) × Holds c

-- nothing but the module can keep the agent idle in this cycle
pub record IsWanted (system : System) (run : Run) (agent host number cycle : ℕ) : Type 0 where
  pub oldest : IsTrue (is_oldest system run host number cycle)
  pub for_agent : IsTrue (is_for system run host (Some agent) number (suc cycle))
  pub ready : IsFalse (is_raised ((run.at_agent agent).waitrequest cycle))
  pub answered : IsFalse (owes system run agent cycle)
  pub bursts : IsTrue (list_all (shows_its_burst system run (Some agent) cycle) (numbers 0 system.hosts))

-- the module moves something on at an agent
abbrev pub serves : System → Run → ℕ → ℕ → Bool
serves system run agent cycle =
    agent_accepts (system.agent agent) (run.at_agent agent) cycle
    || list_any (is_given_from system run (Some agent) cycle) (numbers 0 system.hosts)
    || list_any (is_written_to system run (Some agent) cycle) (numbers 0 system.hosts)

-- a wanted agent is served within so many cycles
abbrev pub ServesWithin : ℕ → System → Run → ℕ → ℕ → Type 0
ServesWithin size system run agent end =
    (from host number : ℕ) → from + size ≤ end → host < system.hosts →
    Throughout from size (IsWanted system run agent host number) →
    Sometime from size (λ c. IsTrue (serves system run agent c))

-- the default agent is wanted, by the host of the command alone
abbrev pub is_wanted_at_default : System → Run → ℕ → ℕ → ℕ → Bool
is_wanted_at_default system run host number cycle =
    is_oldest system run host number cycle && is_for system run host None number (suc cycle)
    && shows_its_burst system run None cycle host

abbrev pub ServesDefaultWithin : ℕ → System → Run → ℕ → Type 0
ServesDefaultWithin size system run end =
    (from host number : ℕ) → from + size ≤ end → host < system.hosts →
    Throughout from size (λ c. IsTrue (is_wanted_at_default system run host number c)) →
    Sometime from size (λ c. IsTrue (is_given_from system run None c host || is_written_to system run None c host))

-- as a cycle begins, beats of a command are still to be accepted from its host
abbrev pub lacks_beats : System → Run → ℕ → ℕ → ℕ → Bool
lacks_beats system run host number cycle =
    nat_lt
    (length
    (filter (λ t. t.ends)
    (accepted (system.host host).shape (run.at_host host).signals (host_accepts (run.at_host host)) cycle))) number

-- a beat of the oldest command is accepted from its host
abbrev pub is_accepted_now : System → Run → ℕ → ℕ → ℕ → Bool
is_accepted_now system run host number cycle = host_accepts (run.at_host host) cycle && lacks_beats system run host number cycle

-- the oldest command of a host, which is for the default agent, moves on: a beat of it is accepted, or the host is given a word
-- from there while words of the command lack
abbrev pub moves_on_at_default : System → Run → ℕ → ℕ → ℕ → Bool
moves_on_at_default system run host number cycle =
    is_accepted_now system run host number cycle
    || (is_given_from system run None cycle host && not (are_given system run host number cycle))

-- within so many cycles in which the default agent is wanted for a command, that command itself moves on
abbrev pub MovesAtDefaultWithin : ℕ → System → Run → ℕ → ℕ → Type 0
MovesAtDefaultWithin size system run host end =
    (from number : ℕ) → from + size ≤ end → Throughout from size (λ c. IsTrue (is_wanted_at_default system run host number c)) →
    Sometime from size (λ c. IsTrue (moves_on_at_default system run host number c))

-- a host whose plain commands reach the agent one for one
abbrev pub is_alike : HostSide → AgentSide → Bool
is_alike host agent =
    nat_eq host.word_bytes agent.word_bytes && not host.has_burst && (not host.has_enables || agent.has_enables)

-- a command that has no operation at any agent
abbrev pub has_no_operation : System → Run → ℕ → ℕ → ℕ → Bool
has_no_operation system run host number cycle =
    list_all (λ agent. nat_eq
    (length
    (flat_map (transfer_operations system host agent)
    (for_agent system host agent (of_command number (host_transfers system run host cycle))))) 0)
    (numbers 0 system.agents)

-- no unfinished command is for another place, and none has no operation
abbrev pub asks_only : System → Run → ℕ → ℕ → ℕ → Bool
asks_only system run host agent cycle =
    list_all (λ number. not (is_unfinished system run host number cycle)
    || (is_for system run host (Some agent) number (suc cycle) && not (has_no_operation system run host number (suc cycle))))
    (numbers 1 (commands_begun system run host (suc cycle)))

pub record IsAsked (system : System) (run : Run) (agent host cycle : ℕ) : Type 0 where
  pub ready : IsFalse (is_raised ((run.at_agent agent).waitrequest cycle))
  pub room : unanswered (system.agent agent).shape (run.at_agent agent).signals
      (agent_accepts (system.agent agent) (run.at_agent agent)) (words_before (run.at_agent agent).readdatavalid cycle) cycle
      < (system.agent agent).pending
  pub untaken : length (of_host host (taken system run agent cycle)) < length (issued system run host agent (suc cycle))
  pub few : unanswered (system.host host).shape (run.at_host host).signals (host_accepts (run.at_host host))
      (length (given (system.host host) (run.at_host host) cycle)) cycle
      < 16
  pub only : IsTrue (asks_only system run host agent cycle)

-- reads travel while others are owed
abbrev pub ReadsAheadWithin : ℕ → System → Run → ℕ → ℕ → Type 0
ReadsAheadWithin size system run agent end =
    IsTrue (system.agent agent).has_readdatavalid →
    IsTrue (list_all (λ host. is_alike (system.host host) (system.agent agent)) (system.joined agent)) →
    (from host : ℕ) → from + size ≤ end → host < system.hosts →
    Throughout from size (IsAsked system run agent host) →
    Sometime from size (λ c. IsTrue (agent_accepts (system.agent agent) (run.at_agent agent) c))

-- the module never idles beyond the window while an unstalled agent, or the default agent, is wanted, and no host hangs at the
-- default agent
pub record NeverIdles (system : System) (run : Run) (end : ℕ) : Type 0 where
  pub agents : (a : ℕ) → a < system.agents → ServesWithin (agent_window system a) system run a end
  pub default : ServesDefaultWithin (window_of system 0) system run end
  pub ahead : (a : ℕ) → a < system.agents → ReadsAheadWithin (agent_window system a) system run a end
  pub hosts_at_default : (h : ℕ) → h < system.hosts → MovesAtDefaultWithin (window_of system 0) system run h end

-- each owner once, where it comes first
abbrev pub first_owners : List Owner → List Owner → List Owner
first_owners seen [] = []
first_owners seen (owner ∷ later) =
    if list_any (is_same_owner owner) seen then first_owners seen later
    else owner ∷ first_owners (owner ∷ seen) later

-- the commands that have begun at an agent before a cycle, in order
abbrev pub begun : System → Run → ℕ → ℕ → List Owner
begun system run agent cycle = first_owners [] (owners_taken system run agent cycle)

abbrev pub has_begun : System → Run → ℕ → ℕ → ℕ → ℕ → Bool
has_begun system run agent host number cycle =
    list_any (is_same_owner (record { tag = host; command = number })) (begun system run agent cycle)

-- how many commands of other hosts have begun
abbrev pub begun_by_others : System → Run → ℕ → ℕ → ℕ → ℕ
begun_by_others system run agent host cycle = length (filter (λ o. not (nat_eq o.tag host)) (begun system run agent cycle))

abbrev pub shares_of_others : System → ℕ → ℕ → ℕ
shares_of_others system agent host =
    sum (map (λ other. system.shares other agent) (filter (λ other. not (nat_eq other host)) (system.joined agent)))

abbrev pub has_first_word : System → ℕ → ℕ → Transfer → Bool
has_first_word system host agent transfer =
    list_any (λ beat. nat_lt 0 (length (filled_of_piece (system.host host).shape (system.agent agent).shape beat.enables 0)))
    (take 1 transfer.beats)

abbrev pub may_be_counted : System → ℕ → ℕ → Transfer → Bool
may_be_counted system host agent transfer =
    transfer.begins
    && (is_of_reads transfer.kind || transfer.ends || not (system.host host).has_enables || (system.agent agent).has_enables)
    && has_first_word system host agent transfer

-- a presented command that waits for its turn
pub record IsWaiting (system : System) (run : Run) (agent host number cycle : ℕ) : Type 0 where
  pub presented : IsTrue (is_for system run host (Some agent) number (suc cycle))
  pub counted : IsTrue
      (list_any (may_be_counted system host agent) (of_command number (host_transfers system run host (suc cycle))))
  pub not_begun : IsFalse (has_begun system run agent host number cycle)
  pub earlier : IsTrue (are_finished_before system run host number cycle)

-- a waiting command is passed by at most so many others
abbrev pub IsPassedByFew : ℕ → System → Run → ℕ → ℕ → Type 0
IsPassedByFew few system run agent end =
    (from later host number : ℕ) → from ≤ later → later ≤ end → host < system.hosts →
    IsWaiting system run agent host number from →
    IsFalse (has_begun system run agent host number later) →
    begun_by_others system run agent host later
    ≤ begun_by_others system run agent host from + shares_of_others system agent host + few

-- commands of one host without a break
pub record Turn : Type 0 where
  pub host : ℕ
  pub commands : ℕ

abbrev pub joined_turn : ℕ → List Turn → List Turn
joined_turn host [] = record { host = host; commands = 1 } ∷ []
joined_turn host (turn ∷ later) =
    if nat_eq turn.host host then record { host = host; commands = turn.commands + 1 } ∷ later
    else record { host = host; commands = 1 } ∷ turn ∷ later

abbrev pub turns_of : List Owner → List Turn
turns_of [] = []
turns_of (owner ∷ later) = joined_turn owner.tag (turns_of later)

-- the host after this one in the order, the first again after the last
abbrev pub next_from : ℕ → ℕ → List ℕ → ℕ
next_from first host [] = first
next_from first host (x ∷ []) = first
next_from first host (x ∷ y ∷ order) = if nat_eq x host then y else next_from first host (y ∷ order)

abbrev pub next_host : List ℕ → ℕ → ℕ
next_host order host = next_from (slice_index order 0) host order

-- a turn between others is of exactly its host's shares, and the next host in the order follows
abbrev pub HasFullTurns : System → ℕ → List Turn → Type 0
HasFullTurns system agent turns =
    (i : ℕ) → 0 < i → suc i < length turns →
    (slice_index (map (λ t. t.commands) turns) i ≡ system.shares (slice_index (map (λ t. t.host) turns) i) agent)
    × (slice_index (map (λ t. t.host) turns) (suc i) ≡ next_host (system.joined agent) (slice_index (map (λ t. t.host) turns) i))

-- a host shows a write of one beat of the agent's word, with an operation there
abbrev pub shows_plain_write : System → Run → ℕ → ℕ → ℕ → Bool
shows_plain_write system run agent cycle host =
    let view = run.at_host host in
    let shown = transfer_at (system.host host).shape view.signals (host_accepts view) cycle in
    is_raised (view.write cycle) && shown.begins && shown.ends
    && nat_eq (system.host host).word_bytes (system.agent agent).word_bytes
    && is_agent agent (place_of system host shown)
    && nat_lt 0 (length (transfer_operations system host agent shown))

-- the commands that begin in a window, without the first few
abbrev pub begun_within : System → Run → ℕ → ℕ → ℕ → List Owner
begun_within system run agent from size =
    drop (length (begun system run agent from) + (8 + 2 * system.stages)) (begun system run agent (from + size))

abbrev pub TakesTurns : System → Run → ℕ → ℕ → Type 0
TakesTurns system run agent end =
    (from size : ℕ) → from + size ≤ end →
    Throughout from size (λ c. IsTrue (list_all (shows_plain_write system run agent c) (system.joined agent))) →
    IsTrue
    (list_all (λ host. are_finished_before system run host (commands_begun system run host (suc from)) from)
    (system.joined agent)) →
    HasFullTurns system agent (turns_of (begun_within system run agent from size))

-- each waiting command is passed by few others, and hosts that write without gaps take turns by their shares
pub record IsFair (system : System) (run : Run) (end : ℕ) : Type 0 where
  pub few : (a : ℕ) → a < system.agents → IsPassedByFew (4 * system.stages + 32) system run a end
  pub turns : (a : ℕ) → a < system.agents → TakesTurns system run a end

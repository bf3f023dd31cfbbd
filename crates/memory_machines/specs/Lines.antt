-- What each part between the hosts and the agents says of its two sides. A flow is what one boundary carries from one host to one
-- agent.
use Rattle.std.specs.Prelude.{◌≡◌, ℕ, suc, ◌+◌, ◌-◌, ◌*◌, ◌<◌, ◌≤◌, Bool, true, false, not, ◌&&◌, ◌||◌, List, [], ◌∷◌, ◌++◌, length, map, take, drop, nat_eq, IsTrue, Option, Some, filter, flat_map, zip, slice_get, MatchOption, ⊤}
use Rattle.std.specs.List.{list_all}
use Rattle.histories.specs.History.{before, only_if, is_raised, unreached, total, AreWithin, IsPrefix}
use Rattle.memory_runs.specs.Views.{Shape, AgentSide, System, Run, Responses}
use Rattle.memory_runs.specs.Views.Responses.{AreZero, AreCodes}
use Rattle.memory_runs.specs.Operations.{Beat, Operation, filled_lanes, is_read, pieces}
use Rattle.memory_runs.specs.Commands.{Transfer, shows, transfer_at, agent_accepts, accepted, is_of_reads, reads_among}
use Rattle.memory_runs.specs.Legal.{host_accepts, given, gives_word, Word, IsLegalHost, IsLegalAgent, IsProperAtHost, IsProperAtAgent}
use Rattle.memory_runs.specs.Order.{beat_operations as placed_operations, Tagged, Answer, Asked, HoldsAnswers, IsDefaultWord, is_agent, place_of, transfer_operations, taken, of_host, beats_taken, answers, answers_to, is_joined, reads_for, host_transfers}
use Rattle.memory_machines.specs.Link.{Port, Target, Marked, Item, takes, shown_at, taken_at, words_owed, closes, operations_in, beat_operations, is_nonempty, read_beats, words_at, bytes_in, answers_at, AreLegalAt, AnswersAreOwed, CarriesCommands}
use Rattle.memory_machines.specs.Blocks.{Block, AreGreatest, worded, codes_of, blocks_at}
use Rattle.memory_machines.specs.Link.Item.{Acts, Ends}

-- what a write beat or a read command does at an agent, and whether the joined command ends with it
pub record Group : Type 0 where
  pub tag : ℕ
  pub operations : List Operation
  pub closes : Bool
  pub beats : ℕ

abbrev pub sizes_of : List Group → List ℕ
sizes_of groups = map (λ g. length g.operations) groups

abbrev pub operations_of_groups : List Group → List Operation
operations_of_groups groups = flat_map (λ g. g.operations) groups

abbrev pub beats_of : ℕ → List Group → ℕ
beats_of tag groups = total (map (λ g. g.beats) (filter (λ g. nat_eq g.tag tag) groups))

-- operations and ends of joined commands that had one, in order
abbrev pub items_among : Bool → List Group → List Item
items_among acted [] = []
items_among acted (g ∷ later) =
    (map (Acts g.tag) g.operations ++ only_if (g.closes && (acted || is_nonempty g.operations)) (Ends g.tag))
    ++ items_among (not g.closes && (acted || is_nonempty g.operations)) later

-- what a boundary has presented and what it has accepted before a cycle
pub record Flow : Type 0 where
  pub shown : ℕ → List Group
  pub taken : ℕ → List Group

-- the flow below carries what the flow above carries
pub record Carries (tag hold delay factor : ℕ) (up down : Flow) (end : ℕ) : Type 0 where
  pub in_order : (c : ℕ) → c ≤ end → IsPrefix (items_among false (down.shown c)) (items_among false (up.shown (c - delay)))
  pub beats : (c : ℕ) → c ≤ end → beats_of tag (down.shown c) ≤ factor * beats_of tag (up.shown c)
  pub held : (c : ℕ) → c ≤ end → unreached (sizes_of (up.taken c)) (total (sizes_of (down.taken c))) ≤ hold
  pub within : (c : ℕ) → c ≤ end → AreWithin (sizes_of (down.shown c)) (sizes_of (up.shown c))

abbrev pub group_of : Target → Shape → Marked → Group
group_of target shape marked = record {
  tag = marked.tag;
  operations = operations_in target shape marked;
  closes = closes marked;
  beats = length marked.transfer.beats;
}

abbrev pub groups_of : Target → Shape → List Marked → List Group
groups_of target shape transfers = map (group_of target shape) transfers

abbrev pub port_flow : Target → Port → Flow
port_flow target port = record {
  shown = λ c. groups_of target port.shape (shown_at port c);
  taken = λ c. groups_of target port.shape (taken_at port c);
}

abbrev pub with_tag : ℕ → List Marked → List Marked
with_tag tag transfers = filter (λ m. nat_eq m.tag tag) transfers

-- what a boundary that several hosts share carries of one of them
abbrev pub tagged_flow : ℕ → Target → Port → Flow
tagged_flow tag target port = record {
  shown = λ c. groups_of target port.shape (with_tag tag (shown_at port c));
  taken = λ c. groups_of target port.shape (with_tag tag (taken_at port c));
}

-- a transfer before the route, and whether the joined command ends with it
pub record Sent : Type 0 where
  pub transfer : Transfer
  pub closes : Bool

abbrev pub sent_by : List Transfer → List Sent
sent_by transfers = map (λ t. record { transfer = t; closes = t.ends }) transfers

abbrev pub sent_of : List Marked → List Sent
sent_of transfers = map (λ m. record { transfer = m.transfer; closes = closes m }) transfers

abbrev pub placed_group : System → ℕ → ℕ → Sent → Group
placed_group system host agent sent = record {
  tag = host;
  operations = transfer_operations system host agent sent.transfer;
  closes = sent.closes;
  beats = length sent.transfer.beats;
}

-- what goes to one agent
abbrev pub placed : System → ℕ → ℕ → List Sent → List Group
placed system host agent sent =
    map (placed_group system host agent) (filter (λ s. is_agent agent (place_of system host s.transfer)) sent)

abbrev pub host_accepted : System → Run → ℕ → ℕ → List Transfer
host_accepted system run host cycle =
    accepted (system.host host).shape (run.at_host host).signals (host_accepts (run.at_host host)) cycle

-- what a host sends to an agent, at the host's port and behind the part next to it
abbrev pub host_flow : System → Run → ℕ → ℕ → Flow
host_flow system run host agent = record {
  shown = λ c. placed system host agent (sent_by (host_transfers system run host c));
  taken = λ c. placed system host agent (sent_by (host_accepted system run host c));
}

abbrev pub placed_flow : System → ℕ → ℕ → Port → Flow
placed_flow system host agent port = record {
  shown = λ c. placed system host agent (sent_of (shown_at port c));
  taken = λ c. placed system host agent (sent_of (taken_at port c));
}

abbrev pub target_of : System → ℕ → Target
target_of system agent = record { shape = (system.agent agent).shape; span = (system.agent agent).span }

abbrev pub bytes_of : List Answer → List ℕ
bytes_of answers = map (λ a. a.byte) answers

-- ---- mm_host

pub record HostCarriesCommands (system : System) (run : Run) (host hold : ℕ) (down : Port) (end : ℕ) : Type 0 where
  pub in_order : (c : ℕ) → c ≤ end → IsPrefix (sent_of (shown_at down c)) (sent_by (host_transfers system run host c))
  pub held : (c : ℕ) → c ≤ end → length (host_accepted system run host c) ≤ length (taken_at down c) + hold
  pub legal : AreLegalAt down end

-- the codes of the words behind the part next to the host are those at its port
pub record HasHostCodes (system : System) (run : Run) (host : ℕ) (down : Port) (end : ℕ) : Type 0 where
  pub code : (c : ℕ) → c < end → IsTrue (system.host host).has_response → IsTrue (is_raised (down.answers.valid c))
      → (run.at_host host).response c ≡ down.answers.code c
  pub quiet : (c : ℕ) → c < end → IsTrue (system.host host).has_response → IsTrue (not (is_raised (down.answers.valid c)))
      → (run.at_host host).response c ≡ 0
  pub absent : (c : ℕ) → c < end → IsTrue (not (system.host host).has_response) → (run.at_host host).response c ≡ 0

abbrev pub HostResponds : Responses → System → Run → ℕ → Port → ℕ → Type 0
HostResponds AreZero system run host down end = (c : ℕ) → c < end → (run.at_host host).response c ≡ 0
HostResponds AreCodes system run host down end = HasHostCodes system run host down end

pub record HostCarriesAnswers (responses : Responses) (system : System) (run : Run) (host : ℕ) (down : Port)
    (end : ℕ) : Type 0 where
  pub gives : (c : ℕ) → c < end → gives_word (system.host host) (run.at_host host) c ≡ is_raised (down.answers.valid c)
  pub word : (c : ℕ) → c < end → IsTrue (is_raised (down.answers.valid c)) → (run.at_host host).readdata c ≡ down.answers.word c
  pub proper : IsProperAtHost (system.host host) (run.at_host host) end
  pub responds : HostResponds responses system run host down end

-- before the route `more` is high on all beats of a command but its last, and on no last one: it tells where a burst is under way
abbrev pub AreSingle : Port → ℕ → Type 0
AreSingle port end =
    (c : ℕ) → c < end → IsTrue (shows port.commands.signals c)
    → is_raised (port.commands.more c) ≡ not (transfer_at port.shape port.commands.signals (takes port) c).ends

-- the words that a side owes, those that are asked in this cycle among them, stay below a bound
abbrev pub OwesBelow : ℕ → Port → ℕ → Type 0
OwesBelow room port end = (c : ℕ) → c < end → words_owed port (suc c) < length (words_at port c) + room

-- `room`: more words than the reads of the host may owe
pub record IsHostLine (responses : Responses) (system : System) (run : Run) (host hold room : ℕ) (down : Port)
    (end : ℕ) : Type 0 where
  pub commands : (c : ℕ) → c ≤ end → IsLegalHost (system.host host) (run.at_host host) c → AnswersAreOwed down (c - 1)
      → HostCarriesCommands system run host hold down c
  pub single : (c : ℕ) → c ≤ end → IsLegalHost (system.host host) (run.at_host host) c → AnswersAreOwed down (c - 1)
      → AreSingle down c
  pub debt : (c : ℕ) → c ≤ end → IsLegalHost (system.host host) (run.at_host host) c → AnswersAreOwed down (c - 1)
      → OwesBelow room down c
  pub answers : (c : ℕ) → c ≤ end → IsLegalHost (system.host host) (run.at_host host) c → AnswersAreOwed down c
      → HostCarriesAnswers responses system run host down c

-- ---- what all parts between the route and the agent hand on

-- each beat that is shown bears one of these tags
abbrev pub BearsTags : (ℕ → Bool) → Port → ℕ → Type 0
BearsTags may port end = (c : ℕ) → c < end → IsTrue (shows port.commands.signals c) → IsTrue (may (port.commands.tag c))

-- the agent has the kind of what is shown
abbrev pub serves_at : AgentSide → Port → ℕ → Bool
serves_at side port c =
    (not (is_raised (port.commands.read c)) || side.has_read) && (not (is_raised (port.commands.write c)) || side.has_write)

abbrev pub ServesKinds : AgentSide → Port → ℕ → Type 0
ServesKinds side port end = (c : ℕ) → c < end → IsTrue (serves_at side port c)

-- a part makes no tags and no kinds of its own
pub record HandsOn (up down : Port) (end : ℕ) : Type 0 where
  pub tags : (may : ℕ → Bool) → BearsTags may up end → BearsTags may down end
  pub kinds : (side : AgentSide) → ServesKinds side up end → ServesKinds side down end

-- no beat without an operation stands before an agent without byte enables
abbrev pub HasLanes : Target → Port → ℕ → Type 0
HasLanes target port end =
    (c : ℕ) → c ≤ end →
    IsTrue
    (target.shape.has_enables
    || list_all (λ (m : Marked). list_all (λ (b : Beat). is_nonempty (beat_operations target port.shape b)) m.transfer.beats)
    (shown_at port c))

-- no beat for an agent without byte enables lacks an operation, before the route
abbrev pub HavePlacedLanes : System → ℕ → ℕ → List Sent → Type 0
HavePlacedLanes system host agent sent =
    IsTrue
    ((system.agent agent).has_enables
    || list_all (λ (s : Sent). not (is_agent agent (place_of system host s.transfer))
    || list_all (λ (b : Beat). is_nonempty (placed_operations system host agent b)) s.transfer.beats) sent)

-- ---- mm_route

abbrev pub asked_among : System → ℕ → List Transfer → List Asked
asked_among system host transfers =
    flat_map (λ t. map (λ b. record { place = place_of system host t; beat = b }) t.beats) (reads_among transfers)

-- the read beats before the route, each with its place
abbrev pub asked_at : System → ℕ → Port → ℕ → List Asked
asked_at system host port cycle = asked_among system host (map (λ m. m.transfer) (shown_at port cycle))

pub record RouteCarriesCommands (system : System) (host hold : ℕ) (up : Port) (down : ℕ → Port) (end : ℕ) : Type 0 where
  pub carries : (a : ℕ) → a < system.agents
      → Carries host hold 0 1 (placed_flow system host a up) (port_flow (target_of system a) (down a)) end
  pub legal : (a : ℕ) → a < system.agents → AreLegalAt (down a) end
  pub lanes : (a : ℕ) → a < system.agents → ((c : ℕ) → c ≤ end → HavePlacedLanes system host a (sent_of (shown_at up c)))
      → HasLanes (target_of system a) (down a) end
  pub tag : (a c : ℕ) → a < system.agents → c < end → (down a).commands.tag c ≡ host
  pub joined : (a c : ℕ) → a < system.agents → c < end → IsTrue (shows (down a).commands.signals c)
      → IsTrue (is_joined system a host)
  pub kinds : (a : ℕ) → a < system.agents → ServesKinds (system.agent a) (down a) end

-- where a read that is presented for an agent came after a read beat for another place, the word of that beat is answered
abbrev pub KeepsReadOrderAt : System → ℕ → Port → (ℕ → Port) → ℕ → Type 0
KeepsReadOrderAt system host up down end =
    (a c number : ℕ) → a < system.agents → c < end → number < length (asked_at system host up (suc c)) →
    MatchOption (slice_get (asked_at system host up (suc c)) number) ⊤ (λ q. IsTrue (not (is_agent a q.place))) →
    reads_for system host a (take number (asked_at system host up (suc c)))
    < length (filter is_read (operations_of_groups ((port_flow (target_of system a) (down a)).shown (suc c)))) →
    number < length (words_at up (suc c))

abbrev pub IsRouted : System → ℕ → Port → (ℕ → Port) → ℕ → ℕ → Word → Option Asked → Type 0
IsRouted system host up down cycle number given question =
    MatchOption question ⊥ (λ q. MatchOption q.place (IsDefaultWord (system.host host) q.beat given) (λ a.
    HoldsAnswers (filled_lanes (system.host host).shape (system.agent a).shape q.beat.enables)
    (drop (reads_for system host a (take number (asked_at system host up (suc cycle))))
    (answers_at (target_of system a) (down a) (suc cycle)))
    given))

-- the words for one place, each with the number of its answers
abbrev pub placed_block : System → ℕ → ℕ → Asked × Word → List Block
placed_block system host agent p =
    only_if (is_agent agent p.0.place)
    (record
    { size = length (filled_lanes (system.host host).shape (system.agent agent).shape p.0.beat.enables); code = p.1.code })

abbrev pub placed_blocks : System → ℕ → ℕ → Port → ℕ → List Block
placed_blocks system host agent port cycle =
    flat_map (placed_block system host agent) (zip (asked_at system host port cycle) (words_at port cycle))

-- a word of the default agent has code 3
abbrev pub HasDefaultCode : ℕ → Option Asked → Type 0
HasDefaultCode code question = MatchOption question ⊥ (λ q. MatchOption q.place (code ≡ 3) (λ _. ⊤))

-- codes are told where they are read
pub record RouteCarriesAnswers (responses : Responses) (system : System) (host : ℕ) (up : Port) (down : ℕ → Port)
    (end : ℕ) : Type 0 where
  pub answered : (c : ℕ) → c < end → IsTrue (is_raised (up.answers.valid c)) →
      IsRouted system host up down c (length (words_at up c)) (record { word = up.answers.word c; code = up.answers.code c })
      (slice_get (asked_at system host up (suc c)) (length (words_at up c)))
  pub limited : KeepsReadOrderAt system host up down end
  pub codes : responses ≡ AreCodes → (a c : ℕ) → a < system.agents → c ≤ end
      → IsPrefix (worded (placed_blocks system host a up c)) (worded (blocks_at (target_of system a) (down a) c))
  pub default_code : responses ≡ AreCodes → (c : ℕ) → c < end → IsTrue (is_raised (up.answers.valid c))
      → HasDefaultCode (up.answers.code c) (slice_get (asked_at system host up (suc c)) (length (words_at up c)))
  pub owed : AnswersAreOwed up end

-- `room`: more words than may be owed above
pub record IsRouteLine (responses : Responses) (system : System) (host hold room : ℕ) (up : Port) (down : ℕ → Port)
    (end : ℕ) : Type 0 where
  pub commands : (c : ℕ) → c ≤ end → AreLegalAt up c → AreSingle up c → OwesBelow room up c
      → ((a : ℕ) → a < system.agents → AnswersAreOwed (down a) (c - 1)) → RouteCarriesCommands system host hold up down c
  pub answers : (c : ℕ) → c ≤ end → AreLegalAt up c → AreSingle up c → OwesBelow room up c
      → ((a : ℕ) → a < system.agents → AnswersAreOwed (down a) c) → RouteCarriesAnswers responses system host up down c

-- ---- links in a row

-- the law of a link without codes, with its answers as one front of the others
pub record BringsBack (target : Target) (up down : Port) (end : ℕ) : Type 0 where
  pub bytes : (c : ℕ) → c ≤ end → IsPrefix (bytes_of (answers_at target up c)) (bytes_of (answers_at target down c))
  pub owed : AnswersAreOwed up end

pub record IsCarrier (target : Target) (hold : ℕ) (up down : Port) (end : ℕ) : Type 0 where
  pub commands : (c : ℕ) → c ≤ end → AreLegalAt up c → AnswersAreOwed down (c - 1) → CarriesCommands target hold up down c
  pub answers : (c : ℕ) → c ≤ end → AreLegalAt up c → AnswersAreOwed down c → BringsBack target up down c

-- word for word: the words that hold an answer are words from below, with their codes
abbrev pub IsWordForWord : Target → Port → Port → ℕ → Type 0
IsWordForWord target up down end =
    (c : ℕ) → c ≤ end → AreLegalAt up c → AnswersAreOwed down c
    → IsPrefix (worded (blocks_at target up c)) (worded (blocks_at target down c))

-- the codes of the words that hold answers are the greatest of the codes of those answers
abbrev pub GivesGreatestCodes : Target → Port → Port → ℕ → Type 0
GivesGreatestCodes target up down end =
    (c : ℕ) → c ≤ end → AreLegalAt up c → AnswersAreOwed down c
    → AreGreatest (worded (blocks_at target up c)) (codes_of (answers_at target down c))

-- what any row of links keeps
pub record KeepsRow (target : Target) (hold : ℕ) (up down : Port) (end : ℕ) : Type 0 where
  pub carries : IsCarrier target hold up down end
  pub codes : GivesGreatestCodes target up down end
  pub hands_on : (c : ℕ) → c ≤ end → AreLegalAt up c → AnswersAreOwed down (c - 1) → HandsOn up down c

-- ---- mm_arbiter

-- a boundary whose answers bear tags
pub record TaggedPort : Type 0 where
  pub port : Port
  pub open port use *
  pub answer_tag : ℕ → ℕ

-- the words with one tag
abbrev pub words_with : ℕ → TaggedPort → ℕ → List Word
words_with tag tagged cycle =
    before (λ c. only_if (is_raised (tagged.answers.valid c) && nat_eq (tagged.answer_tag c) tag)
    (record { word = tagged.answers.word c; code = tagged.answers.code c })) cycle

-- the answers to the read operations with one tag
abbrev pub answers_with : ℕ → Target → TaggedPort → ℕ → List Answer
answers_with tag target tagged cycle =
    flat_map (λ p. bytes_in target tagged.shape p.0 p.1)
    (zip (read_beats (with_tag tag (taken_at tagged.port cycle))) (words_with tag tagged cycle))

-- for each tag by itself no word comes before it is asked
abbrev pub AreOwedByTag : System → TaggedPort → ℕ → Type 0
AreOwedByTag system tagged end =
    (tag c : ℕ) → tag < system.hosts → c < end
    → length (words_with tag tagged (suc c)) ≤ length (read_beats (with_tag tag (taken_at tagged.port c)))

-- the tags of the words that have come, and of the words that are asked
abbrev pub word_tags : TaggedPort → ℕ → List ℕ
word_tags tagged cycle = before (λ c. only_if (is_raised (tagged.answers.valid c)) (tagged.answer_tag c)) cycle

abbrev pub asked_tags : List Marked → List ℕ
asked_tags transfers = flat_map (λ m. map (λ _. m.tag) m.transfer.beats) (filter (λ m. is_of_reads m.transfer.kind) transfers)

-- each word has the tag of its command, and comes after it
abbrev pub AreTaggedInOrder : TaggedPort → ℕ → Type 0
AreTaggedInOrder tagged end = (c : ℕ) → c < end → IsPrefix (word_tags tagged (suc c)) (asked_tags (taken_at tagged.port c))

-- after a beat that doesn't end a joined command comes one of the same host
abbrev pub are_whole : List Marked → Bool
are_whole [] = true
are_whole (m ∷ []) = true
are_whole (m ∷ next ∷ later) = (closes m || nat_eq m.tag next.tag) && are_whole (next ∷ later)

-- what stands behind the arbiter: legal commands that can be given to the agent, each with a joined host as its tag
pub record IsFit (system : System) (agent : ℕ) (port : Port) (end : ℕ) : Type 0 where
  pub legal : AreLegalAt port end
  pub lanes : HasLanes (target_of system agent) port end
  pub tags : BearsTags (is_joined system agent) port end
  pub kinds : ServesKinds (system.agent agent) port end

pub record ArbiterCarriesCommands (system : System) (agent hold : ℕ) (up : ℕ → Port) (down : TaggedPort) (end : ℕ) : Type 0 where
  pub carries : (h : ℕ) → h < system.hosts
      → Carries h hold 0 1 (port_flow (target_of system agent) (up h)) (tagged_flow h (target_of system agent) down.port) end
  pub whole : (c : ℕ) → c ≤ end → IsTrue (are_whole (shown_at down.port c))
  pub fit : IsFit system agent down.port end

pub record ArbiterCarriesAnswers (responses : Responses) (system : System) (agent : ℕ) (up : ℕ → Port) (down : TaggedPort)
    (end : ℕ) : Type 0 where
  pub bytes : (h c : ℕ) → h < system.hosts → c ≤ end
      → IsPrefix (bytes_of (answers_at (target_of system agent) (up h) c))
      (bytes_of (answers_with h (target_of system agent) down c))
  pub codes : responses ≡ AreCodes → (h c : ℕ) → h < system.hosts → c ≤ end
      → IsPrefix (codes_of (answers_at (target_of system agent) (up h) c))
      (codes_of (answers_with h (target_of system agent) down c))
  pub owed : (h : ℕ) → h < system.hosts → AnswersAreOwed (up h) end

-- an asker's commands bear its number, and it asks only where it is joined
pub record IsFitToAsk (system : System) (agent host : ℕ) (up : Port) (end : ℕ) : Type 0 where
  pub legal : AreLegalAt up end
  pub lanes : HasLanes (target_of system agent) up end
  pub tag : (c : ℕ) → c < end → IsTrue (shows up.commands.signals c) → up.commands.tag c ≡ host
  pub joined : (c : ℕ) → c < end → IsTrue (shows up.commands.signals c) → IsTrue (is_joined system agent host)
  pub kinds : ServesKinds (system.agent agent) up end

abbrev pub AreFitToAsk : System → ℕ → (ℕ → Port) → ℕ → Type 0
AreFitToAsk system agent up end = (h : ℕ) → h < system.hosts → IsFitToAsk system agent h (up h) end

pub record IsArbiterLine (responses : Responses) (system : System) (agent hold : ℕ) (up : ℕ → Port) (down : TaggedPort)
    (end : ℕ) : Type 0 where
  pub commands : (c : ℕ) → c ≤ end → AreFitToAsk system agent up c → AreOwedByTag system down (c - 1)
      → ArbiterCarriesCommands system agent hold up down c
  pub answers : (c : ℕ) → c ≤ end → AreFitToAsk system agent up c → AreOwedByTag system down c
      → ArbiterCarriesAnswers responses system agent up down c

-- ---- Pipe, with the registers for the answers' tags

pub record PipeCarriesCommands (system : System) (agent hold stages : ℕ) (up down : TaggedPort) (end : ℕ) : Type 0 where
  pub shown : (c : ℕ) → c ≤ end → IsPrefix (shown_at down.port c) (shown_at up.port (c - stages))
  pub taken : (c : ℕ) → c ≤ end → IsPrefix (taken_at down.port c) (taken_at up.port (c - stages))
  pub held : (h c : ℕ) → h < system.hosts → c ≤ end →
      unreached (sizes_of ((tagged_flow h (target_of system agent) up.port).taken c))
      (total (sizes_of ((tagged_flow h (target_of system agent) down.port).taken c)))
      ≤ hold
  pub legal : AreLegalAt down.port end
  pub hands_on : HandsOn up.port down.port end

abbrev pub AreDelayed : System → ℕ → TaggedPort → TaggedPort → ℕ → Type 0
AreDelayed system stages up down end = (h c : ℕ) → h < system.hosts → c ≤ end → words_with h up c ≡ words_with h down (c - stages)

pub record IsPipeLine (system : System) (agent hold stages : ℕ) (up down : TaggedPort) (end : ℕ) : Type 0 where
  pub same : up.shape ≡ down.shape
  pub commands : (c : ℕ) → c ≤ end → AreLegalAt up.port c → AreOwedByTag system down (c - 1)
      → PipeCarriesCommands system agent hold stages up down c
  pub answers : (c : ℕ) → c ≤ end → AreLegalAt up.port c → AreOwedByTag system down c → AreDelayed system stages up down c

-- what a pipe holds, and how many stages it has
pub record Pipe : Type 0 where
  pub hold : ℕ
  pub stages : ℕ

abbrev pub KeepsPipeLine : System → ℕ → Pipe → TaggedPort → TaggedPort → ℕ → Type 0
KeepsPipeLine system agent pipe up down end = IsPipeLine system agent pipe.hold pipe.stages up down end

-- two pipes in a row
abbrev pub joined_pipe : Pipe → Pipe → Pipe
joined_pipe first second = record { hold = first.hold + second.hold; stages = first.stages + second.stages }

-- ---- mm_agent

abbrev pub tagged_operations : List Group → List Tagged
tagged_operations groups = flat_map (λ g. map (λ o. record { tag = g.tag; operation = o }) g.operations) groups

pub record AgentCarriesCommands (system : System) (run : Run) (agent hold : ℕ) (up : TaggedPort) (end : ℕ) : Type 0 where
  pub in_order : (c : ℕ) → c ≤ end
      → IsPrefix (taken system run agent c) (tagged_operations (groups_of (target_of system agent) up.shape (shown_at up.port c)))
  pub beats : (h c : ℕ) → h < system.hosts → c ≤ end
      → length (filter (λ b. nat_eq b.tag h) (beats_taken system run agent c))
      ≤ beats_of h ((tagged_flow h (target_of system agent) up.port).shown c)
  pub held : (h c : ℕ) → h < system.hosts → c ≤ end
      → unreached (sizes_of ((tagged_flow h (target_of system agent) up.port).taken c))
      (length (of_host h (taken system run agent c)))
      ≤ hold
  pub tags : (c : ℕ) → c < end → IsTrue (agent_accepts (system.agent agent) (run.at_agent agent) c)
      → IsTrue (is_joined system agent ((run.at_agent agent).grant c))
  pub proper : IsProperAtAgent (system.agent agent) (run.at_agent agent) end

pub record AgentCarriesAnswers (responses : Responses) (system : System) (run : Run) (agent : ℕ) (up : TaggedPort)
    (end : ℕ) : Type 0 where
  pub bytes : (h c : ℕ) → h < system.hosts → c ≤ end
      → IsPrefix (bytes_of (answers_with h (target_of system agent) up c)) (bytes_of (answers_to h (answers system run agent c)))
  pub codes : responses ≡ AreCodes → (h c : ℕ) → h < system.hosts → c ≤ end
      → IsPrefix (codes_of (answers_with h (target_of system agent) up c)) (codes_of (answers_to h (answers system run agent c)))
  pub owed : AreOwedByTag system up end

pub record IsAgentLine (responses : Responses) (system : System) (run : Run) (agent hold : ℕ) (up : TaggedPort)
    (end : ℕ) : Type 0 where
  pub commands : (c : ℕ) → c ≤ end → IsFit system agent up.port c → IsLegalAgent (system.agent agent) (run.at_agent agent) (c - 1)
      → AgentCarriesCommands system run agent hold up c
  pub answers : (c : ℕ) → c ≤ end → IsFit system agent up.port c → IsLegalAgent (system.agent agent) (run.at_agent agent) c
      → AgentCarriesAnswers responses system run agent up c

-- ---- all parts of a system

-- the links of a pair drop the beats without an operation, or there are none and the links make none
pub data BringsLanes (system : System) (run : Run) (host agent : ℕ) (up down : Port) (end : ℕ) : Type 0 where
  made : ((c : ℕ) → c ≤ end → AreLegalAt up c → AnswersAreOwed down (c - 1) → HasLanes (target_of system agent) down c)
      → BringsLanes system run host agent up down end
  kept : ((c : ℕ) → c ≤ end → HavePlacedLanes system host agent (sent_by (host_transfers system run host c))) →
      ((c : ℕ) → c ≤ end → AreLegalAt up c → AnswersAreOwed down (c - 1) → HasLanes (target_of system agent) up c
      → HasLanes (target_of system agent) down c)
      → BringsLanes system run host agent up down end

-- the boundaries inside. A pair without a connection has ports that show nothing
pub record Inside : Type 0 where
  pub after_host : ℕ → Port
  pub after_route : ℕ → ℕ → Port  -- of a host and an agent
  pub before_arbiter : ℕ → ℕ → Port
  pub after_arbiter : ℕ → TaggedPort
  pub before_agent : ℕ → TaggedPort

-- how many transfers each part holds
pub record Holds : Type 0 where
  pub host : ℕ
  pub route : ℕ
  pub links : ℕ
  pub arbiter : ℕ
  pub pipe : ℕ
  pub agent : ℕ

-- each part keeps its line. What lies between two parts is one boundary, so one part's lower side is the next one's upper side
pub record Wired (responses : Responses) (system : System) (run : Run) (inside : Inside) (holds : Holds) (end : ℕ) : Type 0 where
  pub room : ℕ → ℕ  -- of a host: more words than its reads may owe
  pub placed : (h : ℕ) (t : Transfer) (a : ℕ) → h < system.hosts → place_of system h t ≡ Some a → a < system.agents
  pub joined : (a h : ℕ) → IsTrue (is_joined system a h) → h < system.hosts
  pub words : (h a : ℕ) → h < system.hosts → a < system.agents
      → pieces (inside.after_route h a).shape (inside.before_arbiter h a).shape
      ≤ pieces (system.host h).shape (system.agent a).shape
  pub few : ((((holds.host + holds.route) + holds.links) + holds.arbiter) + holds.pipe) + holds.agent ≤ 5 + 2 * system.stages
  pub host : (h : ℕ) → h < system.hosts → IsHostLine responses system run h holds.host (room h) (inside.after_host h) end
  pub route : (h : ℕ) → h < system.hosts
      → IsRouteLine responses system h holds.route (room h) (inside.after_host h) (inside.after_route h) end
  pub links : (h a : ℕ) → h < system.hosts → a < system.agents
      → KeepsRow (target_of system a) holds.links (inside.after_route h a) (inside.before_arbiter h a) end
  pub lanes : (h a : ℕ) → h < system.hosts → a < system.agents
      → BringsLanes system run h a (inside.after_route h a) (inside.before_arbiter h a) end
  pub arbiter : (a : ℕ) → a < system.agents
      → IsArbiterLine responses system a holds.arbiter (λ h. inside.before_arbiter h a) (inside.after_arbiter a) end
  pub pipe : (a : ℕ) → a < system.agents
      → IsPipeLine system a holds.pipe system.stages (inside.after_arbiter a) (inside.before_agent a) end
  pub agent : (a : ℕ) → a < system.agents → IsAgentLine responses system run a holds.agent (inside.before_agent a) end

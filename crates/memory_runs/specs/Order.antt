-- What hosts issue, what agents take, and what comes back.
use Rattle.std.specs.Prelude.{◌≡◌, ℕ, suc, ◌+◌, ◌-◌, ◌*◌, ◌<◌, ◌≤◌, Bool, true, false, not, ◌&&◌, List, [], ◌∷◌, ◌++◌, length, map, take, drop, replicate, if◌then◌else◌, nat_eq, nat_le, IsTrue, Option, Some, None, filter, flat_map, zip, fold, max, slice_index, slice_get, MatchOption, ⊤}
use Rattle.std.specs.List.{list_any, list_all}
use Rattle.histories.specs.History.{before, only_if, is_raised, unreached, numbers, IsPrefix}
use Rattle.memory_runs.specs.Views.{Shape, HostSide, System, Run, Responses}
use Rattle.memory_runs.specs.Views.Responses.{AreZero, AreCodes}
use Rattle.memory_runs.specs.Operations.{Beat, Operation, operations_of, own_operations, filled_lanes, is_enabled, byte_at, is_read, bytes_read, memory_after, pieces}
use Rattle.memory_runs.specs.Commands.{Transfer, agent_accepts, presented, accepted_in, is_of_reads, reads_among}
use Rattle.memory_runs.specs.Legal.{host_accepts, given, gives_word, Word}

-- an operation with the number of its host
pub record Tagged : Type 0 where
  pub tag : ℕ
  pub operation : Operation

-- a place is the agent
abbrev pub is_agent : ℕ → Option ℕ → Bool
is_agent agent None = false
is_agent agent (Some other) = nat_eq agent other

-- a whole command goes to the place of its first beat
abbrev pub place_of : System → ℕ → Transfer → Option ℕ
place_of system host transfer = system.place host transfer.kind transfer.first

-- everything that a host has presented before a cycle
abbrev pub host_transfers : System → Run → ℕ → ℕ → List Transfer
host_transfers system run host cycle =
    presented (system.host host).shape (run.at_host host).signals (host_accepts (run.at_host host)) cycle

abbrev pub for_agent : System → ℕ → ℕ → List Transfer → List Transfer
for_agent system host agent transfers = filter (λ t. is_agent agent (place_of system host t)) transfers

-- a beat by its offset from the agent's base in the map of the host
abbrev pub from_base : ℕ → Beat → Beat
from_base base beat = record beat { address = beat.address - base }

abbrev pub beat_operations : System → ℕ → ℕ → Beat → List Operation
beat_operations system host agent beat =
    operations_of (system.host host).shape (system.agent agent).shape (system.agent agent).span
    (from_base (system.base host agent) beat)

abbrev pub transfer_operations : System → ℕ → ℕ → Transfer → List Operation
transfer_operations system host agent transfer = flat_map (beat_operations system host agent) transfer.beats

-- the operations of all beats that a host has presented for an agent before a cycle, in order
abbrev pub issued : System → Run → ℕ → ℕ → ℕ → List Operation
issued system run host agent cycle =
    flat_map (transfer_operations system host agent) (for_agent system host agent (host_transfers system run host cycle))

-- what an agent accepts in a cycle
abbrev pub taken_transfers_in : System → Run → ℕ → ℕ → List Transfer
taken_transfers_in system run agent cycle =
    accepted_in (system.agent agent).shape (run.at_agent agent).signals
    (agent_accepts (system.agent agent) (run.at_agent agent)) cycle

-- an accepted beat with the tag that grant shows
pub record TaggedBeat : Type 0 where
  pub tag : ℕ
  pub beat : Beat

abbrev pub beats_taken_in : System → Run → ℕ → ℕ → List TaggedBeat
beats_taken_in system run agent cycle =
    map (λ b. record { tag = (run.at_agent agent).grant cycle; beat = b })
    (flat_map (λ t. t.beats) (taken_transfers_in system run agent cycle))

abbrev pub beats_taken : System → Run → ℕ → ℕ → List TaggedBeat
beats_taken system run agent cycle = before (beats_taken_in system run agent) cycle

abbrev pub operations_at : System → ℕ → TaggedBeat → List Tagged
operations_at system agent tagged =
    map (λ o. record { tag = tagged.tag; operation = o })
    (own_operations (system.agent agent).shape (system.agent agent).span tagged.beat)

-- the operations that an agent has taken before a cycle, each with its tag
abbrev pub taken : System → Run → ℕ → ℕ → List Tagged
taken system run agent cycle = flat_map (operations_at system agent) (beats_taken system run agent cycle)

abbrev pub has_tag : ℕ → Tagged → Bool
has_tag host tagged = nat_eq tagged.tag host

-- the operations with one tag
abbrev pub of_host : ℕ → List Tagged → List Operation
of_host host operations = map (λ t. t.operation) (filter (has_tag host) operations)

-- the numbers of the commands that the transfers belong to, counted from 1
abbrev pub command_numbers : ℕ → List Transfer → List ℕ
command_numbers begun [] = []
command_numbers begun (t ∷ later) =
    let number = if t.begins then begun + 1 else begun in
    number ∷ command_numbers number later

-- the same numbers where every command ends before the next one begins, by the ends alone
abbrev pub numbers_by_ends : ℕ → List Transfer → List ℕ
numbers_by_ends number [] = []
numbers_by_ends number (t ∷ later) = number ∷ numbers_by_ends (if t.ends then number + 1 else number) later

-- for each operation issued for an agent, the number of its command
abbrev pub owners : System → Run → ℕ → ℕ → ℕ → List ℕ
owners system run host agent cycle =
    let transfers = host_transfers system run host cycle in
    flat_map (λ p. if is_agent agent (place_of system host p.1)
    then replicate (length (transfer_operations system host agent p.1)) p.0 else [])
    (zip (numbers_by_ends 1 transfers) transfers)

-- a taken operation's host, and the number of its command
pub record Owner : Type 0 where
  pub tag : ℕ
  pub command : ℕ

-- operation number k with a tag belongs to what its host issued as number k for the agent
abbrev pub owner_of : (ℕ → List ℕ) → List Tagged → Tagged → Owner
owner_of issuers earlier tagged =
    record { tag = tagged.tag; command = slice_index (issuers tagged.tag) (length (of_host tagged.tag earlier)) }

abbrev pub owners_from : (ℕ → List ℕ) → List Tagged → List Tagged → List Owner
owners_from issuers earlier [] = []
owners_from issuers earlier (t ∷ later) = owner_of issuers earlier t ∷ owners_from issuers (earlier ++ t ∷ []) later

-- the owners of what an agent has taken, in order
abbrev pub owners_taken : System → Run → ℕ → ℕ → List Owner
owners_taken system run agent cycle =
    owners_from (λ host. owners system run host agent cycle) [] (taken system run agent cycle)

abbrev pub is_same_owner : Owner → Owner → Bool
is_same_owner one other = nat_eq one.tag other.tag && nat_eq one.command other.command

-- the owner doesn't come again once another tag has stood
abbrev pub stays_together : Owner → List Owner → Bool
stays_together owner [] = true
stays_together owner (next ∷ later) =
    if nat_eq next.tag owner.tag then stays_together owner later
    else list_all (λ o. not (is_same_owner owner o)) later

-- between two operations of one host command none with another tag stands
abbrev pub are_together : List Owner → Bool
are_together [] = true
are_together (owner ∷ later) = stays_together owner later && are_together later

-- one owner stands between two others
pub record StandsBetween (owners : List Owner) (i j k : ℕ) (owner between other : Owner) : Type 0 where
  pub before : i < j
  pub behind : j < k
  pub first : slice_get owners i ≡ Some owner
  pub second : slice_get owners j ≡ Some between
  pub third : slice_get owners k ≡ Some other

-- the words of an agent that a host's presented beats for it cover
abbrev pub words_covered : System → Run → ℕ → ℕ → ℕ → ℕ
words_covered system run host agent cycle =
    pieces (system.host host).shape (system.agent agent).shape
    * length (flat_map (λ t. t.beats) (for_agent system host agent (host_transfers system run host cycle)))

-- a connection joins the host and the agent
abbrev pub is_joined : System → ℕ → ℕ → Bool
is_joined system agent host = list_any (nat_eq host) (system.joined agent)

-- an agent's operations stand in each host's order, whole commands, with no beat too many
pub record ServesInGrantedOrder (system : System) (run : Run) (agent end : ℕ) : Type 0 where
  pub tags : (c : ℕ) → c < end → IsTrue (agent_accepts (system.agent agent) (run.at_agent agent) c)
      → IsTrue (is_joined system agent ((run.at_agent agent).grant c))
  pub in_order : (c host : ℕ) → c ≤ end → host < system.hosts
      → IsPrefix (of_host host (taken system run agent c)) (issued system run host agent (c - system.stages))
  pub together : (c : ℕ) → c ≤ end → IsTrue (are_together (owners_taken system run agent c))
  pub beats : (c host : ℕ) → c ≤ end → host < system.hosts
      → length (filter (λ b. nat_eq b.tag host) (beats_taken system run agent c)) ≤ words_covered system run host agent c

-- one word that an agent gives
abbrev pub words_given_in : System → Run → ℕ → ℕ → List Word
words_given_in system run agent cycle =
    let side = system.agent agent in
    let view = run.at_agent agent in
    only_if
    (if side.has_readdatavalid then is_raised (view.readdatavalid cycle)
    else nat_le side.read_latency cycle && is_raised (view.read (cycle - side.read_latency))
    && agent_accepts side view (cycle - side.read_latency))
    (record { word = view.readdata cycle; code = view.response cycle })

-- the byte that answers a read operation, with the tag of the operation and the code of its word
pub record Answer : Type 0 where
  pub tag : ℕ
  pub byte : ℕ
  pub code : ℕ

abbrev pub is_read_beat : TaggedBeat → Bool
is_read_beat tagged = is_of_reads tagged.beat.kind

-- the bytes of a word for the lanes of its beat
abbrev pub answers_in : Shape → TaggedBeat → Word → List Answer
answers_in shape tagged given =
    map (λ lane. record { tag = tagged.tag; byte = byte_at given.word lane; code = given.code })
    (filter (is_enabled tagged.beat.enables) (numbers 0 shape.word_bytes))

-- the answers to the read operations that an agent has taken, as far as words have come before a cycle
abbrev pub answers : System → Run → ℕ → ℕ → List Answer
answers system run agent cycle =
    flat_map (λ p. answers_in (system.agent agent).shape p.0 p.1)
    (zip (filter is_read_beat (beats_taken system run agent cycle)) (before (words_given_in system run agent) cycle))

abbrev pub answers_to : ℕ → List Answer → List Answer
answers_to host answers = filter (λ a. nat_eq a.tag host) answers

-- a read beat of a host and its place
pub record Asked : Type 0 where
  pub place : Option ℕ
  pub beat : Beat

abbrev pub asked : System → Run → ℕ → ℕ → List Asked
asked system run host cycle =
    flat_map (λ t. map (λ b. record { place = place_of system host t; beat = b }) t.beats)
    (reads_among (host_transfers system run host cycle))

-- how many read operations the beats have at an agent
abbrev pub reads_for : System → ℕ → ℕ → List Asked → ℕ
reads_for system host agent beats =
    length (flat_map (λ q. beat_operations system host agent q.beat) (filter (λ q. is_agent agent q.place) beats))

abbrev pub greatest_code : List Answer → ℕ
greatest_code answers = fold (λ code answer. max code answer.code) 0 answers

-- a word holds the answers in these lanes
pub record HoldsAnswers (lanes : List ℕ) (answers : List Answer) (given : Word) : Type 0 where
  pub enough : length lanes ≤ length answers
  pub bytes : map (byte_at given.word) lanes ≡ map (λ a. a.byte) (take (length lanes) answers)

-- the default agent's word
abbrev pub IsDefaultWord : HostSide → Beat → Word → Type 0
IsDefaultWord side beat given =
    IsTrue (list_all (λ lane. nat_eq (byte_at given.word lane) 0) (filter (is_enabled beat.enables) (numbers 0 side.word_bytes)))

-- a given word is the right one for its read beat. `number` is the word's number, `cycle` the cycle that gives it
abbrev pub IsWordOf : System → Run → ℕ → ℕ → ℕ → Word → Option Asked → Type 0
IsWordOf system run host cycle number given None = ⊥
IsWordOf system run host cycle number given (Some question) =
    MatchOption question.place (IsDefaultWord (system.host host) question.beat given) (λ agent.
    HoldsAnswers (filled_lanes (system.host host).shape (system.agent agent).shape question.beat.enables)
    (drop (reads_for system host agent (take number (asked system run host (suc cycle))))
    (answers_to host (answers system run agent (suc cycle - system.stages))))
    given)

-- every word that a host is given holds the answers to its operations. `number` words came before it
abbrev pub ReturnsInCommandOrder : System → Run → ℕ → ℕ → Type 0
ReturnsInCommandOrder system run host end =
    (c : ℕ) → c < end → IsTrue (gives_word (system.host host) (run.at_host host) c) →
    IsWordOf system run host c (length (given (system.host host) (run.at_host host) c))
    (record { word = (run.at_host host).readdata c; code = (run.at_host host).response c })
    (slice_get (asked system run host (suc c)) (length (given (system.host host) (run.at_host host) c)))

-- the code of a word: of the default agent 3, of an agent the greatest of the codes of its answers
abbrev pub HasCodeOf : System → Run → ℕ → ℕ → ℕ → ℕ → Option Asked → Type 0
HasCodeOf system run host cycle number code None = ⊥
HasCodeOf system run host cycle number code (Some question) =
    MatchOption question.place (code ≡ 3) (λ agent.
    let lanes = filled_lanes (system.host host).shape (system.agent agent).shape question.beat.enables in
    0 < length lanes →
    code
    ≡ greatest_code (take (length lanes) (drop (reads_for system host agent (take number (asked system run host (suc cycle))))
    (answers_to host (answers system run agent (suc cycle - system.stages))))))

-- `response` bears the code of the word that is given, and is 0 where none is
pub record HasResponses (system : System) (run : Run) (host end : ℕ) : Type 0 where
  pub of_words : (c : ℕ) → c < end → IsTrue (system.host host).has_response
      → IsTrue (gives_word (system.host host) (run.at_host host) c) →
      HasCodeOf system run host c (length (given (system.host host) (run.at_host host) c)) ((run.at_host host).response c)
      (slice_get (asked system run host (suc c)) (length (given (system.host host) (run.at_host host) c)))
  pub quiet : (c : ℕ) → c < end → IsTrue (system.host host).has_response
      → IsTrue (not (gives_word (system.host host) (run.at_host host) c)) → (run.at_host host).response c ≡ 0
  pub absent : (c : ℕ) → c < end → IsTrue (not (system.host host).has_response) → (run.at_host host).response c ≡ 0

-- what a host's `response` carries
abbrev pub RespondsBy : Responses → System → Run → ℕ → ℕ → Type 0
RespondsBy AreZero system run host end = (c : ℕ) → c < end → (run.at_host host).response c ≡ 0
RespondsBy AreCodes system run host end = HasResponses system run host end

-- each answer is what the writes taken before have left
abbrev pub ActsAsMemory : System → Run → (ℕ → ℕ) → ℕ → ℕ → Type 0
ActsAsMemory system run contents agent end =
    (c : ℕ) → c ≤ end →
    IsPrefix (map (λ a. a.byte) (answers system run agent c))
    (bytes_read contents (map (λ t. t.operation) (taken system run agent c)))

-- the limiter: when an agent takes a read of a host, the host has been given all earlier words for other places
abbrev pub KeepsReadOrder : System → Run → ℕ → ℕ → ℕ → Type 0
KeepsReadOrder system run host agent end =
    (c number : ℕ) → c < end → number < length (asked system run host (suc c)) →
    MatchOption (slice_get (asked system run host (suc c)) number) ⊤ (λ q. IsTrue (not (is_agent agent q.place))) →
    reads_for system host agent (take number (asked system run host (suc c)))
    < length (filter is_read (of_host host (taken system run agent (suc c)))) →
    number < length (given (system.host host) (run.at_host host) (suc c))

-- presented write beats and read commands of a host for an agent with an operation that isn't taken yet
abbrev pub untaken : System → Run → ℕ → ℕ → ℕ → ℕ
untaken system run host agent cycle =
    unreached
    (map (λ t. length (transfer_operations system host agent t))
    (for_agent system host agent (host_transfers system run host cycle)))
    (length (of_host host (taken system run agent cycle)))

-- the largest number of them that is promised
abbrev pub command_lag : System → ℕ
command_lag system = 6 + 2 * system.stages

abbrev pub LagsWithin : ℕ → System → Run → ℕ → ℕ → ℕ → Type 0
LagsWithin lag system run host agent end = (c : ℕ) → c ≤ end → untaken system run host agent c ≤ lag

-- what the reads of a host find in an agent's memory, in the order in which they are taken
abbrev pub bytes_for : ℕ → (ℕ → ℕ) → List Tagged → List ℕ
bytes_for host contents [] = []
bytes_for host contents (t ∷ later) =
    (if is_read t.operation && nat_eq t.tag host then bytes_read contents (t.operation ∷ []) else [])
    ++ bytes_for host (memory_after contents (t.operation ∷ [])) later

-- a word that a host is given from an agent holds the bytes that the writes taken before its reads have left
abbrev pub IsWordFromMemory : System → Run → ℕ → ℕ → (ℕ → ℕ) → ℕ → ℕ → Word → Option Asked → Type 0
IsWordFromMemory system run host agent contents cycle number given question =
    MatchOption question ⊥ (λ q. IsTrue (is_agent agent q.place) →
    let lanes = filled_lanes (system.host host).shape (system.agent agent).shape q.beat.enables in
    map (byte_at given.word) lanes
    ≡ take (length lanes)
    (drop (reads_for system host agent (take number (asked system run host (suc cycle))))
    (bytes_for host contents (taken system run agent (suc cycle - system.stages)))))

abbrev pub ReadsFromMemory : System → Run → ℕ → ℕ → (ℕ → ℕ) → ℕ → Type 0
ReadsFromMemory system run host agent contents end =
    (c : ℕ) → c < end → IsTrue (gives_word (system.host host) (run.at_host host) c) →
    IsWordFromMemory system run host agent contents c (length (given (system.host host) (run.at_host host) c))
    (record { word = (run.at_host host).readdata c; code = (run.at_host host).response c })
    (slice_get (asked system run host (suc c)) (length (given (system.host host) (run.at_host host) c)))

-- The law of a link: a part that hands commands on and answers back.
use Rattle.std.specs.Prelude.{◌≡◌, ℕ, suc, ◌-◌, ◌*◌, ◌<◌, ◌≤◌, Bool, true, false, not, ◌&&◌, ◌||◌, List, [], ◌∷◌, ◌++◌, length, map, take, drop, nat_eq, nat_lt, nat_le, IsTrue, filter, flat_map, zip, slice_get, MatchOption}
use Rattle.histories.specs.History.{before, only_if, is_raised, unreached, AreWithin, IsPrefix, first_shown, all_accepted}
use Rattle.memory_runs.specs.Views.{Shape}
use Rattle.memory_machines.specs.Paths.{CommandView, AnswerView}
use Rattle.memory_runs.specs.Operations.{Beat, Operation, operations_of, filled_lanes, byte_at, pieces}
use Rattle.memory_runs.specs.Commands.{Transfer, accepts_by, is_held, shows, transfer_at, is_of_reads}
use Rattle.memory_runs.specs.Legal.{AreLegal, AreOwed, Word}
use Rattle.memory_runs.specs.Order.{Answer, HoldsAnswers, greatest_code}

-- one side of a link: its word, its commands and its answers
pub record Port : Type 0 where
  pub shape : Shape
  pub commands : CommandView
  pub answers : AnswerView

-- what the operations are for: the words of the agent at the end of the path
pub record Target : Type 0 where
  pub shape : Shape
  pub span : ℕ

-- a transfer with its tag, and whether `more` joins it to the next command
pub record Marked : Type 0 where
  pub tag : ℕ
  pub more : Bool
  pub transfer : Transfer

abbrev pub takes : Port → ℕ → Bool
takes port = accepts_by port.commands.signals port.commands.waitrequest

abbrev pub marked_at : Port → ℕ → Marked
marked_at port cycle = record {
  tag = port.commands.tag cycle;
  more = is_raised (port.commands.more cycle);
  transfer = transfer_at port.shape port.commands.signals (takes port) cycle;
}

-- what a side has presented before a cycle
abbrev pub shown_at : Port → ℕ → List Marked
shown_at port cycle = first_shown (shows port.commands.signals) (takes port) (marked_at port) cycle

-- what it has accepted
abbrev pub taken_at : Port → ℕ → List Marked
taken_at port cycle = all_accepted (takes port) (marked_at port) cycle

abbrev pub beat_operations : Target → Shape → Beat → List Operation
beat_operations target shape beat = operations_of shape target.shape target.span beat

abbrev pub operations_in : Target → Shape → Marked → List Operation
operations_in target shape marked = flat_map (beat_operations target shape) marked.transfer.beats

-- the operations of these transfers, in order
abbrev pub operations_among : Target → Shape → List Marked → List Operation
operations_among target shape transfers = flat_map (operations_in target shape) transfers

-- an operation with its tag, or the end of a joined command that had one
pub data Item : Type 0 where
  Acts : (tag : ℕ) (operation : Operation) → Item
  Ends : (tag : ℕ) → Item

abbrev pub is_nonempty : {A : Type 0} → List A → Bool
is_nonempty {A} [] = false
is_nonempty {A} (x ∷ xs) = true

-- the last transfer of commands that `more` joins
abbrev pub closes : Marked → Bool
closes marked = marked.transfer.ends && not marked.more

-- whether the joined command has had an operation by the end of this transfer
abbrev pub has_acted : Target → Shape → Bool → Marked → Bool
has_acted target shape acted marked = acted || is_nonempty (operations_in target shape marked)

abbrev pub items_of : Target → Shape → Bool → Marked → List Item
items_of target shape acted marked =
    map (Acts marked.tag) (operations_in target shape marked)
    ++ only_if (closes marked && has_acted target shape acted marked) (Ends marked.tag)

abbrev pub acted_after : Target → Shape → Bool → Marked → Bool
acted_after target shape acted marked = not (closes marked) && has_acted target shape acted marked

-- operations and ends of joined commands, in order
abbrev pub items_from : Target → Shape → Bool → List Marked → List Item
items_from target shape acted [] = []
items_from target shape acted (m ∷ later) =
    items_of target shape acted m ++ items_from target shape (acted_after target shape acted m) later

abbrev pub items : Target → Port → ℕ → List Item
items target port cycle = items_from target port.shape false (shown_at port cycle)

-- the beats with one tag
abbrev pub beats_with : ℕ → List Marked → List Beat
beats_with tag transfers = flat_map (λ m. m.transfer.beats) (filter (λ m. nat_eq m.tag tag) transfers)

-- how many operations each transfer has
abbrev pub sizes : Target → Shape → List Marked → List ℕ
sizes target shape transfers = map (λ m. length (operations_in target shape m)) transfers

-- transfers accepted upstream that aren't wholly taken
abbrev pub held_by : Target → Port → Port → ℕ → ℕ
held_by target up down cycle =
    unreached (sizes target up.shape (taken_at up cycle)) (length (operations_among target down.shape (taken_at down cycle)))

-- the read beats of a side, one for each word
abbrev pub read_beats : List Marked → List Beat
read_beats transfers = flat_map (λ m. m.transfer.beats) (filter (λ m. is_of_reads m.transfer.kind) transfers)

abbrev pub words_at : Port → ℕ → List Word
words_at port cycle =
    before (λ c. only_if (is_raised (port.answers.valid c))
    (record { word = port.answers.word c; code = port.answers.code c })) cycle

-- the answers in a word
abbrev pub bytes_in : Target → Shape → Beat → Word → List Answer
bytes_in target shape beat given =
    map (λ lane. record { tag = 0; byte = byte_at given.word lane; code = given.code })
    (filled_lanes shape target.shape beat.enables)

-- the answers that have come at a side before a cycle, in command order
abbrev pub answers_at : Target → Port → ℕ → List Answer
answers_at target port cycle =
    flat_map (λ p. bytes_in target port.shape p.0 p.1) (zip (read_beats (taken_at port cycle)) (words_at port cycle))

-- how many read operations these beats have
abbrev pub reads_of : Target → Shape → List Beat → ℕ
reads_of target shape beats = length (flat_map (beat_operations target shape) beats)

-- where a word has operations, its code is the greatest of those of the words that answer them
abbrev pub HasGreatestCode : List ℕ → List Answer → Word → Type 0
HasGreatestCode lanes answers given = 0 < length lanes → given.code ≡ greatest_code (take (length lanes) answers)

-- the answers from a word's own on
abbrev pub own_answers : Target → Port → Port → ℕ → ℕ → List Answer
own_answers target up down number cycle =
    drop (reads_of target up.shape (take number (read_beats (shown_at up (suc cycle))))) (answers_at target down (suc cycle))

abbrev pub IsAnswered : Target → Port → Port → ℕ → ℕ → Type 0
IsAnswered target up down number cycle =
    MatchOption (slice_get (read_beats (shown_at up (suc cycle))) number) ⊥ (λ beat.
    let lanes : List ℕ = filled_lanes up.shape target.shape beat.enables in
    let given : Word = record { word = up.answers.word cycle; code = up.answers.code cycle } in
    HoldsAnswers lanes (own_answers target up down number cycle) given
    × HasGreatestCode lanes (own_answers target up down number cycle) given)

-- the bytes alone
abbrev pub HasRightBytes : Target → Port → Port → ℕ → ℕ → Type 0
HasRightBytes target up down number cycle =
    MatchOption (slice_get (read_beats (shown_at up (suc cycle))) number) ⊥ (λ beat.
    HoldsAnswers (filled_lanes up.shape target.shape beat.enables) (own_answers target up down number cycle)
    (record { word = up.answers.word cycle; code = up.answers.code cycle }))

abbrev pub words_owed : Port → ℕ → ℕ
words_owed port cycle = length (read_beats (taken_at port cycle))

-- the commands of a side are legal, a held one keeps its tag and its `more`, and a beat that doesn't end its burst has `more`
-- high
pub record AreLegalAt (port : Port) (end : ℕ) : Type 0 where
  pub legal : AreLegal port.shape port.commands.signals (takes port) end
  pub tag : (c : ℕ) → suc c < end → IsTrue (is_held port.commands.signals (takes port) c)
      → port.commands.tag c ≡ port.commands.tag (suc c)
  pub more : (c : ℕ) → suc c < end → IsTrue (is_held port.commands.signals (takes port) c)
      → port.commands.more c ≡ port.commands.more (suc c)
  pub joined : (c : ℕ) → c < end → IsTrue (shows port.commands.signals c)
      → IsTrue ((transfer_at port.shape port.commands.signals (takes port) c).ends || is_raised (port.commands.more c))

abbrev pub AnswersAreOwed : Port → ℕ → Type 0
AnswersAreOwed port end = AreOwed port.answers.valid (words_owed port) end

-- what the commands of a link keep in the cycles before `end`
pub record CarriesCommands (target : Target) (hold : ℕ) (up down : Port) (end : ℕ) : Type 0 where
  pub in_order : (c : ℕ) → c ≤ end → IsPrefix (items target down c) (items target up c)
  pub beats : (c tag : ℕ) → c ≤ end
      → length (beats_with tag (shown_at down c)) ≤ pieces up.shape down.shape * length (beats_with tag (shown_at up c))
  pub legal : AreLegalAt down end
  pub held : (c : ℕ) → c ≤ end → held_by target up down c ≤ hold
  pub whole : (c : ℕ) → c ≤ end → AreWithin (sizes target down.shape (shown_at down c)) (sizes target up.shape (shown_at up c))

-- what its answers keep
pub record CarriesAnswers (target : Target) (up down : Port) (end : ℕ) : Type 0 where
  pub answered : (c : ℕ) → c < end → IsTrue (is_raised (up.answers.valid c))
      → IsAnswered target up down (length (words_at up c)) c
  pub owed : AnswersAreOwed up end

-- the law of a link in one run: commands need the answers of earlier cycles alone to be owed
pub record KeepsLinkLaw (target : Target) (hold : ℕ) (up down : Port) (end : ℕ) : Type 0 where
  pub commands : (c : ℕ) → c ≤ end → AreLegalAt up c → AnswersAreOwed down (c - 1) → CarriesCommands target hold up down c
  pub answers : (c : ℕ) → c ≤ end → AreLegalAt up c → AnswersAreOwed down c → CarriesAnswers target up down c

-- a word whose answers have all come isn't answered upstream
abbrev pub has_word_ready : Target → Port → Port → ℕ → Bool
has_word_ready target up down cycle =
    nat_lt (length (words_at up cycle)) (length (read_beats (shown_at up cycle)))
    && nat_le (reads_of target up.shape (take (suc (length (words_at up cycle))) (read_beats (shown_at up cycle))))
    (length (answers_at target down cycle))

-- the last of these transfers has `more` high
abbrev pub is_last_joined : List Marked → Bool
is_last_joined [] = false
is_last_joined (m ∷ []) = m.more
is_last_joined (m ∷ next ∷ later) = is_last_joined (next ∷ later)

-- The rank of a link, promptness of answers, and a chain of links as a path of parts.
use Rattle.std.specs.Prelude.{◌≡◌, ◌++◌, ℕ, suc, ◌+◌, ◌<◌, ◌≤◌, List, [], ◌∷◌, Bool, false, not, ◌&&◌, ◌||◌, length, nat_lt, nat_le, take, IsTrue, IsFalse}
use Rattle.histories.specs.History.{is_raised, only_if, IsPrefix}
use Rattle.memory_runs.specs.Commands.{is_held, shows, is_of_reads}
use Rattle.memory_machines.specs.Link.{Target, Port, Marked, marked_at, AreLegalAt, items, takes, taken_at, shown_at, operations_among, words_at, words_owed, is_last_joined, has_word_ready, read_beats, reads_of, answers_at}
use Rattle.histories.specs.Path.{Path, works, excused}
use Rattle.histories.specs.Window.{Part, Budget, moves_before}

-- by the end of the cycle a word that was asked at a port hasn't come there
abbrev pub is_owed : Port → ℕ → Bool
is_owed port c = nat_lt (length (words_at port (suc c))) (words_owed port (suc c))

-- by the end of the cycle the last beat taken at a port had `more` high
abbrev pub is_unclosed : Port → ℕ → Bool
is_unclosed port c = is_last_joined (taken_at port (suc c))

-- the last of these transfers is a write
abbrev pub is_last_write : List Marked → Bool
is_last_write [] = false
is_last_write (m ∷ []) = not (is_of_reads m.transfer.kind)
is_last_write (m ∷ next ∷ later) = is_last_write (next ∷ later)

-- a write is left open at a port
abbrev pub is_writing : Port → ℕ → Bool
is_writing port c = is_unclosed port c && is_last_write (taken_at port (suc c))

-- the rest of what is left open at a port isn't shown; if it isn't a write, no word is owed there
abbrev pub may_rest : Port → ℕ → Bool
may_rest port c =
    is_unclosed port c && not (shows port.commands.signals c) && (is_last_write (taken_at port (suc c)) || not (is_owed port c))

-- a beat stands below, a word is owed below and no write is left open there, or the rest of what is left open above is waited for
abbrev pub is_excused : Port → Port → ℕ → Bool
is_excused up down c =
    is_held down.commands.signals (takes down) c || (is_owed down c && not (is_writing down c)) || may_rest up c

-- the ports of a chain of links, the lowest first, in one cycle
abbrev pub path_at : Target → (ℕ → Port) → ℕ → Path
path_at target ports c = record {
  shown = λ p. shows (ports p).commands.signals c;
  taken = λ p. takes (ports p) c;
  owed = λ p. is_owed (ports p) c;
  unclosed = λ p. is_unclosed (ports p) c;
  last_writes = λ p. is_last_write (taken_at (ports p) (suc c));
  untaken =
      λ i. nat_lt (length (operations_among target (ports i).shape (taken_at (ports i) (suc c))))
      (length (operations_among target (ports (suc i)).shape (shown_at (ports (suc i)) (suc c))));
  ready = λ i. has_word_ready target (ports (suc i)) (ports i) (suc c);
}

-- a command is presented and not accepted, not wholly taken, or left open below
abbrev pub has_commands : Target → Port → Port → ℕ → Bool
has_commands target up down c =
    is_held up.commands.signals (takes up) c
    || nat_lt (length (operations_among target down.shape (taken_at down (suc c))))
    (length (operations_among target up.shape (shown_at up (suc c))))
    || is_unclosed down c

-- a rank falls in each cycle with work in which nothing moves, unless the cycle is excused; there it doesn't rise
pub record Falls (work moves excused : ℕ → Bool) (rank : ℕ → ℕ) (largest end : ℕ) : Type 0 where
  pub bounded : (c : ℕ) → c ≤ end → rank c ≤ largest
  pub falls : (c : ℕ) → c < end → IsTrue (work c) → IsTrue (not (moves c)) → IsTrue (not (excused c)) → rank (suc c) < rank c
  pub stays : (c : ℕ) → c < end → IsTrue (work c) → IsTrue (not (moves c)) → rank (suc c) ≤ rank c

-- a beat is taken below or accepted above. A word that is answered is no move: words are answered promptly and stand in no rank
abbrev pub moves_commands : Port → Port → ℕ → Bool
moves_commands up down c = takes down c || takes up c

abbrev pub LinkRankFalls : Target → Port → Port → (ℕ → ℕ) → ℕ → ℕ → Type 0
LinkRankFalls target up down rank largest end =
    Falls (has_commands target up down) (moves_commands up down) (is_excused up down) rank largest end

-- as a cycle begins, the next word was asked, and all its answers have come; if it has none, no word is owed below
abbrev pub is_due : Target → Port → Port → ℕ → Bool
is_due target up down c =
    let asked = read_beats (taken_at up c) in
    let given = length (words_at up c) in
    nat_lt given (length asked)
    && nat_le (reads_of target up.shape (take (suc given) asked)) (length (answers_at target down c))
    && (nat_lt (reads_of target up.shape (take given asked)) (reads_of target up.shape (take (suc given) asked))
    || nat_le (words_owed down c) (length (words_at down c)))

-- then it is answered in this cycle
abbrev pub AnswersPromptly : Target → Port → Port → ℕ → Type 0
AnswersPromptly target up down end =
    (c : ℕ) → c < end → IsTrue (is_due target up down c) → IsTrue (is_raised (up.answers.valid c))

-- a chain of links in one cycle, of commands alone
abbrev pub commands_at : Target → (ℕ → Port) → ℕ → Path
commands_at target ports c = record (path_at target ports c) { ready = λ i. false }

abbrev pub link_part : Target → (ℕ → Port) → ℕ → (ℕ → ℕ) → ℕ → ℕ → Part
link_part target ports i rank largest from = record {
  works = λ c. works (commands_at target ports (from + c)) i;
  moves = λ c. moves_commands (ports (suc i)) (ports i) (from + c);
  excused = λ c. excused (commands_at target ports (from + c)) i;
  rank = λ c. rank (from + c);
  largest = largest;
}

abbrev pub link_budget : Target → (ℕ → Port) → (ℕ → ℕ → ℕ) → (ℕ → ℕ) → (ℕ → ℕ) → ℕ → ℕ → Budget
link_budget target ports rank largest few from i =
    record { part = link_part target ports i (rank i) (largest i) from; few = few i }

-- the same window, in which no word whose answers have come is left in the chain
pub record IsUnhindered (target : Target) (ports : ℕ → Port) (n from size : ℕ) : Type 0 where
  pub bottom : (c : ℕ) → c < size
      → IsFalse (is_held (ports 0).commands.signals (takes (ports 0)) (from + c) || is_owed (ports 0) (from + c))
  pub top : (c : ℕ) → c < size → IsFalse (may_rest (ports n) (from + c))
  pub words : (i c : ℕ) → i < n → c < size → IsFalse (has_word_ready target (ports (suc i)) (ports i) (suc (from + c)))
  pub work : (c : ℕ) → c < size → (i : ℕ) × (i < n) × IsTrue (has_commands target (ports (suc i)) (ports i) (from + c))

pub record KeepLinkRanks (target : Target) (ports : ℕ → Port) (rank : ℕ → ℕ → ℕ) (largest few : ℕ → ℕ)
    (n from size : ℕ) : Type 0 where
  pub legal : (i : ℕ) → i ≤ n → AreLegalAt (ports i) (from + size + 1)
  pub in_order : (i c : ℕ) → i < n → c ≤ from + size → IsPrefix (items target (ports i) c) (items target (ports (suc i)) c)
  pub falls : (i : ℕ) → i < n → LinkRankFalls target (ports (suc i)) (ports i) (rank i) (largest i) (from + size)
  pub moves : (i : ℕ) → i < n → moves_before (link_part target ports i (rank i) (largest i) from) size ≤ few i

-- a register of one place for commands, with answers passed in the same cycle, as facts of each cycle
pub record HoldsOneBeat (up down : Port) (end : ℕ) : Type 0 where
  pub full : ℕ → Bool  -- as a cycle begins
  pub shape : down.shape ≡ up.shape
  pub shown : (c : ℕ) → shows down.commands.signals c ≡ full c
  pub empty : (c : ℕ) → IsFalse (full c) → takes up c ≡ shows up.commands.signals c  -- it waits only while it is full
  pub next : (c : ℕ) → IsFalse (full c) → full (suc c) ≡ takes up c
  pub holds : (c : ℕ) → c ≤ end → taken_at up c ≡ taken_at down c ++ only_if (full c) (marked_at down c)
  pub words : (c : ℕ) → c ≤ end → words_at up c ≡ words_at down c

-- link `i` of a chain has a rank that falls
pub record PartRankFalls (target : Target) (ports : ℕ → Port) (i : ℕ) (rank : ℕ → ℕ) (largest end : ℕ) : Type 0 where
  pub legal : AreLegalAt (ports (suc i)) (end + 1)
  pub falls : LinkRankFalls target (ports (suc i)) (ports i) rank largest end

-- a chain whose ranks fall stands in a window in which nothing below hinders it
pub record IsStuckChain (target : Target) (ports : ℕ → Port) (rank : ℕ → ℕ → ℕ) (largest few : ℕ → ℕ)
    (n from size : ℕ) : Type 0 where
  pub ranks : KeepLinkRanks target ports rank largest few n from size
  pub unhindered : IsUnhindered target ports n from size

-- the operations shown above a link aren't all asked below it, or their words have come, or a word is owed below
abbrev pub is_on_its_way : Target → Port → Port → ℕ → Bool
is_on_its_way target up down c =
    nat_lt (length (operations_among target down.shape (taken_at down (suc c))))
    (length (operations_among target up.shape (shown_at up (suc c))))
    || has_word_ready target up down (suc c) || is_owed down c

-- What the words of a command line ask for.
use Rattle.std.specs.Prelude.{◌≡◌, ◌≢◌, ℕ, ◌+◌, ◌-◌, ◌^◌, ◌<◌, ◌≤◌, List, length, slice_get, Some, codes, decimal, All}
use Rattle.routed_modules.specs.declared.routed.Routed.{Routed}
use Rattle.task_words.specs.Asking.{module_word, AreWordsOf, AsksForModule}
use Rattle.task_words.specs.declared.Task.{Task}
use Rattle.task_words.specs.declared.Task.TheVariants.{Generate, Check, Simulate, Replay, Dump, Undump, Campaign, Bridge, Workload, Module}

-- a word that isn't empty and doesn't begin with `-`
pub record IsPlainWord (word : List ℕ) : Type 0 where
  pub some_byte : 0 < length word
  pub no_option : slice_get word 0 ≢ Some 45

-- the word of a task
abbrev pub word_of : Task → List ℕ
word_of Generate = codes "generate"
word_of Check = codes "check"
word_of Simulate = codes "simulate"
word_of Replay = codes "replay"
word_of Dump = codes "dump"
word_of Undump = codes "undump"
word_of (Campaign number) = codes "campaign"
word_of (Bridge cycles) = codes "bridge"
word_of (Workload number) = codes "workload"
word_of (Module wanted) = module_word wanted

-- so many words are a task's: its word, its numbers, and its files: a system and any number of components, for a simulation with
-- a scenario between them, for a bridge with transactions; or a Verilog text and waves; or a dump; or none
abbrev pub AreEnough : Task → ℕ → Type 0
AreEnough Generate words = 2 ≤ words
AreEnough Check words = 2 ≤ words
AreEnough Simulate words = 3 ≤ words
AreEnough Replay words = words ≡ 3
AreEnough Dump words = words ≡ 3
AreEnough Undump words = words ≡ 2
AreEnough (Campaign number) words = 3 ≤ words
AreEnough (Bridge cycles) words = 4 ≤ words
AreEnough (Workload number) words = words ≡ 2
AreEnough (Module wanted) words = AreWordsOf wanted words

-- of so many words of a task, how many are its word and the names of files: numbers name none
abbrev pub file_words : Task → ℕ → ℕ
file_words Generate words = words
file_words Check words = words
file_words Simulate words = words
file_words Replay words = words
file_words Dump words = words
file_words Undump words = words
file_words (Campaign number) words = words - 1
file_words (Bridge cycles) words = words - 1
file_words (Workload number) words = 1
file_words (Module wanted) words = 1

-- the word that names a file of a task, where files are counted from 1: a number may stand before them
abbrev pub named_by : Task → ℕ → ℕ
named_by Generate file = file
named_by Check file = file
named_by Simulate file = file
named_by Replay file = file
named_by Dump file = file
named_by Undump file = file
named_by (Campaign number) file = file + 1
named_by (Bridge cycles) file = file + 1
named_by (Workload number) file = file
named_by (Module wanted) file = file

-- so many files are a task's
pub record AreItsFiles (task : Task) (files : ℕ) : Type 0 where
  pub words : ℕ
  pub enough : AreEnough task words
  pub count : files + 1 ≡ file_words task words

-- word 1 is a number in decimal, without leading zeros
pub record StatesNumber (words : List (List ℕ)) (number : ℕ) : Type 0 where
  pub few : number < 2 ^ 32
  pub is : slice_get words 1 ≡ Some (decimal number)

-- a bridge has from 1 to 65,536 cycles
pub record AreBridgeCycles (cycles : ℕ) : Type 0 where
  pub some : 1 ≤ cycles
  pub few : cycles ≤ 65536

-- the numbers of a task stand behind its word
abbrev pub StatesNumbers : Task → List (List ℕ) → Type 0
StatesNumbers Generate words = Unit {0}
StatesNumbers Check words = Unit {0}
StatesNumbers Simulate words = Unit {0}
StatesNumbers Replay words = Unit {0}
StatesNumbers Dump words = Unit {0}
StatesNumbers Undump words = Unit {0}
StatesNumbers (Campaign number) words = StatesNumber words number
StatesNumbers (Bridge cycles) words = StatesNumber words cycles × AreBridgeCycles cycles
StatesNumbers (Workload number) words = StatesNumber words number
StatesNumbers (Module wanted) words = AsksForModule wanted words

-- the words ask for this task
pub record AsksFor (words : List (List ℕ)) (task : Task) : Type 0 where
  pub plain : All IsPlainWord words
  pub command : slice_get words 0 ≡ Some (word_of task)
  pub files : AreEnough task (length words)
  pub numbers : StatesNumbers task words

-- the first word is a task's, and its numbers stand behind it
pub record Names (words : List (List ℕ)) (task : Task) : Type 0 where
  pub command : slice_get words 0 ≡ Some (word_of task)
  pub numbers : StatesNumbers task words

abbrev pub NamesNothing : List (List ℕ) → Type 0
NamesNothing words = (task : Task) → ¬ Names words task

-- a task without numbers
abbrev pub IsBare : Task → Type 0
IsBare (Campaign number) = ⊥
IsBare (Bridge cycles) = ⊥
IsBare (Workload number) = ⊥
IsBare (Module wanted) = ⊥
IsBare _ = Unit {0}

-- a task with this one number
abbrev pub HasNumber : ℕ → Task → Type 0
HasNumber n (Campaign number) = number ≡ n
HasNumber n (Bridge cycles) = (cycles ≡ n) × AreBridgeCycles cycles
HasNumber n (Workload number) = number ≡ n
HasNumber n _ = ⊥

-- a task of this kind has this word
pub record IsWordOf (IsOfKind : Task → Type 0) (word : List ℕ) (task : Task) : Type 0 where
  pub kind : IsOfKind task
  pub named : word_of task ≡ word

-- they ask for nothing
abbrev pub AsksForNothing : List (List ℕ) → Type 0
AsksForNothing words = (task : Task) → ¬ AsksFor words task

-- the first word is that of a module
abbrev pub BeginsWithModule : List (List ℕ) → Type 0
BeginsWithModule words = (wanted : Routed) × (slice_get words 0 ≡ Some (module_word wanted))

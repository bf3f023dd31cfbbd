-- The files of a system among those of a task, and the words that name them.
use Rattle.std.specs.Prelude.{ℕ, ◌+◌, ◌-◌, ◌^◌, min, nat_lt, if◌then◌else◌, List, [], slice_index_or}
use Rattle.std.specs.List.{remove}
use Rattle.system_plan.specs.declared.faults.Refusal.{Refusal}
use Rattle.system_plan.specs.declared.faults.Refusal.TheVariants as refusal
use Rattle.task_words.specs.declared.Task.{Task}
use Rattle.task_words.specs.declared.Task.TheVariants.{Generate, Check, Simulate, Replay, Dump, Undump, Campaign, Bridge, Workload, Module}
use Rattle.answer_lines.specs.declared.exit.Exit.{Exit}
use Rattle.answer_lines.specs.Lines.{exit_of}

-- the files of a simulation or a bridge: all but the second are those of a system, and the second is a scenario or transactions
abbrev pub system_files : List (List ℕ) → List (List ℕ)
system_files files = remove files 1

abbrev pub second_file : List (List ℕ) → List ℕ
second_file files = slice_index_or files 1 []

-- so many words stand before the file of a system that aren't its words: a scenario or transactions before the component files,
-- and a number before all
abbrev pub words_before : Task → ℕ → ℕ
words_before Generate file = 0
words_before Check file = 0
words_before Simulate file = if nat_lt file 2 then 0 else 1
words_before Replay file = 0
words_before Dump file = 0
words_before Undump file = 0
words_before (Campaign number) file = 1
words_before (Bridge cycles) file = if nat_lt file 2 then 1 else 2
words_before (Workload number) file = 0
words_before (Module wanted) file = 0

-- the word that names this file of a task's system, as far as numbers go
abbrev pub word_of_file : Task → ℕ → ℕ
word_of_file task file = min (file + words_before task file) (2 ^ 32 - 1)

-- what refuses a system, at the word that names the file
abbrev pub by_words : Task → Refusal → Refusal
by_words task (refusal.Script place rule) = refusal.Script (record place { file = word_of_file task place.file }) rule
by_words task (refusal.Link connection rule other) = refusal.Link connection rule other
by_words task (refusal.Limit which count) = refusal.Limit which count
by_words task refusal.NoMemory = refusal.NoMemory

-- the answer to a task whose system is refused
abbrev pub answer_of_system : Task → Refusal → Exit
answer_of_system task refused = exit_of (by_words task refused)

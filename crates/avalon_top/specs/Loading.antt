-- What the steps of a run answer before its result is written.
use Rattle.std.specs.Prelude.{◌≡◌, ℕ, ◌+◌, ◌<◌, ◌⊎◌, List, length}
use Rattle.av_files.specs.Outside.{Rose, WhereTold}
use Rattle.answer_lines.specs.declared.exit.Exit.{Exit}
use Rattle.answer_lines.specs.declared.exit.Exit.TheVariants as exit
use Rattle.task_words.specs.declared.Task.{Task}
use Rattle.task_words.specs.Words.{AsksFor, AsksForNothing, file_words, named_by}
use Rattle.avalon_top.specs.Run.{Reads, most_bytes, IsReadFault, IsBytesLimit, CallsFor, IsOnly, StopsTask}

-- one file was not loaded
abbrev pub StopsAtFile : Task → ℕ → Reads → Exit → Type 0
StopsAtFile task file reads (exit.ReadFault f) =
    (f ≡ named_by task file) × Rose reads.before reads.after × (reads.failed ≡ named_by task file)
StopsAtFile task file reads (exit.Limit which count) =
    (which ≡ 5) × (count ≡ most_bytes task file + 1)
    × WhereTold (reads.told (named_by task file)) (λ bytes. most_bytes task file < length bytes)
StopsAtFile task file reads exit.NoMemory = Unit {0}
StopsAtFile task file reads _ = ⊥

-- the loading of the files of so many words stops
abbrev pub StopsLoading : Task → ℕ → Reads → Exit → Type 0
StopsLoading task words reads (exit.ReadFault file) = IsReadFault task file words reads
StopsLoading task words reads (exit.Limit which count) = IsBytesLimit task which count words reads.told
StopsLoading task words reads exit.NoMemory = Unit {0}
StopsLoading task words reads _ = ⊥

-- this answer alone is called for, and is no result, or memory was wanted
abbrev pub IsStop : (Exit → Type 0) → Exit → Type 0
IsStop IsCalled exit.Done = ⊥
IsStop IsCalled e = (e ≡ exit.NoMemory) ⊎ IsOnly IsCalled e

-- what files call for stops their task
abbrev pub StopsFiles : Task → List (List ℕ) → Exit → Type 0
StopsFiles task files e = IsStop (CallsFor task files) e

-- what stops a run of these words
abbrev pub Stops : List (List ℕ) → Reads → Exit → Type 0
Stops words reads exit.Usage = AsksForNothing words
Stops words reads e = (task : Task) × AsksFor words task × StopsTask task (file_words task (length words)) reads e

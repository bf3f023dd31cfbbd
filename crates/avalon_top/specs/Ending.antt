-- What a process of the program ends with.
use Rattle.std.specs.Prelude.{◌≡◌, ℕ, List, None, ◌⊎◌}
use Rattle.av_files.specs.Outside.{NamedFiles, RealOutput}
use Rattle.answer_lines.specs.declared.exit.Exit.{Exit}
use Rattle.answer_lines.specs.declared.exit.Exit.TheVariants.{NoMemory}
use Rattle.answer_lines.specs.Lines.{status_of, line_of}
use Rattle.avalon_top.specs.Run.{Reads, Writes, Answers, IsRefusal, WritesLine}

-- files of these names, of which no fault is counted
abbrev pub unread : List (List ℕ) → NamedFiles
unread names = record { names = names; faults = 0; failed = 0 }

-- an output of which no fault is counted
abbrev pub unwritten : RealOutput
unwritten = record { faults = 0 }

-- what is seen of files after a run that no fault was counted before
abbrev pub reads_of : NamedFiles → Reads
reads_of files = record { told = λ _. None; before = 0; after = files.faults; failed = files.failed }

-- what is seen of an output after such a run
abbrev pub writes_of : RealOutput → Writes
writes_of output = record { held = None; holds = None; before = 0; after = output.faults }

-- the words were run over the files that they name and over standard output, left so, and had this answer, whose line was written
pub record HadAnswer (words : List (List ℕ)) (answer : Exit) : Type 0 where
  pub files : NamedFiles
  pub output : RealOutput
  pub answers : Answers words (reads_of files) (writes_of output) answer
  pub line : IsRefusal answer → WritesLine (line_of answer) (writes_of output)

-- the words had an answer, and this is its status
pub record IsStatusOf (words : List (List ℕ)) (status : ℕ) : Type 0 where
  pub answer : Exit
  pub had : HadAnswer words answer
  pub status_is : status ≡ status_of answer

-- the status of a process: that of the words that it was given, or of want of memory for these
abbrev pub IsEnd : ℕ → Type 0
IsEnd status = (status ≡ status_of NoMemory) ⊎ ((words : List (List ℕ)) × IsStatusOf words status)

-- What a run answers, and when.
use Rattle.std.specs.Prelude.{◌≡◌, ℕ, ◌+◌, ◌<◌, ◌≤◌, ◌⊎◌, List, length, take, slice_get, slice_index_or, ◌==◌, if◌then◌else◌, [], Option, Some}
use Rattle.av_files.specs.Outside.{Rose, with_more, WhereTold}
use Rattle.link_rules.specs.Plans.{PlanTable}
use Rattle.system_plan.specs.Plans.{IsPlanned, IsAccepted, IsRefusedBy}
use Rattle.map_text.specs.Text.{map_text}
use Rattle.interconnect.specs.Interconnect.{IsInterconnect}
use Rattle.netlist.specs.Netlists.{Netlist, IsModule}
use Rattle.verilog_writer.specs.Text.{text_of}
use Rattle.waves.specs.Rules.{number_of}
use Rattle.replays.specs.declared.faults.ReplayFault.{ReplayFault}
use Rattle.replays.specs.declared.faults.ReplayFault.TheVariants as fault
use Rattle.replays.specs.Texts.{CanReplayText, IsReplayOfText, IsReplayTextFault}
use Rattle.dumps.specs.Dumps.{IsDumpOfText}
use Rattle.vcd_reader.specs.Rules.{number_of as rule_number}
use Rattle.vcd_reader.specs.declared.undumps.UndumpFault.{UndumpFault}
use Rattle.vcd_reader.specs.declared.undumps.UndumpFault.TheVariants as undump
use Rattle.vcd_reader.specs.Undumps.{CanUndump, IsUndumpOf, IsUndumpFault}
use Rattle.routed_modules.specs.declared.routed.Routed.{Routed}
use Rattle.routed_modules.specs.Routed.{IsRoutedModule}
use Rattle.scenario_runs.specs.Prepared.{IsTraceOf}
use Rattle.scenario_runs.specs.Workloads.{IsWorkloadText}
use Rattle.scenario_runs.specs.Campaigns.{IsCampaignText}
use Rattle.scenario_runs.specs.Bridged.{IsBridged}
use Rattle.answer_lines.specs.declared.exit.StepRule.TheVariants.{Waves}
use Rattle.answer_lines.specs.declared.exit.Exit.{Exit}
use Rattle.answer_lines.specs.declared.exit.Exit.TheVariants as exit
use Rattle.answer_lines.specs.Lines.{exit_of}
use Rattle.task_words.specs.declared.Task.{Task}
use Rattle.task_words.specs.declared.Task.TheVariants.{Generate, Check, Simulate, Replay, Dump, Undump, Campaign, Bridge, Workload, Module}
use Rattle.task_words.specs.Words.{AsksFor, AsksForNothing, file_words, named_by}
use Rattle.avalon_top.specs.Systems.{system_files, second_file}
use Rattle.avalon_top.specs.Simulate.{SimulateCallsFor}
use Rattle.avalon_top.specs.Campaign.{CampaignCallsFor}
use Rattle.avalon_top.specs.Bridge.{BridgeCallsFor}
use Rattle.avalon_top.specs.Done.{CallsForDone}
use Rattle.avalon_top.specs.Refused.{DoneOrRefused}

-- ---- what files call for

-- the answer that the files of a system call for, where nothing fails, whether its text or its maps are asked for
abbrev pub SystemCallsFor : List (List ℕ) → Exit → Type 0
SystemCallsFor files = DoneOrRefused (IsAccepted files) (IsRefusedBy files) exit_of

-- the files of a replay
abbrev pub text_in : List (List ℕ) → List ℕ
text_in files = slice_index_or files 0 []

abbrev pub waves_in : List (List ℕ) → List ℕ
waves_in files = slice_index_or files 1 []

-- the answer to a replay that is refused: L4 is passed by one net more than 2^20, and L6 by so many values of nets
abbrev pub answer_of : ReplayFault → Exit
answer_of (fault.TextRefused byte rule) = exit.VerilogRefused byte rule
answer_of fault.TooManyNets = exit.Limit 4 1048577
answer_of (fault.WavesRefused line rule) = exit.ScenarioRefused 2 line (Waves (number_of rule))
answer_of (fault.TooManyValues count) = exit.Limit 6 count
answer_of fault.NoMemory = exit.NoMemory

-- the answer that a text and waves call for, where nothing fails
abbrev pub ReplayCallsFor : List ℕ → List ℕ → Exit → Type 0
ReplayCallsFor text waves = DoneOrRefused (CanReplayText text waves) (IsReplayTextFault text waves) answer_of

-- the file of a dump
abbrev pub dump_in : List (List ℕ) → List ℕ
dump_in files = slice_index_or files 0 []

-- the answer to a dump that is refused: L6 is passed by so many values of ports
abbrev pub answer_of_dump : UndumpFault → Exit
answer_of_dump (undump.Refused byte rule) = exit.DumpRefused byte (rule_number rule)
answer_of_dump (undump.TooManyValues count) = exit.Limit 6 count
answer_of_dump undump.NoMemory = exit.NoMemory

-- the answer that a dump calls for, where nothing fails
abbrev pub UndumpCallsFor : List ℕ → Exit → Type 0
UndumpCallsFor dump = DoneOrRefused (CanUndump dump) (IsUndumpFault dump) answer_of_dump

-- the answer that the files of a task call for, where nothing fails
abbrev pub CallsFor : Task → List (List ℕ) → Exit → Type 0
CallsFor Generate files = SystemCallsFor files
CallsFor Check files = SystemCallsFor files
CallsFor Simulate files = SimulateCallsFor (system_files files) (second_file files)
CallsFor Replay files = ReplayCallsFor (text_in files) (waves_in files)
CallsFor Dump files = ReplayCallsFor (text_in files) (waves_in files)
CallsFor Undump files = UndumpCallsFor (dump_in files)
CallsFor (Campaign number) files = CampaignCallsFor number files
CallsFor (Bridge cycles) files = BridgeCallsFor cycles (system_files files) (second_file files)
CallsFor (Workload number) files = CallsForDone
CallsFor (Module wanted) files = CallsForDone

-- this answer is called for, and no other
pub record IsOnly (IsCalled : Exit → Type 0) (answer : Exit) : Type 0 where
  pub called : IsCalled answer
  pub only : (other : Exit) → IsCalled other → other ≡ answer

-- the files of a task call for this answer, and for no other
abbrev pub IsOnlyAnswer : Task → List (List ℕ) → Exit → Type 0
IsOnlyAnswer task files answer = IsOnly (CallsFor task files) answer

-- the text is that of this module, and of no other
pub record IsOnlyTextOf (netlist : Netlist) (text : List ℕ) : Type 0 where
  pub is_module : IsModule netlist
  pub is_text : text ≡ text_of netlist
  pub only : (other : Netlist) → IsModule other → text ≡ text_of other → other ≡ netlist

-- the text of the interconnect of a plan
abbrev pub IsInterconnectText : PlanTable → List ℕ → Type 0
IsInterconnectText plan text = (netlist : Netlist) × IsInterconnect plan netlist × IsOnlyTextOf netlist text

-- the text of a module that leads beats by their channels
abbrev pub IsModuleText : Routed → List ℕ → Type 0
IsModuleText wanted text = (netlist : Netlist) × IsRoutedModule wanted netlist × IsOnlyTextOf netlist text

-- the text of its maps
abbrev pub IsMapText : PlanTable → List ℕ → Type 0
IsMapText plan text = text ≡ map_text plan

-- the files state a plan of which this holds
pub record StatePlan (files : List (List ℕ)) (P : PlanTable → Type 0) : Type 0 where
  pub plan : PlanTable
  pub planned : IsPlanned files plan
  pub holds : P plan

-- the text that a task writes of files
abbrev pub IsTextOf : Task → List (List ℕ) → List ℕ → Type 0
IsTextOf Generate files text = StatePlan files (λ plan. IsInterconnectText plan text)
IsTextOf Check files text = StatePlan files (λ plan. IsMapText plan text)
IsTextOf Simulate files text = IsTraceOf (system_files files) (second_file files) text
IsTextOf Replay files text = IsReplayOfText (text_in files) (waves_in files) text
IsTextOf Dump files text = IsDumpOfText (text_in files) (waves_in files) text
IsTextOf Undump files text = IsUndumpOf (dump_in files) text
IsTextOf (Campaign number) files text = IsCampaignText files number text
IsTextOf (Bridge cycles) files text = IsBridged (system_files files) (second_file files) cycles text
IsTextOf (Workload number) files text = IsWorkloadText number text
IsTextOf (Module wanted) files text = IsModuleText wanted text

-- it is what the files call for
pub record IsResult (task : Task) (files : List (List ℕ)) (text : List ℕ) : Type 0 where
  pub is_text : IsTextOf task files text
  pub only : IsOnlyAnswer task files exit.Done

-- ---- what is seen of the outside

-- what is seen of the shelf in a run: the bytes that it tells of each file, its count of faults before and after, and the file of
-- its last fault
pub record Reads : Type 0 where
  pub told : ℕ → Option (List ℕ)
  pub before : ℕ
  pub after : ℕ
  pub failed : ℕ

-- what is seen of the sink: what it holds, where that is told, and its count of faults, before and after
pub record Writes : Type 0 where
  pub held : Option (List ℕ)
  pub holds : Option (List ℕ)
  pub before : ℕ
  pub after : ℕ

-- what is seen of a shelf and of a sink by these words of theirs, from before a call to behind it
abbrev pub reads_by : {A : Type 0} → (A → ℕ → Option (List ℕ)) → (A → ℕ) → (A → ℕ) → A → A → Reads
reads_by told faults failed old new = record { told = told old; before = faults old; after = faults new; failed = failed new }

abbrev pub writes_by : {A : Type 0} → (A → Option (List ℕ)) → (A → ℕ) → A → A → Writes
writes_by held faults old new = record { held = held old; holds = held new; before = faults old; after = faults new }

-- the most bytes that are read of this file of a task: 2^28 of a Verilog text, 2^24 of a dump, and 2^20 of any other
abbrev pub most_bytes : Task → ℕ → ℕ
most_bytes Generate file = 1048576
most_bytes Check file = 1048576
most_bytes Simulate file = 1048576
most_bytes Replay file = if file == 1 then 268435456 else 1048576
most_bytes Dump file = if file == 1 then 268435456 else 1048576
most_bytes Undump file = 16777216
most_bytes (Campaign number) file = 1048576
most_bytes (Bridge cycles) file = 1048576
most_bytes (Workload number) file = 1048576
most_bytes (Module wanted) file = 1048576

-- no file of a task is longer than is read
abbrev pub AreShort : Task → List (List ℕ) → Type 0
AreShort task files = (k : ℕ) (bytes : List ℕ) → slice_get files k ≡ Some bytes → length bytes ≤ most_bytes task (k + 1)

-- files that were loaded, numbered from 1: each is what the shelf tells of it, where it tells it, and no longer than is read
pub record AreLoaded (task : Task) (told : ℕ → Option (List ℕ)) (files : List (List ℕ)) : Type 0 where
  pub each : (k : ℕ) (bytes : List ℕ) → slice_get files k ≡ Some bytes
      → WhereTold (told (named_by task (k + 1))) (λ is. bytes ≡ is)
  pub short : AreShort task files

-- all files of the words were loaded, each named by a word but the first
pub record AreFiles (task : Task) (told : ℕ → Option (List ℕ)) (words : ℕ) (files : List (List ℕ)) : Type 0 where
  pub few : words ≤ 65
  pub count : length files + 1 ≡ words
  pub loaded : AreLoaded task told files

-- ---- when each answer comes

-- more files than are read
pub record IsFilesLimit (which count words : ℕ) : Type 0 where
  pub limit : which ≡ 7
  pub count_is : count + 1 ≡ words
  pub passed : 64 < count

-- a file that is longer than is read, where it is told; those before it were loaded
pub record IsBytesLimit (task : Task) (which count words : ℕ) (told : ℕ → Option (List ℕ)) : Type 0 where
  pub limit : which ≡ 5
  pub few : words ≤ 65
  pub earlier : List (List ℕ)
  pub loaded : AreLoaded task told earlier
  pub inside : length earlier + 1 < words
  pub count_is : count ≡ most_bytes task (length earlier + 1) + 1
  pub long : WhereTold (told (named_by task (length earlier + 1))) (λ bytes. most_bytes task (length earlier + 1) < length bytes)

-- a read that failed, of a file of the words; those before it were loaded
pub record IsReadFault (task : Task) (file words : ℕ) (reads : Reads) : Type 0 where
  pub few : words ≤ 65
  pub earlier : List (List ℕ)
  pub loaded : AreLoaded task reads.told earlier
  pub inside : length earlier + 1 < words
  pub number : file ≡ named_by task (length earlier + 1)
  pub rose : Rose reads.before reads.after
  pub is_failed : reads.failed ≡ file

-- all files were loaded, and this is the one answer that they call for
pub record IsCalledFor (task : Task) (words : ℕ) (told : ℕ → Option (List ℕ)) (answer : Exit) : Type 0 where
  pub files : List (List ℕ)
  pub are_files : AreFiles task told words files
  pub only : IsOnlyAnswer task files answer

-- all files were loaded, and the text of their result was written whole
pub record IsWritten (task : Task) (words : ℕ) (told : ℕ → Option (List ℕ)) (writes : Writes) : Type 0 where
  pub files : List (List ℕ)
  pub are_files : AreFiles task told words files
  pub text : List ℕ
  pub result : IsResult task files text
  pub whole : writes.holds ≡ with_more writes.held text

-- it was written in part, and the sink counts a fault
pub record IsWriteFault (task : Task) (words : ℕ) (told : ℕ → Option (List ℕ)) (writes : Writes) : Type 0 where
  pub files : List (List ℕ)
  pub are_files : AreFiles task told words files
  pub text : List ℕ
  pub result : IsResult task files text
  pub count : ℕ
  pub part : count < length text
  pub written : writes.holds ≡ with_more writes.held (take count text)
  pub rose : Rose writes.before writes.after

-- what stops a task before its result is written
abbrev pub StopsTask : Task → ℕ → Reads → Exit → Type 0
StopsTask task words reads (exit.ReadFault file) = IsReadFault task file words reads
StopsTask task words reads (exit.Limit which count) =
    IsFilesLimit which count words
    ⊎ (IsBytesLimit task which count words reads.told ⊎ IsCalledFor task words reads.told (exit.Limit which count))
StopsTask task words reads exit.NoMemory = words ≤ 65
StopsTask task words reads exit.Done = ⊥
StopsTask task words reads exit.Usage = ⊥
StopsTask task words reads exit.WriteFault = ⊥
StopsTask task words reads refused = IsCalledFor task words reads.told refused

-- when each answer to a task comes, and what stands after it
abbrev pub AnswersTask : Task → ℕ → Reads → Writes → Exit → Type 0
AnswersTask task words reads writes exit.Done = IsWritten task words reads.told writes
AnswersTask task words reads writes exit.WriteFault = IsWriteFault task words reads.told writes
AnswersTask task words reads writes e = StopsTask task words reads e

-- the same, for any words
abbrev pub Answers : List (List ℕ) → Reads → Writes → Exit → Type 0
Answers words reads writes exit.Usage = AsksForNothing words
Answers words reads writes e =
    (task : Task) × AsksFor words task × AnswersTask task (file_words task (length words)) reads writes e

-- an answer that writes its line: each but `Done` and `WriteFault`
abbrev pub IsRefusal : Exit → Type 0
IsRefusal exit.Done = ⊥
IsRefusal exit.WriteFault = ⊥
IsRefusal e = Unit {0}

-- the sink holds the line besides, or a proper prefix of it after a fault
abbrev pub WritesLine : List ℕ → Writes → Type 0
WritesLine line writes =
    (writes.holds ≡ with_more writes.held line)
    ⊎ ((count : ℕ) × (count < length line) × (writes.holds ≡ with_more writes.held (take count line))
    × Rose writes.before writes.after)

-- the words ask for the task, the shelf tells all their files, which are few and short, and no fault is counted
pub record NothingFails (task : Task) (files words : List (List ℕ)) (reads : Reads) (writes : Writes) : Type 0 where
  pub asks : AsksFor words task
  pub few : length files ≤ 64
  pub count : length files + 1 ≡ file_words task (length words)
  pub told : (k : ℕ) (bytes : List ℕ) → slice_get files k ≡ Some bytes → reads.told (named_by task (k + 1)) ≡ Some bytes
  pub short : AreShort task files
  pub reads_well : ¬ Rose reads.before reads.after
  pub writes_well : ¬ Rose writes.before writes.after

-- where nothing fails, the answer is the one that the files call for, or want of memory
abbrev pub IsComplete : List (List ℕ) → Reads → Writes → Exit → Type 0
IsComplete words reads writes answer =
    (task : Task) (files : List (List ℕ)) → NothingFails task files words reads writes
    → (answer ≡ exit.NoMemory) ⊎ IsOnlyAnswer task files answer

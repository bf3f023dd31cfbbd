-- What a run is to write, and what stands once it was to be written.
use Rattle.std.specs.Prelude.{◌≡◌, ℕ, ◌<◌, List, length, take}
use Rattle.av_files.specs.Outside.{Rose, with_more}
use Rattle.port_tables.specs.PortMaps.{AreTold}
use Rattle.interconnect.specs.Interconnect.{IsInterconnect}
use Rattle.scenario_tables.specs.Scenarios.{IsScenario}
use Rattle.simulations.specs.Traces.{IsTrace}
use Rattle.scenario_runs.specs.declared.prepared.Prepared.{Prepared}
use Rattle.scenario_runs.specs.Prepared.{IsPrepared}
use Rattle.scenario_runs.specs.declared.campaign.Campaign.{Campaign as Lanes}
use Rattle.scenario_runs.specs.Campaigns.{CanRun, IsCampaign, IsTextOfModule}
use Rattle.packet_bytes.specs.declared.replies.Replies.{Replies as Replied}
use Rattle.packet_bytes.specs.Noted.{HasNoted, sent}
use Rattle.scenario_runs.specs.Bridged.{HaveNoted}
use Rattle.answer_lines.specs.declared.exit.Exit.{Exit}
use Rattle.answer_lines.specs.declared.exit.Exit.TheVariants as exit
use Rattle.answer_lines.specs.Lines.{line_of}
use Rattle.task_words.specs.declared.Task.{Task}
use Rattle.task_words.specs.declared.Task.TheVariants.{Simulate, Campaign, Bridge}
use Rattle.task_words.specs.Words.{AsksFor, file_words}
use Rattle.avalon_top.specs.declared.outcome.Outcome.{Outcome}
use Rattle.avalon_top.specs.declared.outcome.Outcome.TheVariants.{Text, Trace, Counted, Replies}
use Rattle.avalon_top.specs.Systems.{system_files, second_file}
use Rattle.avalon_top.specs.Run.{Reads, Writes, AreFiles, IsResult, IsOnlyAnswer, WritesLine}

-- the files call for a simulation that is ready to run
pub record IsSimulation (task : Task) (files : List (List ℕ)) (prepared : Prepared) : Type 0 where
  pub task_is : task ≡ Simulate
  pub ready : IsPrepared (system_files files) (second_file files) prepared
  pub only : IsOnlyAnswer task files exit.Done

-- they call for a campaign that is ready to run
pub record IsReadyCampaign (task : Task) (files : List (List ℕ)) (campaign : Lanes) : Type 0 where
  pub number : ℕ
  pub task_is : task ≡ Campaign number
  pub ready : IsCampaign files number campaign
  pub only : IsOnlyAnswer task files exit.Done

-- they call for the replies of a bridge whose run is noted
pub record AreNotedReplies (task : Task) (files : List (List ℕ)) (replies : Replied) : Type 0 where
  pub cycles : ℕ
  pub task_is : task ≡ Bridge cycles
  pub noted : HaveNoted (system_files files) (second_file files) cycles replies
  pub only : IsOnlyAnswer task files exit.Done

-- what a task is to write of files
abbrev pub IsOutcome : Task → List (List ℕ) → Outcome → Type 0
IsOutcome task files (Text bytes) = IsResult task files bytes
IsOutcome task files (Trace prepared) = IsSimulation task files prepared
IsOutcome task files (Counted campaign) = IsReadyCampaign task files campaign
IsOutcome task files (Replies replies) = AreNotedReplies task files replies

-- what a run of these words is to write
pub record IsOutcomeOf (words : List (List ℕ)) (reads : Reads) (outcome : Outcome) : Type 0 where
  pub task : Task
  pub asks : AsksFor words task
  pub files : List (List ℕ)
  pub are_files : AreFiles task reads.told (file_words task (length words)) files
  pub is : IsOutcome task files outcome

-- a simulation that can run
pub record IsReady (prepared : Prepared) : Type 0 where
  pub interconnect : IsInterconnect prepared.plan prepared.module
  pub ports : AreTold prepared.plan.system prepared.ports
  pub scenario : IsScenario prepared.plan.system prepared.scenario

-- replies that have noted a run so far
pub record HaveNotedSome (replies : Replied) : Type 0 where
  pub beats : ℕ
  pub words : List ℕ
  pub noted : HasNoted beats words replies

abbrev pub CanBeWritten : Outcome → Type 0
CanBeWritten (Text bytes) = Unit {0}
CanBeWritten (Trace prepared) = IsReady prepared
CanBeWritten (Counted campaign) = CanRun campaign
CanBeWritten (Replies replies) = HaveNotedSome replies

-- a text of which this holds was written whole
pub record IsWhole (IsText : List ℕ → Type 0) (writes : Writes) : Type 0 where
  pub text : List ℕ
  pub is_text : IsText text
  pub whole : writes.holds ≡ with_more writes.held text

-- it was written in part, and the sink counts a fault
pub record IsPart (IsText : List ℕ → Type 0) (writes : Writes) : Type 0 where
  pub text : List ℕ
  pub is_text : IsText text
  pub count : ℕ
  pub part : count < length text
  pub written : writes.holds ≡ with_more writes.held (take count text)
  pub rose : Rose writes.before writes.after

-- when each answer comes, once such a text was to be written
abbrev pub EndsText : (List ℕ → Type 0) → Writes → Exit → Type 0
EndsText IsText writes exit.Done = IsWhole IsText writes
EndsText IsText writes exit.WriteFault = IsPart IsText writes
EndsText IsText writes exit.NoMemory = WritesLine (line_of exit.NoMemory) writes
EndsText IsText writes _ = ⊥

-- and once an outcome was to be written
abbrev pub Ends : Outcome → Writes → Exit → Type 0
Ends (Text bytes) writes e = EndsText (λ text. text ≡ bytes) writes e
Ends (Trace prepared) writes e = EndsText (IsTrace prepared.plan prepared.scenario prepared.module) writes e
Ends (Counted campaign) writes e = EndsText (IsTextOfModule campaign.plan campaign.number campaign.lanes.netlist) writes e
Ends (Replies replies) writes e =
    (beats : ℕ) (words : List ℕ) → HasNoted beats words replies
    → EndsText (λ text. text ≡ sent replies.transfers beats words) writes e

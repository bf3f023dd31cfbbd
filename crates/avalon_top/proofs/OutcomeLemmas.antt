-- from what was to be written to the answer of a run
use Rattle.std.proofs.Common.{◌≡◌, ℕ, List, inl, inr, subst, refl, sym}
use Rattle.scenario_runs.specs.declared.prepared.Prepared.{Prepared}
use Rattle.simulations.specs.Traces.{IsTrace, AreCounts}
use Rattle.answer_lines.specs.declared.exit.Exit.{Exit}
use Rattle.answer_lines.specs.declared.exit.Exit.TheVariants as exit
use Rattle.answer_lines.specs.Lines.{line_of}
use Rattle.task_words.specs.declared.Task.{Task}
use Rattle.task_words.specs.declared.Task.TheVariants.{Simulate}
use Rattle.scenario_runs.specs.declared.campaign.Campaign.{Campaign as Lanes}
use Rattle.scenario_runs.specs.Campaigns.{IsCampaign, IsCampaignText, IsTextOfModule, IsTextOfLanes, EndsCampaign, lane_scenario}
use Rattle.link_rules.specs.Plans.{PlanTable}
use Rattle.netlist.specs.Netlists.{Netlist}
use Rattle.lane_sim.specs.LaneSims.{LanesValue}
use Rattle.packet_bytes.specs.Noted.{sent}
use Rattle.avalon_top.specs.declared.outcome.Outcome.{Outcome}
use Rattle.avalon_top.specs.declared.outcome.Outcome.TheVariants.{Text, Trace, Counted, Replies}
use Rattle.avalon_top.specs.Run.{Reads, Writes, IsTextOf, IsResult, IsOnlyAnswer, Answers, IsRefusal, WritesLine, IsComplete}
use Rattle.avalon_top.specs.Loading.{StopsFiles}
use Rattle.avalon_top.specs.Outcome.{IsSimulation, IsOutcome, IsOutcomeOf, CanBeWritten, Ends, EndsText}
use Rattle.avalon_top.proofs.AnswerLemmas.{same_answer}

-- the trace of a simulation of files is their result
simulated : (files : List (List ℕ)) (prepared : Prepared) (text : List ℕ) → IsSimulation Simulate files prepared → IsTrace prepared.plan prepared.scenario prepared.module text → IsResult Simulate files text
simulated files prepared text is trace = record {
  is_text = record {
    plan = prepared.plan;
    planned = is.ready.planned;
    scenario = prepared.scenario;
    stated = is.ready.stated;
    netlist = prepared.module;
    interconnect = is.ready.interconnect;
    is_module = is.ready.sound;
    is_trace = trace;
  };
  only = is.only;
}

-- what is told of a campaign of files is theirs
counted : (files : List (List ℕ)) (number : ℕ) (campaign : Lanes) (text : List ℕ) → IsCampaign files number campaign → IsTextOfModule campaign.plan campaign.number campaign.lanes.netlist text
    → IsCampaignText files number text
counted files number campaign text is told = record {
  plan = campaign.plan;
  planned = is.planned;
  netlist = campaign.lanes.netlist;
  interconnect = is.can_run.interconnect;
  is_module = is.can_run.is_module;
  is_text = subst (λ (n : ℕ). IsTextOfModule campaign.plan n campaign.lanes.netlist text) is.number_is told;
}

-- where what is written of one text holds of another, it ends so
ends_as : (IsOne IsOther : List ℕ → Type 0) (writes : Writes) (e : Exit) → ((text : List ℕ) → IsOne text → IsOther text) → EndsText IsOne writes e → EndsText IsOther writes e
ends_as IsOne IsOther writes exit.Done other ends = record { text = ends.text; is_text = other ends.text ends.is_text; whole = ends.whole }
ends_as IsOne IsOther writes exit.WriteFault other ends = record {
  text = ends.text;
  is_text = other ends.text ends.is_text;
  count = ends.count;
  part = ends.part;
  written = ends.written;
  rose = ends.rose;
}
ends_as IsOne IsOther writes exit.NoMemory other ends = ends
ends_as IsOne IsOther writes exit.Usage other ends = absurd ends
ends_as IsOne IsOther writes (exit.ReadFault file) other ends = absurd ends
ends_as IsOne IsOther writes (exit.ScriptRefused place rule) other ends = absurd ends
ends_as IsOne IsOther writes (exit.LinkRefused connection rule other_one) other ends = absurd ends
ends_as IsOne IsOther writes (exit.Limit which count) other ends = absurd ends
ends_as IsOne IsOther writes (exit.VerilogRefused byte rule) other ends = absurd ends
ends_as IsOne IsOther writes (exit.ScenarioRefused file line rule) other ends = absurd ends
ends_as IsOne IsOther writes (exit.DumpRefused byte rule) other ends = absurd ends
ends_as IsOne IsOther writes (exit.PacketRefused byte rule) other ends = absurd ends

-- the text of what a task is to write is its result
ends_result : (task : Task) (files : List (List ℕ)) (writes : Writes) (outcome : Outcome) (e : Exit) → IsOutcome task files outcome → Ends outcome writes e → EndsText (IsResult task files) writes e
ends_result task files writes (Text bytes) e is ends = ends_as (λ text. text ≡ bytes) (IsResult task files) writes e (λ text same. subst (IsResult task files) (sym same) is) ends
ends_result task files writes (Trace prepared) e is ends =
    ends_as (IsTrace prepared.plan prepared.scenario prepared.module) (IsResult task files) writes e
    (λ text trace. subst (λ (t : Task). IsResult t files text) (sym is.task_is)
    (simulated files prepared text (subst (λ (t : Task). IsSimulation t files prepared) is.task_is is) trace))
    ends
ends_result task files writes (Counted campaign) e is ends =
    ends_as (IsTextOfModule campaign.plan campaign.number campaign.lanes.netlist) (IsResult task files) writes e
    (λ text told. record { is_text = subst (λ (t : Task). IsTextOf t files text) (sym is.task_is) (counted files is.number campaign text is.ready told); only = is.only })
    ends
ends_result task files writes (Replies replies) e is ends =
    ends_as (λ text. text ≡ sent replies.transfers is.noted.beats is.noted.words) (IsResult task files) writes e
    (λ text same. record {
      is_text = subst (λ (t : Task). IsTextOf t files text) (sym is.task_is)
          (record { transfers = replies.transfers; beats = is.noted.beats; words = is.noted.words; is_run = is.noted.is_run; is_text = same });
      only = is.only;
    })
    (ends is.noted.beats is.noted.words is.noted.noted)

only_done : (task : Task) (files : List (List ℕ)) (outcome : Outcome) → IsOutcome task files outcome → IsOnlyAnswer task files exit.Done
only_done task files (Text bytes) is = is.only
only_done task files (Trace prepared) is = is.only
only_done task files (Counted campaign) is = is.only
only_done task files (Replies replies) is = is.only

-- ---- lanes that were run

-- what is told of lanes is told of their module
of_module : (plan : PlanTable) (number : ℕ) (lanes : LanesValue) (netlist : Netlist) (text : List ℕ) → lanes.netlist ≡ netlist → IsTextOfLanes plan number lanes text → IsTextOfModule plan number netlist text
of_module plan number lanes netlist text same is = record {
  counts = is.counts;
  count = is.count;
  each = λ lane of at.
      (let counted = is.each lane of at in
      subst (λ (n : Netlist). AreCounts plan (lane_scenario plan number lane) n of) same (record { run = counted.run; simulated = counted.simulated; counted = counted.counted }));
  is_text = is.is_text;
}

-- when the answers to a campaign come but for want of memory
pub campaign_ends : (campaign : Lanes) (lanes : LanesValue) (writes : Writes) (e : Exit) → lanes.netlist ≡ campaign.lanes.netlist → (e ≡ exit.NoMemory → ⊥)
    → EndsCampaign campaign.plan campaign.number lanes writes.held writes.holds writes.before writes.after e → Ends (Counted campaign) writes e
campaign_ends campaign lanes writes exit.Done same other ends =
    record { text = ends.text; is_text = of_module campaign.plan campaign.number lanes campaign.lanes.netlist ends.text same ends.is_text; whole = ends.whole }
campaign_ends campaign lanes writes exit.WriteFault same other ends = record {
  text = ends.text;
  is_text = of_module campaign.plan campaign.number lanes campaign.lanes.netlist ends.text same ends.is_text;
  count = ends.count;
  part = ends.part;
  written = ends.written;
  rose = ends.rose;
}
campaign_ends campaign lanes writes exit.NoMemory same other ends = absurd (other refl)
campaign_ends campaign lanes writes exit.Usage same other ends = absurd ends
campaign_ends campaign lanes writes (exit.ReadFault file) same other ends = absurd ends
campaign_ends campaign lanes writes (exit.ScriptRefused place rule) same other ends = absurd ends
campaign_ends campaign lanes writes (exit.LinkRefused connection rule other_one) same other ends = absurd ends
campaign_ends campaign lanes writes (exit.Limit which count) same other ends = absurd ends
campaign_ends campaign lanes writes (exit.VerilogRefused byte rule) same other ends = absurd ends
campaign_ends campaign lanes writes (exit.ScenarioRefused file line rule) same other ends = absurd ends
campaign_ends campaign lanes writes (exit.DumpRefused byte rule) same other ends = absurd ends
campaign_ends campaign lanes writes (exit.PacketRefused byte rule) same other ends = absurd ends

-- a result of the same task, with the same text
pub same_result : (task other : Task) (files : List (List ℕ)) (text result : List ℕ) → task ≡ other → text ≡ result → IsResult other files result → IsResult task files text
same_result task other files text result same is h = subst (λ (t : Task). IsResult t files text) (sym same) (subst (IsResult other files) (sym is) h)

-- what stops another task of the same files stops this one, where they are the same
pub stops_same : (task other : Task) (files given : List (List ℕ)) (e : Exit) → task ≡ other → given ≡ files → StopsFiles other given e → StopsFiles task files e
stops_same task other files given e is same s =
    subst (λ (t : Task). StopsFiles t files e) (sym is) (subst (λ (fs : List (List ℕ)). StopsFiles other fs e) same s)

-- what is to be written can be written
pub can_be_written : (words : List (List ℕ)) (reads : Reads) (outcome : Outcome) → IsOutcomeOf words reads outcome → CanBeWritten outcome
can_be_written words reads (Text bytes) is = tt
can_be_written words reads (Trace prepared) is = record { interconnect = is.is.ready.interconnect; ports = is.is.ready.ports; scenario = is.is.ready.fits }
can_be_written words reads (Counted campaign) is = is.is.ready.can_run
can_be_written words reads (Replies replies) is = record { beats = is.is.noted.beats; words = is.is.noted.words; noted = is.is.noted.noted }

-- once a result was to be written, the answer comes as it is to
ended_result : (words : List (List ℕ)) (reads : Reads) (writes : Writes) (outcome : Outcome) (is : IsOutcomeOf words reads outcome) (e : Exit) → EndsText (IsResult is.task is.files) writes e
    → Answers words reads writes e
ended_result words reads writes outcome is exit.Done whole =
    (is.task, is.asks, record { files = is.files; are_files = is.are_files; text = whole.text; result = whole.is_text; whole = whole.whole })
ended_result words reads writes outcome is exit.WriteFault part = (
  is.task,
  is.asks,
  record {
    files = is.files;
    are_files = is.are_files;
    text = part.text;
    result = part.is_text;
    count = part.count;
    part = part.part;
    written = part.written;
    rose = part.rose;
  },
)
ended_result words reads writes outcome is exit.NoMemory line = (is.task, is.asks, is.are_files.few)
ended_result words reads writes outcome is exit.Usage h = absurd h
ended_result words reads writes outcome is (exit.ReadFault file) h = absurd h
ended_result words reads writes outcome is (exit.ScriptRefused place rule) h = absurd h
ended_result words reads writes outcome is (exit.LinkRefused connection rule other) h = absurd h
ended_result words reads writes outcome is (exit.Limit which count) h = absurd h
ended_result words reads writes outcome is (exit.VerilogRefused byte rule) h = absurd h
ended_result words reads writes outcome is (exit.ScenarioRefused file line rule) h = absurd h
ended_result words reads writes outcome is (exit.DumpRefused byte rule) h = absurd h
ended_result words reads writes outcome is (exit.PacketRefused byte rule) h = absurd h

pub ended : (words : List (List ℕ)) (reads : Reads) (writes : Writes) (outcome : Outcome) (e : Exit) → IsOutcomeOf words reads outcome → Ends outcome writes e → Answers words reads writes e
ended words reads writes outcome e is ends = ended_result words reads writes outcome is e (ends_result is.task is.files writes outcome e is.is ends)

-- with its line, where it has one
line_of_result : (IsText : List ℕ → Type 0) (writes : Writes) (e : Exit) → EndsText IsText writes e → IsRefusal e → WritesLine (line_of e) writes
line_of_result IsText writes exit.Done ends refused = absurd refused
line_of_result IsText writes exit.WriteFault ends refused = absurd refused
line_of_result IsText writes exit.NoMemory ends refused = ends
line_of_result IsText writes exit.Usage ends refused = absurd ends
line_of_result IsText writes (exit.ReadFault file) ends refused = absurd ends
line_of_result IsText writes (exit.ScriptRefused place rule) ends refused = absurd ends
line_of_result IsText writes (exit.LinkRefused connection rule other) ends refused = absurd ends
line_of_result IsText writes (exit.Limit which count) ends refused = absurd ends
line_of_result IsText writes (exit.VerilogRefused byte rule) ends refused = absurd ends
line_of_result IsText writes (exit.ScenarioRefused file line rule) ends refused = absurd ends
line_of_result IsText writes (exit.DumpRefused byte rule) ends refused = absurd ends
line_of_result IsText writes (exit.PacketRefused byte rule) ends refused = absurd ends

pub ended_line : (words : List (List ℕ)) (reads : Reads) (writes : Writes) (outcome : Outcome) (e : Exit) → IsOutcomeOf words reads outcome → Ends outcome writes e → IsRefusal e → WritesLine (line_of e) writes
ended_line words reads writes outcome e is ends refused = line_of_result (IsResult is.task is.files) writes e (ends_result is.task is.files writes outcome e is.is ends) refused

-- and it is the one that the files call for, where nothing fails
well_result : (words : List (List ℕ)) (reads : Reads) (writes : Writes) (outcome : Outcome) (is : IsOutcomeOf words reads outcome) (e : Exit) → EndsText (IsResult is.task is.files) writes e
    → IsComplete words reads writes e
well_result words reads writes outcome is exit.Done whole task files well =
    inr (same_answer words reads writes exit.Done is.task task files is.files is.asks is.are_files well (only_done is.task is.files outcome is.is))
well_result words reads writes outcome is exit.WriteFault part task files well = absurd (well.writes_well part.rose)
well_result words reads writes outcome is exit.NoMemory line task files well = inl refl
well_result words reads writes outcome is exit.Usage h task files well = absurd h
well_result words reads writes outcome is (exit.ReadFault file) h task files well = absurd h
well_result words reads writes outcome is (exit.ScriptRefused place rule) h task files well = absurd h
well_result words reads writes outcome is (exit.LinkRefused connection rule other) h task files well = absurd h
well_result words reads writes outcome is (exit.Limit which count) h task files well = absurd h
well_result words reads writes outcome is (exit.VerilogRefused byte rule) h task files well = absurd h
well_result words reads writes outcome is (exit.ScenarioRefused file line rule) h task files well = absurd h
well_result words reads writes outcome is (exit.DumpRefused byte rule) h task files well = absurd h
well_result words reads writes outcome is (exit.PacketRefused byte rule) h task files well = absurd h

pub ended_well : (words : List (List ℕ)) (reads : Reads) (writes : Writes) (outcome : Outcome) (e : Exit) → IsOutcomeOf words reads outcome → Ends outcome writes e → IsComplete words reads writes e
ended_well words reads writes outcome e is ends = well_result words reads writes outcome is e (ends_result is.task is.files writes outcome e is.is ends)

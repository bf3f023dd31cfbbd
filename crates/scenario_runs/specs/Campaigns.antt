-- What is told of a campaign.
use Rattle.std.specs.Prelude.{◌≡◌, ℕ, ◌<◌, List, [], ◌∷◌, ◌++◌, length, take, codes, decimal, slice_get, slice_index_or, Some, Option}
use Rattle.av_files.specs.Outside.{Rose, with_more}
use Rattle.histories.specs.History.{before}
use Rattle.link_rules.specs.Plans.{PlanTable}
use Rattle.system_plan.specs.Plans.{IsPlanned}
use Rattle.netlist.specs.Netlists.{Netlist, IsModule}
use Rattle.netlist.specs.Runs.{Run}
use Rattle.cycle_sim.specs.Standing.{StandsFor}
use Rattle.lane_sim.specs.LaneSims.{LanesValue, lane_of}
use Rattle.interconnect.specs.Interconnect.{IsInterconnect}
use Rattle.port_tables.specs.PortMaps.{AreTold}
use Rattle.scenario_tables.specs.declared.scenario.Scenario.{Scenario}
use Rattle.drawn_scenarios.specs.Drawn.{drawn_scenario}
use Rattle.trace_lines.specs.declared.counts.Counts.{Counts}
use Rattle.simulations.specs.Runs.{IsCountedRun, no_counts}
use Rattle.simulations.specs.Traces.{AreCounts}
use Rattle.simulations.specs.Counted.{AreCountedRuns}
use Rattle.answer_lines.specs.declared.exit.Exit.{Exit}
use Rattle.answer_lines.specs.declared.exit.Exit.TheVariants as exit
use Rattle.scenario_runs.specs.declared.campaign.Campaign.{Campaign}

-- the line of a lane
abbrev pub lane_line : ℕ → Counts → List ℕ
lane_line lane counts =
    codes "lane " ++ decimal lane ++ codes " taken " ++ decimal counts.taken ++ codes " answered " ++ decimal counts.answered
    ++ codes " delivered " ++ decimal counts.delivered
    ++ codes " dropped " ++ decimal counts.dropped ++ codes "\n"

-- and the last
abbrev pub campaign_end : ℕ → List ℕ
campaign_end number = codes "end campaign " ++ decimal number ++ codes "\n"

-- the lines of eight lanes, and the last
abbrev pub campaign_text : ℕ → List Counts → List ℕ
campaign_text number counts = before (λ lane. lane_line lane (slice_index_or counts lane no_counts)) 8 ++ campaign_end number

-- the scenarios of a campaign: for each lane what is drawn for it and 256 cycles
abbrev pub lane_scenario : PlanTable → ℕ → ℕ → Scenario
lane_scenario plan number lane = drawn_scenario plan number lane 256

abbrev pub lane_scenarios : PlanTable → ℕ → List Scenario
lane_scenarios plan number = before (λ lane. lane_scenario plan number lane ∷ []) 8

-- the text tells what is counted of eight runs of a module, each of the scenario that is drawn for its lane, behind which the
-- lanes stand
pub record IsTextOfLanes (plan : PlanTable) (number : ℕ) (lanes : LanesValue) (text : List ℕ) : Type 0 where
  pub counts : List Counts
  pub count : length counts ≡ 8
  pub each : (lane : ℕ) (of : Counts) → slice_get counts lane ≡ Some of
      → IsCountedRun plan (lane_scenario plan number lane) lanes.netlist (lane_of lanes lane) of
  pub is_text : text ≡ campaign_text number counts

-- it tells what is counted of eight simulations on a module, in each lane of the scenario that is drawn for it
pub record IsTextOfModule (plan : PlanTable) (number : ℕ) (netlist : Netlist) (text : List ℕ) : Type 0 where
  pub counts : List Counts
  pub count : length counts ≡ 8
  pub each : (lane : ℕ) (of : Counts) → slice_get counts lane ≡ Some of
      → AreCounts plan (lane_scenario plan number lane) netlist of
  pub is_text : text ≡ campaign_text number counts

-- it tells that of a module of the plan that files state
pub record IsCampaignText (files : List (List ℕ)) (number : ℕ) (text : List ℕ) : Type 0 where
  pub plan : PlanTable
  pub planned : IsPlanned files plan
  pub netlist : Netlist
  pub interconnect : IsInterconnect plan netlist
  pub is_module : IsModule netlist
  pub is_text : IsTextOfModule plan number netlist text

-- no lane has stepped
abbrev pub AreUnstepped : LanesValue → Type 0
AreUnstepped lanes = (lane : ℕ) → lane < 8 → (run : Run) → StandsFor (lane_of lanes lane) run 0

-- lanes of a plan's module that can run, and where its ports stand
pub record CanRun (campaign : Campaign) : Type 0 where
  pub interconnect : IsInterconnect campaign.plan campaign.lanes.netlist
  pub is_module : IsModule campaign.lanes.netlist
  pub unstepped : AreUnstepped campaign.lanes
  pub ports : AreTold campaign.plan.system campaign.ports

-- they are those of the plan that files state
pub record IsCampaign (files : List (List ℕ)) (number : ℕ) (campaign : Campaign) : Type 0 where
  pub planned : IsPlanned files campaign.plan
  pub number_is : campaign.number ≡ number
  pub can_run : CanRun campaign

-- a sink holds the text of the lanes besides
pub record IsToldWhole (plan : PlanTable) (number : ℕ) (lanes : LanesValue) (held holds : Option (List ℕ)) : Type 0 where
  pub text : List ℕ
  pub is_text : IsTextOfLanes plan number lanes text
  pub whole : holds ≡ with_more held text

-- it holds a proper part of it, and counts a fault
pub record IsToldInPart (plan : PlanTable) (number : ℕ) (lanes : LanesValue) (held holds : Option (List ℕ))
    (first faults : ℕ) : Type 0 where
  pub text : List ℕ
  pub is_text : IsTextOfLanes plan number lanes text
  pub count : ℕ
  pub part : count < length text
  pub written : holds ≡ with_more held (take count text)
  pub rose : Rose first faults

-- when each answer to a campaign on lanes comes
abbrev pub EndsCampaign : PlanTable → ℕ → LanesValue → Option (List ℕ) → Option (List ℕ) → ℕ → ℕ → Exit → Type 0
EndsCampaign plan number lanes held holds first faults exit.Done = IsToldWhole plan number lanes held holds
EndsCampaign plan number lanes held holds first faults exit.WriteFault = IsToldInPart plan number lanes held holds first faults
EndsCampaign plan number lanes held holds first faults exit.NoMemory = Unit {0}
EndsCampaign plan number lanes held holds first faults _ = ⊥

-- what is drawn for eight lanes, and told of them
use Rattle.std.proofs.Common.{◌≡◌, ℕ, zero, suc, ◌+◌, ◌<◌, ◌≤◌, List, [], ◌∷◌, ◌++◌, length, length-append, take, slice_get, slice_index_or, Some, Option, ◌⊎◌, inl, inr, refl, sym, ap, subst, ◌∙◌, arith}
use Rattle.std.proofs.lemmas.Bool.{cases_lt}
use Rattle.std.proofs.lemmas.Option.{none-some, same_Some}
use Rattle.av_files.specs.Outside.{Rose, with_more}
use Rattle.histories.specs.History.{before}
use Rattle.link_rules.specs.Plans.{PlanTable}
use Rattle.system_plan.specs.Plans.{IsPlanned}
use Rattle.netlist.specs.Netlists.{Netlist, IsModule}
use Rattle.interconnect.specs.Interconnect.{IsInterconnect}
use Rattle.port_tables.specs.PortMaps.{AreTold}
use Rattle.lane_sim.specs.LaneSims.{LanesValue}
use Rattle.scenario_tables.specs.declared.scenario.Scenario.{Scenario}
use Rattle.scenario_tables.specs.Scenarios.{IsScenario}
use Rattle.drawn_scenarios.specs.Drawn.{drawn_scenario, scenario_for}
use Rattle.trace_lines.specs.declared.counts.Counts.{Counts}
use Rattle.simulations.specs.Runs.{no_counts}
use Rattle.simulations.specs.Counted.{AreCountedRuns}
use Rattle.scenario_runs.specs.declared.campaign.Campaign.{Campaign}
use Rattle.scenario_runs.specs.Campaigns.{AreUnstepped, CanRun, IsCampaign, IsTextOfLanes, IsToldInPart, IsToldWhole, campaign_text, lane_line, lane_scenario, lane_scenarios}

front : {A : Type 0} (xs ys : List A) (k : ℕ) (x : A) → slice_get xs k ≡ Some x → slice_get (xs ++ ys) k ≡ Some x
front [] ys k x e = absurd (none-some x e)
front (a ∷ xs) ys zero x e = e
front (a ∷ xs) ys (suc k) x e = front xs ys k x e

last : {A : Type 0} (xs : List A) (x : A) → slice_get (xs ++ x ∷ []) (length xs) ≡ Some x
last [] x = refl
last (a ∷ xs) x = last xs x

within : {A : Type 0} (xs : List A) (k : ℕ) (x : A) → slice_get xs k ≡ Some x → k < length xs
within [] k x e = absurd (none-some x e)
within (y ∷ xs) zero x e = omega arith
within (y ∷ xs) (suc k) x e = let low = within xs k x e in omega arith

-- one item for each of the first numbers
abbrev pub singles : {A : Type 0} → (ℕ → A) → ℕ → List A
singles {A} item n = before (λ k. item k ∷ []) n

pub singles_length : {A : Type 0} (item : ℕ → A) (n : ℕ) → length (singles item n) ≡ n
singles_length item zero = refl
singles_length item (suc n) = let long = length-append (singles item n) (item n ∷ []) in let count = singles_length item n in omega (arith, long, count)

pub singles_at : {A : Type 0} (item : ℕ → A) (n k : ℕ) → k < n → slice_get (singles item n) k ≡ Some (item k)
singles_at item zero k low = absurd (omega arith)
singles_at {A} item (suc n) k low = elim (cases_lt k n) [
  | inl below ↦ front (singles item n) (item n ∷ []) k (item k) (singles_at item n k below)
  | inr high ↦ (let same : k ≡ n = omega arith in
      let at : slice_get (singles item n ++ item n ∷ []) n ≡ Some (item n) = subst (λ (m : ℕ). slice_get (singles item n ++ item n ∷ []) m ≡ Some (item n)) (singles_length item n) (last (singles item n) (item n)) in
      subst (λ (m : ℕ). slice_get (singles item n ++ item n ∷ []) m ≡ Some (item m)) (sym same) at)
]

-- one number more
pub before_more : {A : Type 0} (adds : ℕ → List A) (n : ℕ) (xs ys : List A) → xs ≡ before adds n → ys ≡ xs ++ adds n → ys ≡ before adds (n + 1)
before_more {A} adds n xs ys so_far is =
    let next : suc n ≡ n + 1 = omega arith in
    subst (λ (m : ℕ). ys ≡ before adds m) next (is ∙ ap (λ (zs : List A). zs ++ adds n) so_far)

-- the lines of lanes, and one more
abbrev pub lines_of_lanes : List Counts → ℕ → List ℕ
lines_of_lanes counts lane = lane_line lane (slice_index_or counts lane no_counts)

pub one_more_line : (counts : List Counts) (n : ℕ) (of : Counts) (text longer line : List ℕ) → text ≡ before (lines_of_lanes counts) n → longer ≡ text ++ line → line ≡ lane_line n of → of ≡ slice_index_or counts n no_counts
    → longer ≡ before (lines_of_lanes counts) (n + 1)
one_more_line counts n of text longer line so_far is line_is of_is =
    before_more (lines_of_lanes counts) n text longer so_far (is ∙ ap (λ (bytes : List ℕ). text ++ bytes) (line_is ∙ ap (lane_line n) of_is))

-- the scenarios fit that were drawn so far
abbrev pub AllFitPlan : PlanTable → List Scenario → Type 0
AllFitPlan plan scenarios = (j : ℕ) (scenario : Scenario) → slice_get scenarios j ≡ Some scenario → IsScenario plan.system scenario

pub none_drawn : (plan : PlanTable) (scenarios : List Scenario) → scenarios ≡ [] → AllFitPlan plan scenarios
none_drawn plan scenarios none = subst (AllFitPlan plan) (sym none) (λ j scenario at. absurd (none-some scenario at))

one_more_of : (plan : PlanTable) (scenarios : List Scenario) (more : Scenario) → AllFitPlan plan scenarios → IsScenario plan.system more → AllFitPlan plan (scenarios ++ more ∷ [])
one_more_of plan [] more fit fits zero scenario at = subst (IsScenario plan.system) (same_Some more scenario at) fits
one_more_of plan [] more fit fits (suc j) scenario at = absurd (none-some scenario at)
one_more_of plan (first ∷ rest) more fit fits zero scenario at = fit 0 scenario at
one_more_of plan (first ∷ rest) more fit fits (suc j) scenario at = one_more_of plan rest more (λ k other there. fit (suc k) other there) fits j scenario at

pub one_more_drawn : (plan : PlanTable) (scenarios longer : List Scenario) (more : Scenario) → AllFitPlan plan scenarios → IsScenario plan.system more → longer ≡ scenarios ++ more ∷ [] → AllFitPlan plan longer
one_more_drawn plan scenarios longer more fit fits is = subst (AllFitPlan plan) (sym is) (one_more_of plan scenarios more fit fits)

-- a scenario that is drawn is for the cycles that it is drawn for
drawn_cycles : (plan : PlanTable) (number lane cycles : ℕ) → (drawn_scenario plan number lane cycles).cycles ≡ cycles
unfolding drawn_scenario scenario_for
drawn_cycles plan number lane cycles = refl

pub cycles_of_lanes : (plan : PlanTable) (number : ℕ) (scenarios : List Scenario) → scenarios ≡ lane_scenarios plan number → (j : ℕ) (scenario : Scenario) → slice_get scenarios j ≡ Some scenario → scenario.cycles ≡ 256
cycles_of_lanes plan number scenarios drawn j scenario at =
    let there = subst (λ (s : List Scenario). slice_get s j ≡ Some scenario) drawn at in
    let low = within (lane_scenarios plan number) j scenario there in
    let long = singles_length (lane_scenario plan number) 8 in
    let is = singles_at (lane_scenario plan number) 8 j (omega (arith, low, long)) in
    ap (λ (s : Scenario). s.cycles) (same_Some scenario (lane_scenario plan number j) (sym there ∙ is)) ∙ drawn_cycles plan number j 256

-- counts of the scenarios that are drawn are told as the lanes' own
pub text_of_lanes : (plan : PlanTable) (number : ℕ) (lanes : LanesValue) (counts : List Counts) (text : List ℕ) → AreCountedRuns plan (lane_scenarios plan number) lanes counts → text ≡ campaign_text number counts
    → IsTextOfLanes plan number lanes text
text_of_lanes plan number lanes counts text counted is =
    let long = singles_length (lane_scenario plan number) 8 in
    record {
      counts = counts;
      count = counted.count ∙ long;
      each = λ lane of at.
          let low = within counts lane of at in
          counted.each lane (lane_scenario plan number lane) of (singles_at (lane_scenario plan number) 8 lane (let n = counted.count in omega (arith, low, long))) at;
      is_text = is;
    }

-- the text is written whole
pub told_whole : (plan : PlanTable) (number : ℕ) (lanes : LanesValue) (counts : List Counts) (text : List ℕ) (held holds : Option (List ℕ)) → AreCountedRuns plan (lane_scenarios plan number) lanes counts
    → text ≡ campaign_text number counts → holds ≡ with_more held text → IsToldWhole plan number lanes held holds
told_whole plan number lanes counts text held holds counted is whole = record { text = text; is_text = text_of_lanes plan number lanes counts text counted is; whole = whole }

-- or a part of it
pub told_in_part : (plan : PlanTable) (number : ℕ) (lanes : LanesValue) (counts : List Counts) (text : List ℕ) (held holds : Option (List ℕ)) (first faults : ℕ) → AreCountedRuns plan (lane_scenarios plan number) lanes counts
    → text ≡ campaign_text number counts → (k : ℕ) × (k < length text) × (holds ≡ with_more held (take k text)) → Rose first faults → IsToldInPart plan number lanes held holds first faults
told_in_part plan number lanes counts text held holds first faults counted is part rose =
    record { text = text; is_text = text_of_lanes plan number lanes counts text counted is; count = part.0; part = part.1; written = part.2; rose = rose }

-- lanes of the module that was built can run
pub can_run : (campaign : Campaign) (netlist : Netlist) → campaign.lanes.netlist ≡ netlist → IsInterconnect campaign.plan netlist → IsModule netlist → AreUnstepped campaign.lanes → AreTold campaign.plan.system campaign.ports
    → CanRun campaign
can_run campaign netlist same interconnect sound unstepped ports =
    record { interconnect = subst (IsInterconnect campaign.plan) (sym same) interconnect; is_module = subst IsModule (sym same) sound; unstepped = unstepped; ports = ports }

-- and are those of the plan's files
pub is_campaign : (files : List (List ℕ)) (number : ℕ) (plan : PlanTable) (campaign : Campaign) → IsPlanned files plan → campaign.plan ≡ plan → campaign.number ≡ number → CanRun campaign → IsCampaign files number campaign
is_campaign files number plan campaign planned same number_is can = record { planned = subst (IsPlanned files) (sym same) planned; number_is = number_is; can_run = can }

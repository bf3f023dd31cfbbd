-- Benches before the first cycle.
use Rattle.std.proofs.Common.{◌≡◌, ◌+◌, ◌*◌, ◌-◌, ◌<◌, ◌≤◌, ℕ, List, [], ◌∷◌, ◌++◌, length, length-append, slice_get, Some, refl, sym, ap, subst, ◌∙◌, arith}
use Rattle.std.proofs.lemmas.Option.{none-some, same_Some}
use Rattle.link_rules.specs.Plans.{PlanTable}
use Rattle.netlist.specs.Netlists.{Netlist}
use Rattle.netlist.specs.Runs.{Run}
use Rattle.cycle_sim.specs.Sims.{input_widths}
use Rattle.cycle_sim.specs.Standing.{StandsFor}
use Rattle.lane_sim.specs.LaneSims.{LanesValue, lane_of}
use Rattle.scenario_tables.specs.declared.scenario.Scenario.{Scenario}
use Rattle.scenario_tables.specs.Scenarios.{IsScenario}
use Rattle.trace_lines.specs.declared.counts.Counts.{Counts}
use Rattle.benches.specs.Counting.{HaveRoom}
use Rattle.simulations.specs.Benches.{BenchValue, IsSetUp, IsUnderWay}
use Rattle.simulations.specs.Runs.{CountsSoFar, IsCountedRun, no_counts}
use Rattle.simulations.specs.declared.campaigns.lane_bench.LaneBench.{LaneBench}
use Rattle.simulations.specs.Counted.{AreCountedRuns}
use Rattle.simulations.specs.Lanes.{AreFirstBenches, IsFirstBench, IsLaneSoFar, LanesSoFar, value_in}
use Rattle.simulations.proofs.campaigns.Many.{each_more, some_at, within}
use Rattle.simulations.proofs.campaigns.Rows.{row_length}

-- so many benches of scenarios
pub record AreBegun (plan : PlanTable) (scenarios : List Scenario) (netlist : Netlist) (number : ℕ) (benches : List LaneBench) : Type 0 where
  pub count : length benches ≡ number
  pub low : number ≤ length scenarios
  pub each : (j : ℕ) (lane : LaneBench) → slice_get benches j ≡ Some lane → (scenario : Scenario) → slice_get scenarios j ≡ Some scenario → IsFirstBench plan scenario netlist lane

pub none_begun : (plan : PlanTable) (scenarios : List Scenario) (netlist : Netlist) (benches : List LaneBench) → benches ≡ [] → AreBegun plan scenarios netlist 0 benches
none_begun plan scenarios netlist benches none = subst (AreBegun plan scenarios netlist 0) (sym none) (record { count = refl; low = omega arith; each = λ j lane at. absurd (none-some lane at) })

pub one_more_begun : (plan : PlanTable) (scenarios : List Scenario) (netlist : Netlist) (number : ℕ) (benches more : List LaneBench) (lane : LaneBench) (scenario : Scenario) → AreBegun plan scenarios netlist number benches
    → slice_get scenarios number ≡ Some scenario → IsFirstBench plan scenario netlist lane → more ≡ benches ++ lane ∷ [] → AreBegun plan scenarios netlist (number + 1) more
one_more_begun plan scenarios netlist number benches more lane scenario are at first is =
    let P : ℕ → LaneBench → Type 0 = λ j one. (other : Scenario) → slice_get scenarios j ≡ Some other → IsFirstBench plan other netlist one in
    let last : P (length benches) lane = subst (λ (n : ℕ). P n lane) (sym are.count) (λ other there. subst (λ (s : Scenario). IsFirstBench plan s netlist lane) (same_Some scenario other (sym at ∙ there)) first) in
    subst (AreBegun plan scenarios netlist (number + 1)) (sym is) (record {
      count = (let long = length-append benches (lane ∷ []) in let count = are.count in omega (arith, long, count));
      low = (let inside = within scenarios number scenario at in omega arith);
      each = each_more P benches lane are.each last;
    })

-- a run of which nothing is known
no_run : Run
no_run = record { input = λ _ _. 0; net = λ _ _. 0; cell = λ _ _ _. 0 }

room_at_first : (cycles : ℕ) → cycles ≤ 65536 → HaveRoom (64 * (cycles - 0)) no_counts
room_at_first cycles few = record { taken = omega arith; answered = omega arith; delivered = omega arith; dropped = omega arith }

-- nothing is counted yet
abbrev pub CountsFirst : Type 0
CountsFirst = (plan : PlanTable) (scenario : Scenario) (run : Run) (bench : BenchValue) → IsSetUp plan scenario bench.sim.netlist → IsUnderWay plan scenario run 0 bench → CountsSoFar plan scenario bench.sim.netlist 0 bench no_counts

lane_begins : CountsFirst → (plan : PlanTable) (scenario : Scenario) (cycles : ℕ) (lanes : LanesValue) (j : ℕ) (lane : LaneBench) → IsScenario plan.system scenario → scenario.cycles ≡ cycles
    → ((run : Run) → StandsFor (lane_of lanes j) run 0) → IsFirstBench plan scenario lanes.netlist lane → IsLaneSoFar plan scenario cycles 0 lanes j lane
lane_begins begins plan scenario cycles lanes j lane fits same stands first =
    record {
      cycles_are = same;
      so_far = subst (CountsSoFar plan scenario lanes.netlist 0 (value_in lanes j lane)) (sym first.counts)
          (begins plan scenario no_run (value_in lanes j lane) first.set (first.under_way (lane_of lanes j) no_run (stands no_run)));
      room = subst (HaveRoom (64 * (cycles - 0))) (sym first.counts) (room_at_first cycles (subst (λ (n : ℕ). n ≤ 65536) same fits.few));
    }

pub lanes_begin : CountsFirst → (plan : PlanTable) (scenarios : List Scenario) (cycles : ℕ) (lanes : LanesValue) (netlist : Netlist) (benches slice : List LaneBench) → length scenarios ≡ 8
    → ((j : ℕ) (scenario : Scenario) → slice_get scenarios j ≡ Some scenario → IsScenario plan.system scenario) → ((j : ℕ) (scenario : Scenario) → slice_get scenarios j ≡ Some scenario → scenario.cycles ≡ cycles)
    → ((j : ℕ) → j < 8 → (run : Run) → StandsFor (lane_of lanes j) run 0) → netlist ≡ lanes.netlist → AreFirstBenches plan scenarios netlist benches → slice ≡ benches → LanesSoFar plan scenarios cycles 0 lanes slice
lanes_begin begins plan scenarios cycles lanes netlist benches slice count fit same stand of first is =
    let own = subst (λ (n : Netlist). AreFirstBenches plan scenarios n benches) of first in
    subst (LanesSoFar plan scenarios cycles 0 lanes) (sym is) (record {
      count = own.count ∙ count;
      scenario_count = count;
      each = λ j scenario lane at there.
          let low = within scenarios j scenario at in
          lane_begins begins plan scenario cycles lanes j lane (fit j scenario at) (same j scenario at) (stand j (omega arith)) (own.each j scenario lane at there);
    })

-- behind the last cycle
abbrev pub CountsWhole : Type 0
CountsWhole = (plan : PlanTable) (scenario : Scenario) (netlist : Netlist) (c : ℕ) (bench : BenchValue) (counts : Counts) → CountsSoFar plan scenario netlist c bench counts → c ≡ scenario.cycles
    → IsCountedRun plan scenario netlist bench.sim counts

pub lanes_counted : CountsWhole → (plan : PlanTable) (scenarios : List Scenario) (cycles : ℕ) (lanes : LanesValue) (benches : List LaneBench) (counts : List Counts) → LanesSoFar plan scenarios cycles cycles lanes benches
    → length counts ≡ 8 → ((j : ℕ) (lane : LaneBench) → slice_get benches j ≡ Some lane → slice_get counts j ≡ Some lane.counts) → AreCountedRuns plan scenarios lanes counts
lanes_counted whole plan scenarios cycles lanes benches counts so_far eight are = record {
  count = eight ∙ sym so_far.scenario_count;
  each = λ j scenario of at there.
      let low = within scenarios j scenario at in
      let lane = some_at benches j (let n = so_far.scenario_count in let m = so_far.count in omega arith) in
      let is = so_far.each j scenario lane.0 at lane.1 in
      subst (IsCountedRun plan scenario lanes.netlist (lane_of lanes j)) (same_Some lane.0.counts of (sym (are j lane.0 lane.1) ∙ there))
      (whole plan scenario lanes.netlist cycles (value_in lanes j lane.0) lane.0.counts is.so_far (sym is.cycles_are));
}

pub all_begun : (plan : PlanTable) (scenarios : List Scenario) (netlist : Netlist) (number : ℕ) (benches : List LaneBench) → AreBegun plan scenarios netlist number benches → length scenarios ≤ number
    → AreFirstBenches plan scenarios netlist benches
all_begun plan scenarios netlist number benches are all = record {
  count = (let count = are.count in let low = are.low in omega (arith, count, low, all));
  each = λ j scenario lane at there. are.each j lane there scenario at;
}

-- so many values as the first lane's bench sets are inputs of the module
pub inputs_begin : (plan : PlanTable) (scenarios : List Scenario) (lanes : LanesValue) (netlist : Netlist) (benches slice : List LaneBench) (inputs : ℕ) → length scenarios ≡ 8
    → ((j : ℕ) → j < 8 → (run : Run) → StandsFor (lane_of lanes j) run 0) → netlist ≡ lanes.netlist → AreFirstBenches plan scenarios netlist benches → slice ≡ benches
    → ((lane : LaneBench) → slice_get slice 0 ≡ Some lane → inputs ≡ length lane.bench.row) → inputs ≡ length (input_widths lanes.netlist.ports)
inputs_begin plan scenarios lanes netlist benches slice inputs count stand of first is are =
    let scenario = some_at scenarios 0 (omega (arith, count)) in
    let lane = some_at benches 0 (let same = first.count in omega (arith, same, count)) in
    let one = first.each 0 scenario.0 lane.0 scenario.1 lane.1 in
    let way = one.under_way (lane_of lanes 0) no_run (stand 0 (omega arith) no_run) in
    are lane.0 (subst (λ (items : List LaneBench). slice_get items 0 ≡ Some lane.0) (sym is) lane.1) ∙ sym (row_length lane.0.bench.row)
    ∙ ap (λ (widths : List ℕ). length widths) (way.row ∙ ap input_widths (sym one.set.is_interconnect.ports)) ∙ ap (λ (n : Netlist). length (input_widths n.ports)) of

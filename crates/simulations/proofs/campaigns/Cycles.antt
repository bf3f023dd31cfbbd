-- A lane, cycle by cycle.
use Rattle.std.proofs.Common.{◌≡◌, ◌+◌, ◌-◌, ◌*◌, ◌<◌, ◌≤◌, ℕ, suc, List, refl, sym, ap, subst, ◌∙◌, arith}
use Rattle.av_base.specs.Word.{Word}
use Rattle.link_rules.specs.Plans.{PlanTable}
use Rattle.netlist.specs.Netlists.{Netlist}
use Rattle.netlist.specs.Runs.{Run}
use Rattle.cycle_sim.specs.Sims.{SimValue}
use Rattle.lane_sim.specs.LaneSims.{IsEdge, IsStepWith, LanesValue, lane_of}
use Rattle.scenario_tables.specs.declared.scenario.Scenario.{Scenario}
use Rattle.trace_lines.specs.declared.counts.Counts.{Counts}
use Rattle.trace_lines.specs.Sums.{with_counts}
use Rattle.benches.specs.Counting.{HaveRoom}
use Rattle.simulations.specs.Benches.{BenchValue, IsSetUp, IsUnderWay}
use Rattle.simulations.specs.Cycles.{HasCycleLeft, IsAsked, IsTold, IsEvaluated, counts_of, first_words, run_with}
use Rattle.simulations.specs.Runs.{CountsSoFar}
use Rattle.simulations.specs.declared.campaigns.lane_bench.LaneBench.{LaneBench}
use Rattle.simulations.specs.Lanes.{IsLaneSoFar, value_in}
use Rattle.simulations.specs.Phases.{HasEnded, IsEvaluatedFrom, IsShownFrom}

-- a bench that is another, with another simulator
pub with_sim : (sim : SimValue) (bench other : BenchValue) → bench ≡ other → record bench { sim = sim } ≡ record other { sim = sim }
with_sim sim bench other same = ap (λ (b : BenchValue). record b { sim = sim }) same

pub same_row : (bench other : BenchValue) → bench ≡ other → bench.row ≡ other.row
same_row bench other same = ap (λ (b : BenchValue). b.row) same

-- what a lane's bench is asked to be, where it is as far as this
pub cycle_left : (plan : PlanTable) (scenario : Scenario) (cycles c : ℕ) (lanes : LanesValue) (j : ℕ) (lane : LaneBench) → c < cycles → IsLaneSoFar plan scenario cycles c lanes j lane → HasCycleLeft (value_in lanes j lane)
cycle_left plan scenario cycles c lanes j lane low so_far = record {
  plan = plan;
  scenario = scenario;
  run = so_far.so_far.run;
  cycle = c;
  set = so_far.so_far.set;
  left = subst (λ (n : ℕ). c < n) (sym so_far.cycles_are) low;
  under_way = so_far.so_far.under_way;
}

pub asked : (bench after : BenchValue) → HasCycleLeft bench → after.sim.netlist ≡ bench.sim.netlist → IsShownFrom bench after → IsAsked after
asked bench after left same shown = record {
  plan = left.plan;
  scenario = left.scenario;
  run = left.run;
  cycle = left.cycle;
  set = subst (IsSetUp left.plan left.scenario) (sym same) left.set;
  left = left.left;
  shown = shown left.plan left.scenario left.run left.cycle left.set left.under_way;
}

pub told : (bench after : BenchValue) → HasCycleLeft bench → after.sim.netlist ≡ bench.sim.netlist → IsEvaluatedFrom bench after → IsTold after
told bench after left same evaluated = record {
  plan = left.plan;
  scenario = left.scenario;
  run = left.run;
  cycle = left.cycle;
  set = subst (IsSetUp left.plan left.scenario) (sym same) left.set;
  left = left.left;
  evaluated = evaluated left.plan left.scenario left.run left.cycle left.set left.left left.under_way;
}

pub room_for_cycle : (cycles c : ℕ) (counts : Counts) → c < cycles → HaveRoom (64 * (cycles - c)) counts → HaveRoom 64 counts
room_for_cycle cycles c counts low room = record {
  taken = (let h = room.taken in omega arith);
  answered = (let h = room.answered in omega arith);
  delivered = (let h = room.delivered in omega arith);
  dropped = (let h = room.dropped in omega arith);
}

-- each cycle adds what is counted in it
abbrev pub CountsNext : Type 0
CountsNext = (plan : PlanTable) (scenario : Scenario) (netlist : Netlist) (c : ℕ) (bench evaluated after : BenchValue) (counts result : Counts) (so_far : CountsSoFar plan scenario netlist c bench counts)
    → evaluated.sim.netlist ≡ bench.sim.netlist → IsEvaluated plan scenario so_far.run c evaluated → after.sim.netlist ≡ evaluated.sim.netlist
    → IsUnderWay plan scenario (run_with so_far.run c evaluated) (suc c) after → result ≡ with_counts counts (counts_of evaluated) → CountsSoFar plan scenario netlist (c + 1) after result

pub lane_goes_on : CountsNext → (plan : PlanTable) (scenario : Scenario) (cycles c : ℕ) (lanes middle next : LanesValue) (j : ℕ) (lane shown ended : LaneBench) → c < cycles → IsLaneSoFar plan scenario cycles c lanes j lane
    → middle.netlist ≡ lanes.netlist → next.netlist ≡ middle.netlist → shown.counts ≡ lane.counts → IsEvaluatedFrom (value_in lanes j lane) (value_in middle j shown) → HasEnded (lane_of middle j) shown ended
    → IsEdge (lane_of middle j) (lane_of next j) → IsLaneSoFar plan scenario cycles (c + 1) next j ended
lane_goes_on more plan scenario cycles c lanes middle next j lane shown ended low is same same_next same_counts evaluated has edge =
    let left : c < scenario.cycles = subst (λ (n : ℕ). c < n) (sym is.cycles_are) low in
    let now = evaluated plan scenario is.so_far.run c is.so_far.set left is.so_far.under_way in
    let set = subst (IsSetUp plan scenario) (sym same) is.so_far.set in
    let way = has.bench plan scenario is.so_far.run c (lane_of next j) set left now edge in
    let counts = has.counts ∙ ap (λ (sum : Counts). with_counts sum (counts_of (value_in middle j shown))) same_counts in
    let so_far = more plan scenario lanes.netlist c (value_in lanes j lane) (value_in middle j shown) (value_in next j ended) lane.counts ended.counts is.so_far same now same_next way counts in
    let room : HaveRoom (64 + 64 * (cycles - (c + 1))) shown.counts =
    subst (λ (n : ℕ). HaveRoom n shown.counts) (let is : 64 * (cycles - c) ≡ 64 + 64 * (cycles - (c + 1)) = omega (arith, low) in is) (subst (HaveRoom (64 * (cycles - c))) (sym same_counts) is.room) in
    record {
      cycles_are = is.cycles_are;
      so_far = subst (λ (n : Netlist). CountsSoFar plan scenario n (c + 1) (value_in next j ended) ended.counts) (sym (same_next ∙ same)) so_far;
      room = has.room (64 * (cycles - (c + 1))) room;
    }

-- A bench whose simulator made a step.
use Rattle.std.proofs.Common.{◌≡◌, ℕ, suc, ◌+◌, true, List, ◌++◌, sym, ap, subst, ◌∙◌, arith}
use Rattle.av_base.specs.Word.{Word}
use Rattle.link_rules.specs.Plans.{PlanTable}
use Rattle.netlist.specs.Netlists.{Netlist, IsInputPort}
use Rattle.netlist.specs.Runs.{Run, IsValuation}
use Rattle.cycle_sim.specs.Sims.{SimValue, given_to, input_widths, present, widths_of}
use Rattle.cycle_sim.specs.Standing.{IsClearedRun, StandsFor, with_cycle}
use Rattle.memory_runs.specs.Legal.{Word as CodedWord}
use Rattle.port_tables.specs.Ports.{ports_of}
use Rattle.port_rows.specs.Levels.{Level, AllFit, AllStand, set_levels}
use Rattle.scenario_tables.specs.declared.scenario.Scenario.{Scenario}
use Rattle.simulated_runs.specs.Simulated.{IsSimulated}
use Rattle.benches.specs.Agents.{BenchAgentValue}
use Rattle.simulations.specs.Benches.{BenchValue, ComponentsStand, IsUnderWay, all_levels}
use Rattle.simulations.specs.Cycles.{IsShown}
use Rattle.simulations.specs.Sound.{AllFitPorts}

abbrev WidthsStay : Type 0
WidthsStay = (row : List Word) (levels : List Level) → AllFit row levels → widths_of (set_levels row levels) ≡ widths_of row

abbrev pub SetInTwo : Type 0
SetInTwo = (row : List Word) (one other : List Level) → set_levels row (one ++ other) ≡ set_levels (set_levels row one) other

pub wide_behind : (stay : WidthsStay) (row new : List Word) (levels : List Level) (widths : List ℕ) → AllFit row levels → new ≡ set_levels row levels → widths_of row ≡ widths → widths_of new ≡ widths
wide_behind stay row new levels widths fits is wide = ap widths_of is ∙ stay row levels fits ∙ wide

pub set_in_three : (two : SetInTwo) (row one other last : List Word) (a b c : List Level) → one ≡ set_levels row a → other ≡ set_levels one b → last ≡ set_levels other c → last ≡ set_levels row (a ++ b ++ c)
set_in_three two row one other last a b c p q r =
    r ∙ ap (λ (x : List Word). set_levels x c) (q ∙ ap (λ (x : List Word). set_levels x b) p ∙ sym (two row a b)) ∙ sym (two row (a ++ b) c)

abbrev pub FirstFits : Type 0
FirstFits = (row : List Word) (one other : List Level) → AllFit row (one ++ other) → AllFit row one

abbrev pub SecondFits : Type 0
SecondFits = (row : List Word) (one other : List Level) → AllFit row (one ++ other) → AllFit (set_levels row one) other

pub first_part_fits : (first : FirstFits) (row : List Word) (a b c : List Level) → AllFit row (a ++ b ++ c) → AllFit row a
first_part_fits first row a b c fits = first row a b (first row (a ++ b) c fits)

pub second_part_fits : (first : FirstFits) (second : SecondFits) (row one : List Word) (a b c : List Level) → AllFit row (a ++ b ++ c) → one ≡ set_levels row a → AllFit one b
second_part_fits first second row one a b c fits is = subst (λ (r : List Word). AllFit r b) (sym is) (second row a b (first row (a ++ b) c fits))

pub third_part_fits : (second : SecondFits) (two : SetInTwo) (row one other : List Word) (a b c : List Level) → AllFit row (a ++ b ++ c) → one ≡ set_levels row a → other ≡ set_levels one b → AllFit other c
third_part_fits second two row one other a b c fits p q =
    let is : other ≡ set_levels row (a ++ b) = q ∙ ap (λ (r : List Word). set_levels r b) p ∙ sym (two row a b) in
    subst (λ (r : List Word). AllFit r c) (sym is) (second row (a ++ b) c fits)

-- the components stand as before
pub moved : (plan : PlanTable) (scenario : Scenario) (netlist : Netlist) (run : Run) (k : ℕ) (bench : BenchValue) (sim : SimValue) (row : List Word) → ComponentsStand plan scenario netlist run k bench
    → ComponentsStand plan scenario netlist run k (record bench { sim = sim; row = row })
moved plan scenario netlist run k bench sim row all = record {
  host_count = all.host_count;
  agent_count = all.agent_count;
  stream_count = all.stream_count;
  hosts = all.hosts;
  agents = all.agents;
  streams = all.streams;
}

pub now_shown : (plan : PlanTable) (scenario : Scenario) (run : Run) (k : ℕ) (bench : BenchValue) (sim : SimValue) (row : List Word) (words : BenchAgentValue → CodedWord) → IsUnderWay plan scenario run k bench
    → sim.netlist ≡ bench.sim.netlist → StandsFor sim run k → sim.stepped ≡ true → IsClearedRun sim.netlist (with_cycle run k (present sim)) (k + 1) → IsValuation sim.netlist (present sim)
    → ((p w : ℕ) → IsInputPort sim.netlist.ports p w → (present sim).input p ≡ given_to sim.netlist row p) → AllFitPorts bench words → widths_of row ≡ input_widths (ports_of plan.system)
    → AllStand row (all_levels bench words) → IsShown plan scenario run k words (record bench { sim = sim; row = row })
now_shown plan scenario run k bench sim row words way same stands stepped is_run valuation inputs fits wide stand =
    let next : k + 1 ≡ suc k = omega arith in
    record {
      under_way = record {
        simulated = subst (λ (n : Netlist). IsSimulated plan scenario n run k) (sym same) way.simulated;
        stands = stands;
        row = wide;
        components = subst (λ (n : Netlist). ComponentsStand plan scenario n run k (record bench { sim = sim; row = row })) (sym same) (moved plan scenario bench.sim.netlist run k bench sim row way.components);
      };
      stepped = stepped;
      is_run = subst (IsClearedRun sim.netlist (with_cycle run k (present sim))) next is_run;
      valuation = valuation;
      inputs = inputs;
      fits = record { hosts = fits.hosts; agents = fits.agents; sources = fits.sources; sinks = fits.sinks };
      stand = stand;
    }

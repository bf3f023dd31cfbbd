-- The present cycle of a bench, once it is evaluated.
use Rattle.std.specs.Prelude.{◌≡◌, ◌<◌, ℕ, suc, true, List, ◌++◌, flat_map, length, slice_get, Some}
use Rattle.link_rules.specs.Plans.{PlanTable}
use Rattle.netlist.specs.Netlists.{IsInputPort}
use Rattle.netlist.specs.Runs.{Run, IsValuation}
use Rattle.cycle_sim.specs.Sims.{present, given_to}
use Rattle.cycle_sim.specs.Standing.{IsClearedRun, with_cycle}
use Rattle.memory_runs.specs.Legal.{Word as CodedWord}
use Rattle.port_rows.specs.Levels.{AllStand, set_levels}
use Rattle.interconnect.specs.Memory.{host_in, agent_in}
use Rattle.scenario_tables.specs.declared.scenario.Scenario.{Scenario}
use Rattle.simulated_runs.specs.Simulated.{AreShown}
use Rattle.trace_lines.specs.declared.counts.Counts.{Counts}
use Rattle.trace_lines.specs.Sums.{with_counts}
use Rattle.benches.specs.Counting.{counted_together}
use Rattle.benches.specs.Hosts.{BenchHostValue}
use Rattle.benches.specs.Hosts as of_hosts
use Rattle.benches.specs.Agents.{BenchAgentValue, first_word}
use Rattle.benches.specs.Agents as of_agents
use Rattle.benches.specs.Streams.{BenchStreamValue}
use Rattle.benches.specs.Streams as of_streams
use Rattle.simulations.specs.Benches.{BenchValue, IsSetUp, IsUnderWay, all_levels}
use Rattle.simulations.specs.Sound.{AllFitPorts, StreamsAreShown}

-- the run with the present cycle of a bench
abbrev pub run_with : Run → ℕ → BenchValue → Run
run_with run c bench = with_cycle run c (present bench.sim)

-- the agents' words before any command is known, with their codes
abbrev pub first_words : BenchAgentValue → CodedWord
first_words agent = first_word agent

-- a bench whose row has what the components show then
abbrev pub shown_first : BenchValue → BenchValue
shown_first bench = record bench { row = set_levels bench.row (all_levels bench first_words) }

-- a bench whose row has what the agents show once the commands are known
abbrev pub answered : BenchValue → BenchValue
answered bench =
    record bench
    { row = set_levels bench.row (flat_map (λ (agent : BenchAgentValue). of_agents.sets_answered agent bench.sim) bench.agents) }

-- the cycle was evaluated with what the components set, where the agents' words are these
pub record IsShown (plan : PlanTable) (scenario : Scenario) (run : Run) (c : ℕ) (words : BenchAgentValue → CodedWord)
    (bench : BenchValue) : Type 0 where
  pub under_way : IsUnderWay plan scenario run c bench
  pub stepped : bench.sim.stepped ≡ true
  pub is_run : IsClearedRun bench.sim.netlist (run_with run c bench) (suc c)
  pub valuation : IsValuation bench.sim.netlist (present bench.sim)
  pub inputs : (k w : ℕ) → IsInputPort bench.sim.netlist.ports k w
      → (present bench.sim).input k ≡ given_to bench.sim.netlist bench.row k
  pub fits : AllFitPorts bench words
  pub stand : AllStand bench.row (all_levels bench words)

-- the cycle was evaluated, and every component does in it what its script says
pub record IsEvaluated (plan : PlanTable) (scenario : Scenario) (run : Run) (c : ℕ) (bench : BenchValue) : Type 0 where
  pub under_way : IsUnderWay plan scenario run c bench
  pub stepped : bench.sim.stepped ≡ true
  pub is_run : IsClearedRun bench.sim.netlist (run_with run c bench) (suc c)
  pub shown : AreShown plan scenario bench.sim.netlist (run_with run c bench) c
  pub hosts : (h : ℕ) (host : BenchHostValue) → slice_get bench.hosts h ≡ Some host
      → of_hosts.IsSeen (host_in plan bench.sim.netlist (run_with run c bench) h) c bench.sim host
  pub agents : (a : ℕ) (agent : BenchAgentValue) → slice_get bench.agents a ≡ Some agent
      → of_agents.IsSeen (agent_in plan bench.sim.netlist (run_with run c bench) a) bench.sim agent
  pub streams : StreamsAreShown plan bench.sim.netlist (run_with run c bench) bench.sim bench

-- ---- what a bench is asked to be

-- it is under way in some simulation that isn't at its end
pub record HasCycleLeft (bench : BenchValue) : Type 0 where
  pub plan : PlanTable
  pub scenario : Scenario
  pub run : Run
  pub cycle : ℕ
  pub set : IsSetUp plan scenario bench.sim.netlist
  pub left : cycle < scenario.cycles
  pub under_way : IsUnderWay plan scenario run cycle bench

-- its present cycle was evaluated before the commands were known
pub record IsAsked (bench : BenchValue) : Type 0 where
  pub plan : PlanTable
  pub scenario : Scenario
  pub run : Run
  pub cycle : ℕ
  pub set : IsSetUp plan scenario bench.sim.netlist
  pub left : cycle < scenario.cycles
  pub shown : IsShown plan scenario run cycle first_words bench

-- its present cycle is evaluated
pub record IsTold (bench : BenchValue) : Type 0 where
  pub plan : PlanTable
  pub scenario : Scenario
  pub run : Run
  pub cycle : ℕ
  pub set : IsSetUp plan scenario bench.sim.netlist
  pub left : cycle < scenario.cycles
  pub evaluated : IsEvaluated plan scenario run cycle bench

-- ---- behind a cycle

-- each component of a bench has ended the cycle
pub record HaveEnded (bench after : BenchValue) : Type 0 where
  pub host_count : length after.hosts ≡ length bench.hosts
  pub agent_count : length after.agents ≡ length bench.agents
  pub stream_count : length after.streams ≡ length bench.streams
  pub hosts : (h : ℕ) (old new : BenchHostValue) → slice_get bench.hosts h ≡ Some old → slice_get after.hosts h ≡ Some new
      → new ≡ of_hosts.behind old bench.sim
  pub agents : (a : ℕ) (old new : BenchAgentValue) → slice_get bench.agents a ≡ Some old → slice_get after.agents a ≡ Some new
      → of_agents.Follows old bench.sim new
  pub streams : (s : ℕ) (old new : BenchStreamValue) → slice_get bench.streams s ≡ Some old → slice_get after.streams s ≡ Some new
      → new ≡ of_streams.behind old bench.sim

-- ---- what is told and counted of a cycle

-- the lines of all components, in order
abbrev pub lines_of : BenchValue → ℕ → List (List ℕ)
lines_of bench c =
    flat_map (λ (host : BenchHostValue). of_hosts.tells host bench.sim c) bench.hosts
    ++ flat_map (λ (agent : BenchAgentValue). of_agents.tells agent bench.sim c) bench.agents
    ++ flat_map (λ (stream : BenchStreamValue). of_streams.tells stream bench.sim c) bench.streams

-- what they count together
abbrev pub counts_of : BenchValue → Counts
counts_of bench =
    with_counts
    (with_counts (counted_together (λ (host : BenchHostValue). of_hosts.counts host bench.sim) bench.hosts)
    (counted_together (λ (agent : BenchAgentValue). of_agents.counts agent bench.sim) bench.agents))
    (counted_together (λ (stream : BenchStreamValue). of_streams.counts stream bench.sim) bench.streams)

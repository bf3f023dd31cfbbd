-- What the lines before one have stated.
use Rattle.std.specs.Prelude.{ℕ, ◌≡◌, Bool, true, List, [], ◌∷◌, ◌++◌, length, replicate, slice_get, unwrap_or, Option, Some, None, is_none, Result, Ok, Err}
use Rattle.system_tables.specs.Tables.{SystemTable}
use Rattle.address_map.specs.Maps.{hosts_of, agents_of}
use Rattle.link_rules.specs.PlanConnections.{stream_connections}
use Rattle.scenario_tables.specs.Changes.{changed_at}
use Rattle.scenario_tables.specs.declared.statements.HostStatement.{HostStatement}
use Rattle.scenario_tables.specs.declared.statements.AgentStatement.{AgentStatement}
use Rattle.scenario_tables.specs.declared.statements.SourceStatement.{SourceStatement}
use Rattle.scenario_tables.specs.declared.statements.Pattern.{Pattern}
use Rattle.scenario_tables.specs.declared.scenario.Scenario.{Scenario}
use Rattle.scenarios.specs.declared.so_far.SoFar.{SoFar}
use Rattle.scenarios.specs.declared.faults.ScenarioRule.{ScenarioRule}
use Rattle.scenarios.specs.declared.faults.LineFault.{LineFault}
use Rattle.scenarios.specs.declared.faults.LineFault.TheVariants.{Broken, NoMemory}

-- before the first line
abbrev pub blank : SystemTable → SoFar
blank system = record {
  cycles = None;
  hosts = replicate (length (hosts_of system)) [];
  agents = replicate (length (agents_of system)) [];
  sources = replicate (length (stream_connections system)) [];
  sinks = replicate (length (stream_connections system)) [];
}

-- there are scripts for all interfaces
pub record HasScripts (system : SystemTable) (so_far : SoFar) : Type 0 where
  pub hosts : length so_far.hosts ≡ length (hosts_of system)
  pub agents : length so_far.agents ≡ length (agents_of system)
  pub sources : length so_far.sources ≡ length (stream_connections system)
  pub sinks : length so_far.sinks ≡ length (stream_connections system)

-- no line has stated for how many cycles the scenario is
abbrev pub is_early : SoFar → Bool
is_early so_far = is_none so_far.cycles

-- the statements of an interface, by its number
abbrev pub script_at : {X : Type 0} → ℕ → List (List X) → List X
script_at {X} number scripts = unwrap_or (slice_get scripts number) []

-- with a statement more of an interface
abbrev pub with_one : {X : Type 0} → ℕ → X → List (List X) → List (List X)
with_one {X} number statement scripts = changed_at number (λ script. script ++ statement ∷ []) scripts

abbrev pub with_host : ℕ → HostStatement → SoFar → SoFar
with_host number statement so_far = record so_far { hosts = with_one number statement so_far.hosts }

abbrev pub with_agent : ℕ → AgentStatement → SoFar → SoFar
with_agent number statement so_far = record so_far { agents = with_one number statement so_far.agents }

abbrev pub with_source : ℕ → SourceStatement → SoFar → SoFar
with_source number statement so_far = record so_far { sources = with_one number statement so_far.sources }

abbrev pub with_sink : ℕ → Pattern → SoFar → SoFar
with_sink number pattern so_far = record so_far { sinks = with_one number pattern so_far.sinks }

-- what a line makes of what those before it have stated, or the rule that it breaks
abbrev pub Reading : Type 0
Reading = Result SoFar ScenarioRule

-- a line that breaks a rule states nothing
abbrev pub judged : Option ScenarioRule → SoFar → Reading
judged None next = Ok next
judged (Some rule) next = Err rule

-- the reading breaks the rule of the fault; want of memory says nothing of it
abbrev pub Breaks : Reading → LineFault → Type 0
Breaks reading (Broken rule) = reading ≡ Err rule
Breaks reading NoMemory = true ≡ true

abbrev pub scenario_by : SoFar → Option ℕ → Option Scenario
scenario_by so_far None = None
scenario_by so_far (Some cycles) = Some (record {
  cycles = cycles;
  hosts = so_far.hosts;
  agents = so_far.agents;
  sources = so_far.sources;
  sinks = so_far.sinks;
})

-- the scenario that all lines have stated, where one of them says for how many cycles it is
abbrev pub scenario_of : SoFar → Option Scenario
scenario_of so_far = scenario_by so_far so_far.cycles

-- The scenario of transactions.
use Rattle.std.specs.Prelude.{ℕ, ◌-◌, ◌^◌, ◌<◌, List, [], ◌∷◌, length, replicate, slice_get}
use Rattle.std.specs.Option.{option_map_or}
use Rattle.system_tables.specs.Tables.{SystemTable}
use Rattle.address_map.specs.Maps.{hosts_of, agents_of}
use Rattle.link_rules.specs.PlanConnections.{stream_connections}
use Rattle.map_text.specs.Text.{end_name}
use Rattle.scenario_tables.specs.declared.statements.HostStatement.{HostStatement}
use Rattle.scenario_tables.specs.declared.scenario.Scenario.{Scenario}
use Rattle.scenarios.specs.Files.{IsScenarioOf}
use Rattle.packet_bytes.specs.declared.transfers.Transfers.{Transfers}
use Rattle.packet_bytes.specs.Commands.{scenario_text}
use Rattle.scenario_runs.specs.Commands.{commands}

-- the name of host 0
abbrev pub host_name : SystemTable → List ℕ
host_name system = option_map_or (end_name system) (slice_get (hosts_of system) 0) []

-- so many cycles in which host 0 does these statements, and nothing else is stated
abbrev pub host_alone : SystemTable → ℕ → List HostStatement → Scenario
host_alone system cycles statements = record {
  cycles = cycles;
  hosts = statements ∷ replicate (length (hosts_of system) - 1) [];
  agents = replicate (length (agents_of system)) [];
  sources = replicate (length (stream_connections system)) [];
  sinks = replicate (length (stream_connections system)) [];
}

-- the text of the commands of transactions at host 0, for so many cycles
abbrev pub text_of : SystemTable → ℕ → Transfers → List ℕ
text_of system cycles transfers = scenario_text (host_name system) cycles transfers.word_bytes transfers.packets.items

-- what it is to state: just these commands, one after the other, at host 0
abbrev pub scenario_of : SystemTable → ℕ → Transfers → Scenario
scenario_of system cycles transfers = host_alone system cycles (commands transfers.word_bytes transfers.packets.items)

-- the text is read, and states that
pub record AreStated (system : SystemTable) (cycles : ℕ) (transfers : Transfers) : Type 0 where
  pub stated : IsScenarioOf system (text_of system cycles transfers) (scenario_of system cycles transfers)
  pub short : length (text_of system cycles transfers) < 2 ^ 31

-- Systems of a host and an agent, `h.m` and `a.s`, and of a source and a sink, `o.x` and `i.y`, for small scenarios.
use Rattle.std.specs.Prelude.{ℕ, Bool, true, false, List, [], ◌∷◌, codes, is_ok}
use Rattle.iface_roles.specs.declared.kinds.Kind.{Kind}
use Rattle.iface_roles.specs.declared.kinds.Kind.TheVariants.{Mm, Stream}
use Rattle.iface_roles.specs.declared.kinds.Side.{Side}
use Rattle.iface_roles.specs.declared.kinds.Side.TheVariants.{Start, End}
use Rattle.iface_roles.specs.declared.records.AgentPort.{AgentPort}
use Rattle.iface_roles.specs.declared.records.Finished.{Finished}
use Rattle.iface_roles.specs.declared.records.Finished.TheVariants.{Host, Agent, Source, Sink}
use Rattle.system_tables.specs.declared.tables.Connection.{Connection}
use Rattle.system_tables.specs.declared.tables.InterfaceTable.{InterfaceTable}
use Rattle.system_tables.specs.Tables.{InstanceTable, SystemTable}
use Rattle.scenario_tables.specs.declared.statements.HostStatement.{HostStatement}
use Rattle.scenario_tables.specs.declared.statements.AgentStatement.{AgentStatement}
use Rattle.scenario_tables.specs.declared.statements.SourceStatement.{SourceStatement}
use Rattle.scenario_tables.specs.declared.statements.Pattern.{Pattern}
use Rattle.scenario_tables.specs.declared.scenario.Scenario.{Scenario}
use Rattle.scenario_tables.specs.Worked.{small_host, small_source}
use Rattle.scenarios.specs.Files.{file_in}

-- 16 words of 4 bytes
abbrev pub small_agent : AgentPort
small_agent = record {
  address_bits = 4;
  byte_units = false;
  word_bytes = 4;
  reads = true;
  writes = true;
  enables = true;
  burst_bits = 3;
  readdatavalid = true;
  waitrequest = true;
  response = false;
  unsupported = false;
  write_response = false;
  allowance = 0;
  wraps = false;
  boundaries = false;
  read_latency = 0;
  read_wait = 1;
  write_wait = 0;
  pending = 1;
  setup_hold = false;
}

abbrev pub instance : List ℕ → List ℕ → Kind → Side → Finished → InstanceTable
instance name interface kind side known = record {
  name = name;
  interfaces =
      (let table : InterfaceTable = record { name = interface; kind = kind; side = side; clock = []; finished = known } in table)
      ∷ [];
}

abbrev pub joined : ℕ → ℕ → Kind → Connection
joined from to kind = record {
  start = record { instance = from; interface = 0 };
  end = record { instance = to; interface = 0 };
  kind = kind;
  base = 0;
  shares = 1;
  fifo = 0;
  clock_fits = true;
}

abbrev pub system_with : AgentPort → SystemTable
system_with agent = record {
  name = codes "small";
  stages = 0;
  instances =
      instance (codes "h") (codes "m") Mm Start (Host small_host)
      ∷ instance (codes "a") (codes "s") Mm End (Agent agent)
      ∷ instance (codes "o") (codes "x") Stream Start (Source small_source)
      ∷ instance (codes "i") (codes "y") Stream End (Sink small_source)
      ∷ [];
  connections = joined 0 1 Mm ∷ joined 2 3 Stream ∷ [];
}

abbrev pub small_system : SystemTable
small_system = system_with small_agent

-- its agent has `response`
abbrev pub coded_system : SystemTable
coded_system = system_with (record small_agent { response = true })

-- the system for so many cycles, with the statements of each interface
abbrev pub small_scenario : ℕ → List HostStatement → List AgentStatement → List SourceStatement → List Pattern → Scenario
small_scenario cycles host agent source sink = record {
  cycles = cycles;
  hosts = host ∷ [];
  agents = agent ∷ [];
  sources = source ∷ [];
  sinks = sink ∷ [];
}

-- the bytes are a scenario for the system
abbrev pub is_read : List ℕ → Bool
is_read bytes = is_ok (file_in small_system bytes)

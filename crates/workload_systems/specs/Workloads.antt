-- The workload system of a number: its hosts, agents and streams, and how they are joined.
use Rattle.std.specs.Prelude.{◌≡◌, ℕ, ◌+◌, ◌*◌, ◌^◌, ◌%◌, true, false, nat_lt, List, [], ◌∷◌, length, map, codes, slice_index_or}
use Rattle.std.specs.List.{flat_map}
use Rattle.iface_roles.specs.declared.records.HostPort.{HostPort}
use Rattle.iface_roles.specs.declared.records.AgentPort.{AgentPort}
use Rattle.iface_roles.specs.declared.records.StreamPort.{StreamPort}
use Rattle.system_tables.specs.Tables.{SystemTable}
use Rattle.address_map.specs.Maps.{hosts_of, agents_of}
use Rattle.link_rules.specs.declared.plan_connections.MemoryConnection.{MemoryConnection}
use Rattle.link_rules.specs.declared.plan_connections.StreamConnection.{StreamConnection}
use Rattle.link_rules.specs.PlanConnections.{memory_connections, stream_connections}
use Rattle.workload_systems.specs.Systems.{hosts, agents, streams, below}

-- a host of 2 to the exponent bytes and 20 bits of byte address; one of a byte has no byte enables
abbrev pub host_port : ℕ → HostPort
host_port exponent = record {
  address_bits = 20;
  byte_units = true;
  word_bytes = 2 ^ exponent;
  reads = true;
  writes = true;
  enables = nat_lt 0 exponent;
  burst_bits = 0;
  readdatavalid = true;
  waitrequest = true;
  response = false;
  lock = false;
  write_response = false;
  allowance = 0;
  wraps = false;
}

-- an agent of 2 to the exponent bytes, a span of 0x1000 and 4 pending reads
abbrev pub agent_port : ℕ → AgentPort
agent_port exponent = record {
  address_bits = 12;
  byte_units = true;
  word_bytes = 2 ^ exponent;
  reads = true;
  writes = true;
  enables = nat_lt 0 exponent;
  burst_bits = 0;
  readdatavalid = true;
  waitrequest = true;
  response = false;
  unsupported = false;
  write_response = false;
  allowance = 0;
  wraps = false;
  boundaries = false;
  read_latency = 0;
  read_wait = 1;
  write_wait = 0;
  pending = 4;
  setup_hold = false;
}

-- the bits of the least `empty` of 1 to 4 symbols
abbrev pub empty_bits : ℕ → ℕ
empty_bits symbols = slice_index_or (0 ∷ 0 ∷ 1 ∷ 2 ∷ 2 ∷ []) symbols 0

-- an end of a stream of so many symbols of 8 bits, with packets
abbrev pub stream_port : ℕ → ℕ → StreamPort
stream_port latency symbols = record {
  symbols = symbols;
  symbol_bits = 8;
  first_high = true;
  ready = true;
  latency = latency;
  allowance = latency;
  channel_bits = 0;
  max_channel = 0;
  error_bits = 0;
  packets = true;
  empty_bits = empty_bits symbols;
}

-- a host at an agent: their widths, a base of 0x1000 times the agent's number, and 1 to 3 shares
abbrev pub workload_link : ℕ → ℕ → ℕ → MemoryConnection
workload_link number i j = record {
  connection = agents number * i + j;
  host_number = i;
  agent_number = j;
  host = host_port ((number + i) % 4);
  agent = agent_port ((number + 2 * j) % 4);
  base = 4096 * j;
  shares = 1 + i % 3;
}

abbrev pub links_of_host : ℕ → ℕ → List MemoryConnection
links_of_host number i = map (workload_link number i) (below (agents number))

-- each host is joined to each agent
abbrev pub workload_links : ℕ → List MemoryConnection
workload_links number = flat_map (links_of_host number) (below (hosts number))

-- a source and its sink; the instances are hosts, agents, sources and sinks, in this order
abbrev pub workload_stream : ℕ → ℕ → StreamConnection
workload_stream number k = record {
  connection = hosts number * agents number + k;
  source_end = record { instance = hosts number + agents number + k; interface = 0 };
  sink_end = record { instance = hosts number + agents number + streams number + k; interface = 0 };
  source = stream_port (k % 3) (1 + (number + k) % 4);
  sink = stream_port 0 (1 + (number + 2 * k) % 4);
  fifo = 0;
}

abbrev pub workload_streams : ℕ → List StreamConnection
workload_streams number = map (workload_stream number) (below (streams number))

-- the system is the workload system of the number
pub record IsWorkload (number : ℕ) (system : SystemTable) : Type 0 where
  pub name : system.name ≡ codes "w"
  pub hosts_are : length (hosts_of system) ≡ hosts number
  pub agents_are : length (agents_of system) ≡ agents number
  pub links : memory_connections system ≡ workload_links number
  pub streams_are : stream_connections system ≡ workload_streams number

-- A host and an agent of which draws are worked out.
use Rattle.std.specs.Prelude.{true, false}
use Rattle.iface_roles.specs.declared.records.HostPort.{HostPort}
use Rattle.iface_roles.specs.declared.records.AgentPort.{AgentPort}
use Rattle.link_rules.specs.declared.plan_connections.MemoryConnection.{MemoryConnection}

-- of 32 bits, with 16 bits of byte address
abbrev pub host : HostPort
host = record {
  address_bits = 16;
  byte_units = true;
  word_bytes = 4;
  reads = true;
  writes = true;
  enables = true;
  burst_bits = 0;
  readdatavalid = true;
  waitrequest = true;
  response = false;
  lock = false;
  write_response = false;
  allowance = 0;
  wraps = false;
}

-- the same that can't write
abbrev pub reader : HostPort
reader = record host { writes = false }

-- of 8 bits, with a span of 0x1000
abbrev pub agent : AgentPort
agent = record {
  address_bits = 12;
  byte_units = true;
  word_bytes = 1;
  reads = true;
  writes = true;
  enables = false;
  burst_bits = 0;
  readdatavalid = true;
  waitrequest = true;
  response = false;
  unsupported = false;
  write_response = false;
  allowance = 0;
  wraps = false;
  boundaries = false;
  read_latency = 0;
  read_wait = 1;
  write_wait = 0;
  pending = 4;
  setup_hold = false;
}

-- the host's link to the agent, from address 0x2000 on
abbrev pub link : HostPort → MemoryConnection
link port = record { connection = 0; host_number = 0; agent_number = 0; host = port; agent = agent; base = 8192; shares = 1 }

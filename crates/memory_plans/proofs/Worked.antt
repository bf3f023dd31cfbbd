-- The definitions at a system of two hosts, three agents and a stream.
use Rattle.std.proofs.Common.{◌≡◌, ℕ, Bool, true, false, [], ◌∷◌, Some, None, refl}
use Rattle.iface_roles.specs.declared.kinds.Kind.{Kind}
use Rattle.iface_roles.specs.declared.kinds.Kind.TheVariants.{Mm, Stream}
use Rattle.iface_roles.specs.declared.kinds.Side.{Side}
use Rattle.iface_roles.specs.declared.kinds.Side.TheVariants.{Start, End}
use Rattle.iface_roles.specs.declared.records.AgentPort.{AgentPort}
use Rattle.iface_roles.specs.declared.records.HostPort.{HostPort}
use Rattle.iface_roles.specs.declared.records.StreamPort.{StreamPort}
use Rattle.iface_roles.specs.declared.records.Finished.{Finished}
use Rattle.iface_roles.specs.declared.records.Finished.TheVariants.{Host, Agent, Source, Sink}
use Rattle.system_tables.specs.declared.tables.Connection.{Connection}
use Rattle.system_tables.specs.declared.tables.EndId.{EndId}
use Rattle.system_tables.specs.Tables.{InstanceTable, SystemTable}
use Rattle.address_map.specs.declared.host_map.MapEntry.{MapEntry}
use Rattle.link_rules.specs.Plans.{PlanTable}
use Rattle.memory_runs.specs.Views.{System}
use Rattle.memory_runs.specs.Views.Kind.{Reads, Writes}
use Rattle.memory_plans.specs.Systems.{memory_system}
use Rattle.memory_plans.specs.Routes.{Route, routes_of, routed}

-- a host of 32 bits and 16 address bits
abbrev host : HostPort
host = record {
  address_bits = 16;
  byte_units = true;
  word_bytes = 4;
  reads = true;
  writes = true;
  enables = true;
  burst_bits = 0;
  readdatavalid = true;
  waitrequest = true;
  response = false;
  lock = false;
  write_response = false;
  allowance = 0;
  wraps = false;
}

-- an agent of 32 bits and 64 words
abbrev agent : AgentPort
agent = record {
  address_bits = 6;
  byte_units = false;
  word_bytes = 4;
  reads = true;
  writes = true;
  enables = true;
  burst_bits = 0;
  readdatavalid = false;
  waitrequest = false;
  response = false;
  unsupported = false;
  write_response = false;
  allowance = 0;
  wraps = false;
  boundaries = false;
  read_latency = 1;
  read_wait = 0;
  write_wait = 0;
  pending = 0;
  setup_hold = false;
}

abbrev bytes : StreamPort
bytes = record {
  symbols = 1;
  symbol_bits = 8;
  first_high = true;
  ready = true;
  latency = 0;
  allowance = 0;
  channel_bits = 0;
  max_channel = 0;
  error_bits = 0;
  packets = false;
  empty_bits = 0;
}

abbrev instance : Kind → Side → Finished → InstanceTable
instance kind side known = record { name = []; interfaces = record { name = []; kind = kind; side = side; clock = []; finished = known } ∷ [] }

abbrev end : ℕ → EndId
end n = record { instance = n; interface = 0 }

abbrev joins : Kind → ℕ → ℕ → ℕ → ℕ → Connection
joins kind from to base shares = record { start = end from; end = end to; kind = kind; base = base; shares = shares; fifo = 0; clock_fits = true }

-- the instances are a host of 32 bits, one of 64, a memory, an agent of two bytes, one that is only read, a source and a sink
abbrev table : SystemTable
table = record {
  name = [];
  stages = 1;
  instances = instance Mm Start (Host host) ∷ instance Mm Start (Host (record host { word_bytes = 8 })) ∷ instance Mm End (Agent agent)
      ∷ instance Mm End (Agent (record agent { word_bytes = 1; address_bits = 1; enables = false })) ∷ instance Mm End (Agent (record agent { word_bytes = 2; address_bits = 7; writes = false; enables = false }))
      ∷ instance Stream Start (Source bytes) ∷ instance Stream End (Sink bytes) ∷ [];
  connections = joins Mm 0 2 0 2 ∷ joins Stream 5 6 0 1 ∷ joins Mm 1 2 0 1 ∷ joins Mm 0 3 256 1 ∷ joins Mm 0 4 512 1 ∷ [];
}

abbrev entry : ℕ → ℕ → ℕ → Bool → MapEntry
entry number first last writes = record { connection = number; first = first; last = last; reads = true; writes = writes }

abbrev plan : PlanTable
plan = record { system = table; maps = (entry 0 0 255 true ∷ entry 3 256 259 true ∷ entry 4 512 767 false ∷ []) ∷ (entry 2 0 255 true ∷ []) ∷ [] }

abbrev system : System
system = memory_system plan

two-hosts : system.hosts ≡ 2
two-hosts = refl

three-agents : system.agents ≡ 3
three-agents = refl

one-stage : system.stages ≡ 1
one-stage = refl

wide-host : (system.host 1).word_bytes ≡ 8
wide-host = refl

small-span : (system.agent 1).span ≡ 2
small-span = refl

only-read : (system.agent 2).has_write ≡ false
only-read = refl

joined-memory : system.joined 0 ≡ 0 ∷ 1 ∷ []
joined-memory = refl

joined-small : system.joined 1 ≡ 0 ∷ []
joined-small = refl

shares-of-memory : system.shares 0 0 ≡ 2
shares-of-memory = refl

other-shares-of-memory : system.shares 1 0 ≡ 1
other-shares-of-memory = refl

base-of-last : system.base 0 2 ≡ 512
base-of-last = refl

-- an agent of two bytes takes a word of its host
last-byte-of-word : system.place 0 Writes 259 ≡ Some 1
last-byte-of-word = refl

behind-the-word : system.place 0 Writes 260 ≡ None
behind-the-word = refl

read-at-last : system.place 0 Reads 767 ≡ Some 2
read-at-last = refl

never-written : system.place 0 Writes 767 ≡ None
never-written = refl

in-its-map : system.place 1 Reads 255 ≡ Some 0
in-its-map = refl

in-no-map-of-it : system.place 1 Reads 256 ≡ None
in-no-map-of-it = refl

abbrev route : ℕ → ℕ → ℕ → Bool → Route
route agent base bits writes = record { agent = agent; base = base; bits = bits; reads = true; writes = writes }

three-routes : routes_of table 0 ≡ route 0 0 8 true ∷ route 1 256 2 true ∷ route 2 512 8 false ∷ []
three-routes = refl

one-route : routes_of table 1 ≡ route 0 0 8 true ∷ []
one-route = refl

routed-to-word : routed (routes_of table 0) Writes 259 ≡ Some 1
routed-to-word = refl

routed-nowhere : routed (routes_of table 0) Writes 767 ≡ None
routed-nowhere = refl

-- The texts of the example systems.
use Rattle.std.proofs.Common.{◌≡◌, ℕ, ◌^◌, ◌-◌, true, false, List, [], ◌∷◌, map, codes, refl}
use Rattle.std.specs.Fmt.{digits}
use Rattle.iface_roles.specs.declared.kinds.Kind.{Kind}
use Rattle.iface_roles.specs.declared.kinds.Kind.TheVariants.{Mm, Stream}
use Rattle.iface_roles.specs.declared.kinds.Side.{Side}
use Rattle.iface_roles.specs.declared.kinds.Side.TheVariants.{Start, End}
use Rattle.iface_roles.specs.declared.records.Finished.{Finished}
use Rattle.iface_roles.specs.declared.records.Finished.TheVariants.{Host, Agent, Other}
use Rattle.system_tables.specs.declared.tables.Connection.{Connection}
use Rattle.system_tables.specs.declared.tables.EndId.{EndId}
use Rattle.system_tables.specs.declared.tables.InterfaceTable.{InterfaceTable}
use Rattle.system_tables.specs.Tables.{InstanceTable, SystemTable}
use Rattle.address_map.specs.Footprints.{footprints}
use Rattle.address_map.specs.Maps.{entries_of, hosts_of}
use Rattle.link_rules.specs.Plans.{PlanTable}
use Rattle.map_text.specs.Text.{address_text, map_text}

-- a host of 32 bits
abbrev host : ℕ → Finished
host address_bits = Host (record {
  address_bits = address_bits;
  byte_units = true;
  word_bytes = 4;
  reads = true;
  writes = true;
  enables = true;
  burst_bits = 0;
  readdatavalid = true;
  waitrequest = true;
  response = false;
  lock = false;
  write_response = false;
  allowance = 0;
  wraps = false;
})

-- an agent whose words have so many bytes
abbrev agent : ℕ → ℕ → Finished
agent address_bits word_bytes = Agent (record {
  address_bits = address_bits;
  byte_units = false;
  word_bytes = word_bytes;
  reads = true;
  writes = true;
  enables = false;
  burst_bits = 0;
  readdatavalid = false;
  waitrequest = false;
  response = false;
  unsupported = false;
  write_response = false;
  allowance = 0;
  wraps = false;
  boundaries = false;
  read_latency = 0;
  read_wait = 1;
  write_wait = 0;
  pending = 0;
  setup_hold = false;
})

abbrev interface : List ℕ → Kind → Side → Finished → InterfaceTable
interface name kind side finished = record { name = name; kind = kind; side = side; clock = []; finished = finished }

abbrev instance : List ℕ → List InterfaceTable → InstanceTable
instance name interfaces = record { name = name; interfaces = interfaces }

abbrev end : ℕ → ℕ → EndId
end instance interface = record { instance = instance; interface = interface }

abbrev joined : Kind → EndId → EndId → ℕ → ℕ → Connection
joined kind from to base shares = record { start = from; end = to; kind = kind; base = base; shares = shares; fifo = 0; clock_fits = true }

-- the plan of a system whose connections stand by rising base
abbrev planned : List InstanceTable → List Connection → PlanTable
planned instances connections =
    let system : SystemTable = record { name = codes "system"; stages = 1; instances = instances; connections = connections } in
    record { system = system; maps = map (λ host. entries_of host (footprints system)) (hosts_of system) }

-- one host and two agents of 8 bits, side by side
two_agents : map_text (planned (
    instance (codes "cpu") (interface (codes "data") Mm Start (host 16) ∷ [])
    ∷ instance (codes "ram") (interface (codes "s1") Mm End (agent 8 1) ∷ [])
    ∷ instance (codes "rom") (interface (codes "s1") Mm End (agent 8 1) ∷ []) ∷ []
    ) (joined Mm (end 0 0) (end 1 0) 0 1 ∷ joined Mm (end 0 0) (end 2 0) 0x100 1 ∷ []))
    ≡ codes "host cpu.data\n  00000000-000000ff ram.s1 connection 0 shares 1\n  00000100-000001ff rom.s1 connection 1 shares 1\naccepted hosts 1 agents 2 streams 0 weight 20544\n"
unfolding digits
two_agents = refl

-- a processor with two hosts, a memory and two agents of 16 bits
desk : map_text (planned (
    instance (codes "cpu") (interface (codes "instruction") Mm Start (host 20) ∷ interface (codes "data") Mm Start (host 20) ∷ [])
    ∷ instance (codes "ram") (interface (codes "s1") Mm End (agent 14 4) ∷ [])
    ∷ instance (codes "timer") (interface (codes "s1") Mm End (agent 3 2) ∷ [])
    ∷ instance (codes "uart") (interface (codes "s1") Mm End (agent 3 2) ∷ []) ∷ []
    ) (
    joined Mm (end 0 0) (end 1 0) 0 1
    ∷ joined Mm (end 0 1) (end 1 0) 0 1
    ∷ joined Mm (end 0 1) (end 2 0) 0x1_0000 1
    ∷ joined Mm (end 0 1) (end 3 0) 0x1_0020 1 ∷ []
    ))
    ≡ codes "host cpu.instruction\n  00000000-0000ffff ram.s1 connection 0 shares 1\nhost cpu.data\n  00000000-0000ffff ram.s1 connection 1 shares 1\n  00010000-0001000f timer.s1 connection 2 shares 1\n  00010020-0001002f uart.s1 connection 3 shares 1\naccepted hosts 2 agents 3 streams 0 weight 32832\n"
unfolding digits
desk = refl

-- two streams behind a connection of a host to an agent, which has three shares; ends of streams are known by name alone
streams : map_text (planned (
    instance (codes "a") (interface (codes "m") Mm Start (host 16) ∷ interface (codes "out") Stream Start Other ∷ interface (codes "in") Stream End Other ∷ [])
    ∷ instance (codes "b") (interface (codes "s") Mm End (agent 8 1) ∷ interface (codes "out") Stream Start Other ∷ interface (codes "in") Stream End Other ∷ []) ∷ []
    ) (
    joined Stream (end 1 1) (end 0 2) 0 1
    ∷ joined Mm (end 0 0) (end 1 0) 0 3
    ∷ joined Stream (end 0 1) (end 1 2) 0 1 ∷ []
    ))
    ≡ codes "host a.m\n  00000000-000000ff b.s connection 1 shares 3\nstream b.out to a.in connection 0\nstream a.out to b.in connection 2\naccepted hosts 1 agents 1 streams 2 weight 27712\n"
unfolding digits
streams = refl

-- the last address of all
last_address : address_text (2 ^ 32 - 1) ≡ codes "ffffffff"
unfolding digits
last_address = refl

-- The tables of a system: instances with their interfaces, and connections.
use Rattle.system_tables.specs.declared.tables.InterfaceTable.{InterfaceTable}
use Rattle.std.specs.Prelude.{◌≡◌, ◌^◌, ◌<◌, ◌≤◌, ℕ, List, IsTrue, slice_get, Some}
use Rattle.iface_roles.specs.declared.kinds.Kind.{Kind}
use Rattle.iface_roles.specs.declared.kinds.Kind.TheVariants.{Mm, Stream}
use Rattle.iface_roles.specs.declared.records.Finished.{Finished}
use Rattle.iface_roles.specs.declared.records.Finished.TheVariants.{Host, Agent, Source, Sink}
use Rattle.iface_roles.specs.Proper.{IsProper}
use Rattle.system_tables.specs.declared.tables.EndId.{EndId}
use Rattle.system_tables.specs.declared.tables.Connection.{Connection}
use Rattle.system_tables.specs.Names.{is_name}

-- an instance of a component, which has the component's interfaces
pub record InstanceTable : Type 0 where
  pub name : List ℕ
  pub interfaces : List InterfaceTable

-- a system: its connections are those of hosts to agents and of sources to sinks, in the order of their commands
pub record SystemTable : Type 0 where
  pub name : List ℕ
  pub stages : ℕ
  pub instances : List InstanceTable
  pub connections : List Connection

-- the interface at an end of the system
pub record IsInterface (system : SystemTable) (end : EndId) (interface : InterfaceTable) : Type 0 where
  pub instance : InstanceTable
  pub instance_is : slice_get system.instances end.instance ≡ Some instance
  pub interface_is : slice_get instance.interfaces end.interface ≡ Some interface

-- an end of the system, and what is known of the interface there
pub record IsEnd (system : SystemTable) (end : EndId) (known : Finished) : Type 0 where
  pub instance : InstanceTable
  pub interface : InterfaceTable
  pub instance_is : slice_get system.instances end.instance ≡ Some instance
  pub interface_is : slice_get instance.interfaces end.interface ≡ Some interface
  pub is : interface.finished ≡ known

-- a connection of this kind goes from a host to an agent, or from a source to a sink
abbrev pub Joins : Kind → Finished → Finished → Type 0
Joins Mm (Host host) (Agent agent) = Unit {0}
Joins Stream (Source source) (Sink sink) = Unit {0}
Joins _ _ _ = ⊥

-- a connection within the system, and its parameters within their ranges
pub record IsLogic (system : SystemTable) (connection : Connection) : Type 0 where
  pub start_known : Finished
  pub end_known : Finished
  pub start : IsEnd system connection.start start_known
  pub end : IsEnd system connection.end end_known
  pub joins : Joins connection.kind start_known end_known
  pub start_proper : IsProper start_known
  pub end_proper : IsProper end_known
  pub base : connection.base < 2 ^ 32
  pub some_share : 1 ≤ connection.shares
  pub shares : connection.shares ≤ 63
  pub fifo : connection.fifo ≤ 64

-- the names of an instance's interfaces are names, and distinct
pub record HasNames (instance : InstanceTable) : Type 0 where
  pub name : IsTrue (is_name instance.name)
  pub interfaces : (k : ℕ) (a : InterfaceTable) → slice_get instance.interfaces k ≡ Some a → IsTrue (is_name a.name)
  pub distinct : (j k : ℕ) (a b : InterfaceTable) → slice_get instance.interfaces j ≡ Some a
      → slice_get instance.interfaces k ≡ Some b → a.name ≡ b.name → j ≡ k

-- a system that a file states
pub record IsSystem (system : SystemTable) : Type 0 where
  pub name : IsTrue (is_name system.name)
  pub stages : system.stages ≤ 4
  pub instances : (k : ℕ) (a : InstanceTable) → slice_get system.instances k ≡ Some a → HasNames a
  pub distinct : (j k : ℕ) (a b : InstanceTable) → slice_get system.instances j ≡ Some a
      → slice_get system.instances k ≡ Some b → a.name ≡ b.name → j ≡ k
  pub connections : (k : ℕ) (a : Connection) → slice_get system.connections k ≡ Some a → IsLogic system a
  -- no two connections join the same ends
  pub pairs : (j k : ℕ) (a b : Connection) → slice_get system.connections j ≡ Some a
      → slice_get system.connections k ≡ Some b → a.start ≡ b.start → a.end ≡ b.end → j ≡ k
  -- a source and a sink are each connected once
  pub sources : (j k : ℕ) (a b : Connection) → slice_get system.connections j ≡ Some a
      → slice_get system.connections k ≡ Some b → a.kind ≡ Stream → a.start ≡ b.start → j ≡ k
  pub sinks : (j k : ℕ) (a b : Connection) → slice_get system.connections j ≡ Some a
      → slice_get system.connections k ≡ Some b → a.kind ≡ Stream → a.end ≡ b.end → j ≡ k

-- The rules at the connections of a system, and its limits.
use Rattle.std.specs.Prelude.{◌≡◌, ◌+◌, ◌*◌, ◌-◌, ◌<◌, ℕ, Bool, true, false, nat_lt, List, [], ◌∷◌, length, Some, None, slice_get, if◌then◌else◌}
use Rattle.std.specs.List.{filter_map, enumerate_from}
use Rattle.iface_roles.specs.declared.kinds.Kind.{Kind}
use Rattle.iface_roles.specs.declared.kinds.Kind.TheVariants.{Stream}
use Rattle.iface_roles.specs.declared.records.Finished.{Finished}
use Rattle.iface_roles.specs.declared.records.Finished.TheVariants.{Host, Agent, Source, Sink}
use Rattle.system_tables.specs.declared.tables.Connection.{Connection}
use Rattle.system_tables.specs.Tables.{SystemTable}
use Rattle.address_map.specs.Footprints.{known_at}
use Rattle.address_map.specs.Maps.{is_mm, mm_connections, hosts_of, agents_of}
use Rattle.link_rules.specs.declared.faults.LinkRule.{LinkRule}
use Rattle.link_rules.specs.declared.faults.LinkRule.TheVariants.{Mm as MmRule, Stream as StreamRule}
use Rattle.link_rules.specs.declared.faults.PlanFault.{PlanFault}
use Rattle.link_rules.specs.declared.faults.PlanFault.TheVariants.{Refused, Limit, NoMemory}
use Rattle.link_rules.specs.Pairs.{mm_tests, stream_tests, KeepsAll, IsLeastFailing}

abbrev pub tests_as : Bool → Finished → Finished → List Bool
tests_as same_clock (Host host) (Agent agent) = mm_tests host agent same_clock
tests_as same_clock (Source source) (Sink sink) = stream_tests source sink same_clock
tests_as same_clock _ _ = []

-- the tests of the ends of a connection
abbrev pub tests_of : SystemTable → Connection → List Bool
tests_of system connection = tests_as connection.clock_fits (known_at system connection.start) (known_at system connection.end)

-- the rule of this number at a connection
abbrev pub link_rule : Connection → ℕ → LinkRule
link_rule connection number = if is_mm connection.kind then MmRule number else StreamRule number

-- the connection of this number breaks no rule on its ends
abbrev pub KeepsLinkRules : SystemTable → ℕ → Type 0
KeepsLinkRules system k =
    (connection : Connection) → slice_get system.connections k ≡ Some connection → KeepsAll (tests_of system connection)

-- this is the least rule that the connection breaks
pub record IsRefused (system : SystemTable) (k : ℕ) (rule : LinkRule) : Type 0 where
  pub connection : Connection
  pub number : ℕ
  pub is : slice_get system.connections k ≡ Some connection
  pub least : IsLeastFailing (tests_of system connection) number
  pub named : rule ≡ link_rule connection number

-- this is the least connection that breaks a rule, with the least rule that it breaks
pub record IsFirstRefused (system : SystemTable) (k : ℕ) (rule : LinkRule) : Type 0 where
  pub refused : IsRefused system k rule
  pub first : (j : ℕ) → j < k → KeepsLinkRules system j

abbrev pub is_stream : Kind → Bool
is_stream Stream = true
is_stream _ = false

-- the streams by their numbers: the numbers of their connections
abbrev pub streams_of : SystemTable → List ℕ
streams_of system =
    filter_map (λ numbered. if is_stream numbered.1.kind then Some numbered.0 else None) (enumerate_from 0 system.connections)

-- L1: more than 16 hosts; L2: more than 32 agents; L3: more than 16 streams
abbrev pub too_many : ℕ → ℕ → ℕ → List Bool
too_many hosts agents streams = nat_lt 16 hosts ∷ nat_lt 32 agents ∷ nat_lt 16 streams ∷ []

-- the limit of this number is the least that is passed, by so many
pub record IsPassed (hosts agents streams which count : ℕ) : Type 0 where
  pub least : IsLeastFailing (too_many hosts agents streams) which
  pub count_is : slice_get (hosts ∷ agents ∷ streams ∷ []) (which - 1) ≡ Some count

abbrev pub IsPassedBy : ℕ → ℕ → ℕ → PlanFault → Type 0
IsPassedBy hosts agents streams (Limit which count) = IsPassed hosts agents streams which count
IsPassedBy hosts agents streams _ = ⊥

abbrev pub limit_tests : SystemTable → List Bool
limit_tests system = too_many (length (hosts_of system)) (length (agents_of system)) (length (streams_of system))

-- the least limit that a system passes whose connections break no rule
pub record IsPassedLimit (system : SystemTable) (which count : ℕ) : Type 0 where
  pub kept : (k : ℕ) → KeepsLinkRules system k
  pub passed : IsPassed (length (hosts_of system)) (length (agents_of system)) (length (streams_of system)) which count

-- why there is no plan; want of memory says nothing of the system
abbrev pub IsCause : SystemTable → PlanFault → Type 0
IsCause system (Refused connection rule) = IsFirstRefused system connection rule
IsCause system (Limit which count) = IsPassedLimit system which count
IsCause system NoMemory = Unit {0}

-- bounds the nets of a system's module, and so the work of a cycle
abbrev pub weight_of : SystemTable → ℕ
weight_of system =
    64 + 2048 * length (hosts_of system) + 8192 * length (agents_of system) + 1024 * length (mm_connections system)
    + 8192 * length (streams_of system)

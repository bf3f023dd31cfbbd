-- What is known of a plan and at an end of it.
use Rattle.std.proofs.Common.{◌≡◌, ◌≤◌, ◌*◌, ◌^◌, ℕ, Bool, Some, length, slice_get, sym, subst, ◌∙◌, arith}
use Rattle.std.proofs.lemmas.Bool.{or_parts, ltb-false}
use Rattle.std.proofs.Math.Pow.{pow_mono}
use Rattle.iface_roles.specs.declared.records.Finished.{Finished}
use Rattle.iface_roles.specs.declared.records.Finished.TheVariants.{Host, Agent, Source, Sink}
use Rattle.iface_roles.specs.declared.records.HostPort.{HostPort}
use Rattle.iface_roles.specs.declared.records.AgentPort.{AgentPort}
use Rattle.iface_roles.specs.Proper.{IsProper, IsWordSize, IsBoundedHost, IsBoundedAgent}
use Rattle.system_tables.specs.declared.tables.EndId.{EndId}
use Rattle.system_tables.specs.declared.tables.Connection.{Connection}
use Rattle.system_tables.specs.Tables.{SystemTable, IsEnd, IsSystem}
use Rattle.address_map.specs.Footprints.{known_at}
use Rattle.address_map.specs.Maps.{hosts_of, agents_of}
use Rattle.link_rules.specs.Pairs.{KeepsAll}
use Rattle.link_rules.specs.Links.{streams_of, tests_as, tests_of}
use Rattle.link_rules.specs.Plans.{PlanTable, IsPlan}
use Rattle.port_tables.specs.Ends.{IsPlanEnd}

-- a beat of at most 128 bits at both ends of a stream
abbrev pub AreNarrow : Finished → Finished → Type 0
AreNarrow (Source source) (Sink sink) = (source.symbols * source.symbol_bits ≤ 128) × (sink.symbols * sink.symbol_bits ≤ 128)
AreNarrow _ _ = Unit {0}

-- what a plan promises of its system, as far as a module needs it
pub record IsPlanned (system : SystemTable) : Type 0 where
  pub kept : IsSystem system
  pub few_hosts : length (hosts_of system) ≤ 16
  pub few_agents : length (agents_of system) ≤ 32
  pub few_streams : length (streams_of system) ≤ 16
  pub rules : (k : ℕ) (a : Connection) → slice_get system.connections k ≡ Some a → KeepsAll (tests_of system a)
  pub narrow : (k : ℕ) (a : Connection) → slice_get system.connections k ≡ Some a
      → AreNarrow (known_at system a.start) (known_at system a.end)

narrow_by : (clock : Bool) (a b : Finished) → KeepsAll (tests_as clock a b) → AreNarrow a b
narrow_by clock (Source source) (Sink sink) h =
    let parts = or_parts _ _ (h 6) in
    (ltb-false 128 (source.symbols * source.symbol_bits) parts.0, ltb-false 128 (sink.symbols * sink.symbol_bits) parts.1)
narrow_by clock a b h = tt

pub planned : (plan : PlanTable) → IsPlan plan → IsPlanned plan.system
planned plan h =
    record {
      kept = h.system;
      few_hosts = ltb-false 16 (length (hosts_of plan.system)) (h.limits 1);
      few_agents = ltb-false 32 (length (agents_of plan.system)) (h.limits 2);
      few_streams = ltb-false 16 (length (streams_of plan.system)) (h.limits 3);
      rules = λ k a e. h.links k a e;
      narrow = λ k a e. narrow_by a.clock_fits (known_at plan.system a.start) (known_at plan.system a.end) (h.links k a e);
    }

pub known_is : (system : SystemTable) (end : EndId) (known : Finished) → IsEnd system end known → known_at system end ≡ known
known_is system end known e = rw (e.instance_is, e.interface_is) e.is

-- one thing is known of an end
pub same_known : (system : SystemTable) (end : EndId) (a b : Finished) → IsEnd system end a → IsEnd system end b → a ≡ b
same_known system end a b ea eb = sym (known_is system end a ea) ∙ known_is system end b eb

pub known_proper : (system : SystemTable) (end : EndId) (known : Finished) → IsPlanEnd system end → IsEnd system end known
    → IsProper known
known_proper system end known h is = subst IsProper (same_known system end h.known known h.is is) h.proper

pub small_word : (bytes : ℕ) → IsWordSize bytes → bytes ≤ 16
small_word bytes h = let most : 2 ^ h.exponent ≤ 2 ^ 4 = pow_mono h.small in let is = h.power in omega arith

pub host_word : (system : SystemTable) (end : EndId) (host : HostPort)
    → ((host : HostPort) → IsProper (Host host) → IsBoundedHost host) → IsPlanEnd system end → IsEnd system end (Host host)
    → host.word_bytes ≤ 16
host_word system end host law h is = small_word host.word_bytes (law host (known_proper system end (Host host) h is)).ports.word

pub agent_word : (system : SystemTable) (end : EndId) (agent : AgentPort)
    → ((agent : AgentPort) → IsProper (Agent agent) → IsBoundedAgent agent) → IsPlanEnd system end
    → IsEnd system end (Agent agent)
    → agent.word_bytes ≤ 16
agent_word system end agent law h is =
    small_word agent.word_bytes (law agent (known_proper system end (Agent agent) h is)).ports.word

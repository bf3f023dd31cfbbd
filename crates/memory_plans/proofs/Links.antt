-- There are no more links than connections of hosts to agents.
use Rattle.std.proofs.Common.{◌≡◌, ℕ, suc, ◌+◌, ◌≤◌, Bool, true, false, List, [], ◌∷◌, Option, Some, None, length, filter, refl, sym, ap₂, ◌∙◌, arith}
use Rattle.std.specs.Prelude.{slice_get}
use Rattle.std.specs.List.{filter_map, enumerate_from}
use Rattle.iface_roles.specs.declared.kinds.Kind.{Kind}
use Rattle.iface_roles.specs.declared.kinds.Kind.TheVariants.{Clock, Reset, Mm, Stream, Conduit, Interrupt}
use Rattle.iface_roles.specs.declared.records.Finished.{Finished}
use Rattle.iface_roles.specs.declared.records.Finished.TheVariants.{Host, Agent, Source, Sink, Other}
use Rattle.system_tables.specs.declared.tables.Connection.{Connection}
use Rattle.system_tables.specs.declared.tables.EndId.{EndId}
use Rattle.system_tables.specs.Tables.{SystemTable, IsLogic, Joins}
use Rattle.address_map.specs.Maps.{is_mm, hosts_of, agents_of, mm_connections}
use Rattle.link_rules.specs.declared.plan_connections.MemoryConnection.{MemoryConnection}
use Rattle.link_rules.specs.PlanConnections.{memory_connection_as, memory_connection, memory_connections}
use Rattle.memory_plans.proofs.Ends.{known_is}

no_link : (hosts agents : List EndId) (number : ℕ) (c : Connection) (kind : Kind) (a b : Finished) → Joins kind a b → is_mm kind ≡ false → memory_connection_as hosts agents number c a b ≡ None
no_link hosts agents number c Stream (Source s) b j e = refl
no_link hosts agents number c Stream (Sink s) b j e = refl
no_link hosts agents number c Stream (Agent a) b j e = refl
no_link hosts agents number c Stream Other b j e = refl
no_link hosts agents number c Stream (Host h) b j e = absurd j
no_link hosts agents number c Mm a b j e = cc
no_link hosts agents number c Clock a b j e = absurd j
no_link hosts agents number c Reset a b j e = absurd j
no_link hosts agents number c Conduit a b j e = absurd j
no_link hosts agents number c Interrupt a b j e = absurd j

module _ (system : SystemTable) where
  of_none : (number : ℕ) (c : Connection) → IsLogic system c → is_mm c.kind ≡ false → memory_connection system (number, c) ≡ None
  of_none number c is e =
      ap₂ (memory_connection_as (hosts_of system) (agents_of system) number c) (known_is system c.start is.start_known is.start) (known_is system c.end is.end_known is.end)
      ∙ no_link (hosts_of system) (agents_of system) number c c.kind is.start_known is.end_known is.joins e

  links_among : (number : ℕ) (cs : List Connection) → ((k : ℕ) (c : Connection) → slice_get cs k ≡ Some c → IsLogic system c) →
      length (filter_map (memory_connection system) (enumerate_from number cs)) ≤ length (filter (λ (c : Connection). is_mm c.kind) cs)
  links_among number [] all = omega arith
  links_among number (c ∷ cs) all = by (is_mm c.kind) refl (memory_connection system (number, c)) refl (links_among (number + 1) cs (λ k. all (suc k)))
    where
      by : (b : Bool) → is_mm c.kind ≡ b → (o : Option MemoryConnection) → memory_connection system (number, c) ≡ o →
          length (filter_map (memory_connection system) (enumerate_from (number + 1) cs)) ≤ length (filter (λ (c : Connection). is_mm c.kind) cs) →
          length (filter_map (memory_connection system) (enumerate_from number (c ∷ cs))) ≤ length (filter (λ (c : Connection). is_mm c.kind) (c ∷ cs))
      by true e None f rest = rw (e, f) (omega (arith, rest))
      by true e (Some link) f rest = rw (e, f) (omega (arith, rest))
      by false e None f rest = rw (e, f) rest
      by false e (Some link) f rest = let none : memory_connection system (number, c) ≡ None = of_none number c (all 0 c refl) e in absurd (let no : Some link ≡ None = sym f ∙ none in cc)

  pub links_by_connections : ((k : ℕ) (c : Connection) → slice_get system.connections k ≡ Some c → IsLogic system c) → length (memory_connections system) ≤ length (mm_connections system)
  links_by_connections all = links_among 0 system.connections all

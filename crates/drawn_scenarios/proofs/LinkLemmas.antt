-- The links of a plan's hosts: how far they reach, and that each host has one.
use Rattle.std.proofs.Common.{◌≡◌, ℕ, zero, suc, ◌+◌, ◌*◌, ◌<◌, ◌≤◌, Bool, true, false, cond, List, [], ◌∷◌, length, filter, take, refl, sym, ap, subst, ◌∙◌, arith}
use Rattle.std.specs.Prelude.{◌==◌, ◌||◌, nat_lt, slice_get, slice_index_or, Some, None}
use Rattle.std.specs.Option.{option_map}
use Rattle.std.proofs.lemmas.Bool.{ltb-false}
use Rattle.std.proofs.lemmas.Bool.Decides.{Decides-eqb}
use Rattle.std.proofs.lemmas.Option.{same_Some, none-some, slice_get-map, get_or_from_slice_get}
use Rattle.iface_roles.specs.declared.kinds.Side.TheVariants.{Start}
use Rattle.iface_roles.specs.declared.kinds.Kind.{Kind}
use Rattle.iface_roles.specs.declared.kinds.Kind.TheVariants.{Mm}
use Rattle.iface_roles.specs.declared.records.AgentPort.{AgentPort}
use Rattle.iface_roles.specs.declared.records.HostPort.{HostPort}
use Rattle.iface_roles.specs.declared.records.StreamPort.{StreamPort}
use Rattle.iface_roles.specs.declared.records.Finished.{Finished}
use Rattle.iface_roles.specs.declared.records.Finished.TheVariants.{Host, Agent, Source}
use Rattle.iface_roles.specs.Proper.{IsProper, IsBoundedHost, IsBoundedAgent, IsBoundedStream, range_of}
use Rattle.system_tables.specs.declared.tables.EndId.{EndId}
use Rattle.system_tables.specs.declared.tables.Connection.{Connection}
use Rattle.system_tables.specs.Tables.{SystemTable, IsEnd}
use Rattle.address_map.specs.declared.footprint.Footprint.{Footprint}
use Rattle.address_map.specs.Footprints.{known_at, footprint_as, footprint_of, footprints, footprint_bytes}
use Rattle.address_map.specs.MapRules.{breaks_after, ends_past_range}
use Rattle.address_map.specs.Maps.{hosts_of, is_mm, IsJoined}
use Rattle.link_rules.specs.declared.plan_connections.MemoryConnection.{MemoryConnection}
use Rattle.link_rules.specs.declared.plan_connections.StreamConnection.{StreamConnection}
use Rattle.link_rules.specs.PlanConnections.{memory_connections, IsMemoryConnection, HasMemoryConnection, IsStreamConnection, KeepsStreamRules}
use Rattle.link_rules.specs.Plans.{PlanTable, IsPlan}
use Rattle.drawn_scenarios.specs.Hosts.{IsReached, links_of}
use Rattle.drawn_scenarios.specs.Streams.{IsDrawable}

pub known_is : (system : SystemTable) (end : EndId) (known : Finished) → IsEnd system end known → known_at system end ≡ known
known_is system end known e = rw (e.instance_is, e.interface_is) e.is

-- by the rule on ranges a link ends within the range of its host
pub ends_within : (plan : PlanTable) → IsPlan plan → (link : MemoryConnection) → IsMemoryConnection plan.system link → link.base + footprint_bytes link.host link.agent ≤ range_of link.host
ends_within plan is_plan link l =
    let c = l.connection in
    let f : Footprint = record { host = c.start; range = range_of link.host; base = c.base; bytes = footprint_bytes link.host link.agent; reads = link.agent.reads; writes = link.agent.writes } in
    let starts : known_at plan.system c.start ≡ Host link.host = known_is plan.system c.start (Host link.host) l.host in
    let ends : known_at plan.system c.end ≡ Agent link.agent = known_is plan.system c.end (Agent link.agent) l.agent in
    let taken : footprint_of plan.system c ≡ Some f = ap (λ a. footprint_as c a (known_at plan.system c.end)) starts ∙ ap (footprint_as c (Host link.host)) ends in
    let there : slice_get (footprints plan.system) link.connection ≡ Some (Some f) =
    slice_get-map (footprint_of plan.system) plan.system.connections link.connection ∙ ap (option_map (footprint_of plan.system)) l.connection_is ∙ ap Some taken in
    let here : slice_index_or (footprints plan.system) link.connection None ≡ Some f = get_or_from_slice_get (footprints plan.system) link.connection (Some f) None there in
    let within : ends_past_range f ≡ false = subst (λ o. breaks_after (take link.connection (footprints plan.system)) o 3 ≡ false) here (is_plan.maps.kept link.connection 3) in
    let inside : f.base + f.bytes ≤ f.range = ltb-false f.range (f.base + f.bytes) within in
    let base = l.base in
    omega (arith, inside, base)

-- where an item that is kept comes from
abbrev IsKeptFrom : {X : Type 0} → (X → Bool) → List X → X → Type 0
IsKeptFrom p xs x = (j : ℕ) × (slice_get xs j ≡ Some x) × (p x ≡ true)

kept_later : {X : Type 0} (p : X → Bool) (y : X) (xs : List X) (x : X) → IsKeptFrom p xs x → IsKeptFrom p (y ∷ xs) x
kept_later p y xs x from = (suc from.0, from.1, from.2)

kept_by : {X : Type 0} (p : X → Bool) (y : X) (xs : List X) (x : X) (b : Bool) → p y ≡ b → ((k : ℕ) → slice_get (filter p xs) k ≡ Some x → IsKeptFrom p xs x) → (k : ℕ)
    → slice_get (cond b (y ∷ filter p xs) (filter p xs)) k ≡ Some x → IsKeptFrom p (y ∷ xs) x
kept_by p y xs x true e later zero at = let same = same_Some y x at in (0, at, ap p (sym same) ∙ e)
kept_by p y xs x true e later (suc k) at = kept_later p y xs x (later k at)
kept_by p y xs x false e later k at = kept_later p y xs x (later k at)

kept_from : {X : Type 0} (p : X → Bool) (xs : List X) (k : ℕ) (x : X) → slice_get (filter p xs) k ≡ Some x → IsKeptFrom p xs x
kept_from p [] k x at = absurd (none-some x at)
kept_from p (y ∷ xs) k x at = kept_by p y xs x (p y) refl (λ j there. kept_from p xs j x there) k at

-- an item that passes is kept
some_by : {X : Type 0} (p : X → Bool) (y : X) (xs : List X) (x : X) (b : Bool) → p y ≡ b → p x ≡ true → ((k : ℕ) → slice_get xs k ≡ Some x → 0 < length (filter p xs)) → (k : ℕ)
    → slice_get (y ∷ xs) k ≡ Some x → 0 < length (cond b (y ∷ filter p xs) (filter p xs))
some_by p y xs x true e passes later k at = omega arith
some_by p y xs x false e passes later zero at = absurd (let same = same_Some y x at in let never : false ≡ true = sym e ∙ ap p same ∙ passes in cc)
some_by p y xs x false e passes later (suc k) at = later k at

kept_some : {X : Type 0} (p : X → Bool) (xs : List X) (k : ℕ) (x : X) → slice_get xs k ≡ Some x → p x ≡ true → 0 < length (filter p xs)
kept_some p [] k x at passes = absurd (none-some x at)
kept_some p (y ∷ xs) k x at passes = some_by p y xs x (p y) refl passes (λ j there. kept_some p xs j x there passes) k at

-- a link of a host is one of the plan, and is numbered so
pub own_link : (system : SystemTable) (host k : ℕ) (link : MemoryConnection) → slice_get (links_of system host) k ≡ Some link → (j : ℕ) × (slice_get (memory_connections system) j ≡ Some link) × (link.host_number ≡ host)
own_link system host k link at =
    let from = kept_from (λ l. l.host_number == host) (memory_connections system) k link at in
    (from.0, from.1, (Decides-eqb link.host_number host).0 from.2)

pub has_link : (system : SystemTable) (host j : ℕ) (link : MemoryConnection) → slice_get (memory_connections system) j ≡ Some link → link.host_number ≡ host → 0 < length (links_of system host)
has_link system host j link at e = kept_some (λ l. l.host_number == host) (memory_connections system) j link at ((Decides-eqb link.host_number host).1 e)

mm_kind : (kind : Kind) → is_mm kind ≡ true → kind ≡ Mm
mm_kind Mm e = refl
mm_kind _ e = cc

end_there : (ends : List EndId) (k : ℕ) → k < length ends → (end : EndId) × (slice_get ends k ≡ Some end)
end_there [] k less = absurd (omega arith)
end_there (end ∷ ends) zero less = (end, refl)
end_there (end ∷ ends) (suc k) less = end_there ends k (omega arith)

module _ (plan : PlanTable) (is_plan : IsPlan plan)
    (numbered : (k : ℕ) (link : MemoryConnection) → slice_get (memory_connections plan.system) k ≡ Some link → IsMemoryConnection plan.system link) where
  pub link_reached : ((host : HostPort) → IsProper (Host host) → IsBoundedHost host) → ((agent : AgentPort) → IsProper (Agent agent) → IsBoundedAgent agent)
      → (host k : ℕ) (link : MemoryConnection) → slice_get (links_of plan.system host) k ≡ Some link → IsReached link
  link_reached hosts agents host k link at =
      let own = own_link plan.system host k link at in
      let l = numbered own.0 link own.1 in
      record { host = hosts link.host l.host_proper; agent = agents link.agent l.agent_proper; within = ends_within plan is_plan link l }

  pub host_has_link : ((number : ℕ) (end : EndId) → slice_get (hosts_of plan.system) number ≡ Some end → IsJoined plan.system Start end)
      → ((j k : ℕ) (end : EndId) → slice_get (hosts_of plan.system) j ≡ Some end → slice_get (hosts_of plan.system) k ≡ Some end → j ≡ k)
      → ((number : ℕ) (connection : Connection) → slice_get plan.system.connections number ≡ Some connection → connection.kind ≡ Mm → HasMemoryConnection plan.system number)
      → (host : ℕ) → host < length (hosts_of plan.system) → 0 < length (links_of plan.system host)
  host_has_link joined one each host less =
      let end = end_there (hosts_of plan.system) host less in
      let j = joined host end.0 end.1 in
      let h = each j.number j.connection j.is (mm_kind j.connection.kind j.kind) in
      let l = numbered h.place h.link h.is in
      let same : l.connection ≡ j.connection = same_Some l.connection j.connection (sym l.connection_is ∙ ap (slice_get plan.system.connections) h.connection ∙ j.is) in
      let start : l.connection.start ≡ end.0 = ap (λ (c : Connection). c.start) same ∙ j.there in
      has_link plan.system host h.place h.link h.is (one h.link.host_number host end.0 (l.host_is ∙ ap Some start) end.1)

either : (a b : Bool) → (a || b) ≡ false → a ≡ false
either false b e = refl
either true b e = cc

-- by the rule on long beats a beat of a source has at most 128 bits
pub source_drawable : (system : SystemTable) (k : ℕ) (link : StreamConnection) → IsStreamConnection system k link → ((source : StreamPort) → IsProper (Source source) → IsBoundedStream source) → KeepsStreamRules system link → IsDrawable link.source
source_drawable system k link l sources keeps =
    let short = either (nat_lt 128 (link.source.symbols * link.source.symbol_bits)) _ (keeps l.connection l.connection_is 6) in
    record { bounded = sources link.source l.source_proper; short = ltb-false 128 (link.source.symbols * link.source.symbol_bits) short }

-- The routes of a host lie in its range.
use Rattle.std.proofs.Common.{◌≡◌, ℕ, ◌+◌, ◌^◌, ◌<◌, ◌≤◌, zero, suc, Bool, true, false, cond, nat_eq, List, [], ◌∷◌, Some, None, map, filter, length, refl, sym, ap, subst, ◌∙◌, arith}
use Rattle.std.specs.Prelude.{slice_get, slice_index_or, take}
use Rattle.std.proofs.lemmas.Bool.{ltb-false}
use Rattle.std.proofs.lemmas.Bool.Decides.{Decides-eqb}
use Rattle.std.proofs.lemmas.Option.{same_Some, none-some}
use Rattle.iface_roles.specs.declared.records.HostPort.{HostPort}
use Rattle.iface_roles.specs.declared.records.Finished.{Finished}
use Rattle.iface_roles.specs.declared.records.Finished.TheVariants.{Host, Agent}
use Rattle.iface_roles.specs.Proper.{range_of, span_of}
use Rattle.system_tables.specs.declared.tables.EndId.{EndId}
use Rattle.system_tables.specs.Tables.{SystemTable}
use Rattle.address_map.specs.declared.footprint.Footprint.{Footprint}
use Rattle.address_map.specs.Footprints.{known_at, footprint_as, footprint_of, footprints, footprint_bytes}
use Rattle.address_map.specs.MapRules.{breaks_after, ends_past_range}
use Rattle.address_map.specs.Maps.{hosts_of}
use Rattle.link_rules.specs.declared.plan_connections.MemoryConnection.{MemoryConnection}
use Rattle.link_rules.specs.PlanConnections.{memory_connections, IsMemoryConnection}
use Rattle.link_rules.specs.Plans.{PlanTable, IsPlan}
use Rattle.memory_runs.specs.Plan.{IsMemoryPlan, IsPowerOfTwo}
use Rattle.memory_plans.specs.Routes.{Route, route_of, routes_among, routes_of, AreRoutes}
use Rattle.memory_plans.specs.Systems.{known_in, side_of_host, memory_system}
use Rattle.mm_route.specs.Entries.{IsEntry}
use Rattle.memory_plans.specs.Maps.{IsHostOf, RoutesAreMapped}
use Rattle.memory_plans.proofs.Ends.{known_is, ends_of}
use Rattle.memory_plans.proofs.Entries.{all_entries, words_held, places_held, agents_have}

-- ---- lists

index_is : {X : Type 0} (xs : List X) (k : ℕ) (x d : X) → slice_get xs k ≡ Some x → slice_index_or xs k d ≡ x
index_is [] k x d at = absurd (none-some x at)
index_is (y ∷ xs) zero x d at = same_Some y x at
index_is (y ∷ xs) (suc k) x d at = index_is xs k x d at

mapped : {X Y : Type 0} (f : X → Y) (xs : List X) (k : ℕ) (x : X) → slice_get xs k ≡ Some x → slice_get (map f xs) k ≡ Some (f x)
mapped f [] k x at = absurd (none-some x at)
mapped f (y ∷ xs) zero x at = ap (λ z. Some (f z)) (same_Some y x at)
mapped f (y ∷ xs) (suc k) x at = mapped f xs k x at

-- the link of a route
record HasLinkAt (host : ℕ) (links : List MemoryConnection) (route : Route) : Type 0 where
  pub place : ℕ
  pub link : MemoryConnection
  pub is : slice_get links place ≡ Some link
  pub of_host : link.host_number ≡ host
  pub same : route_of link ≡ route

link_later : (host : ℕ) (first : MemoryConnection) (links : List MemoryConnection) (route : Route) → HasLinkAt host links route → HasLinkAt host (first ∷ links) route
link_later host first links route h = record { place = suc h.place; link = h.link; is = h.is; of_host = h.of_host; same = h.same }

link_of : (host : ℕ) (links : List MemoryConnection) (k : ℕ) (route : Route) → slice_get (routes_among host links) k ≡ Some route → HasLinkAt host links route
link_of host [] k route at = absurd (none-some route at)
link_of host (first ∷ links) k route at = by (nat_eq first.host_number host) refl k at (λ j there. link_later host first links route (link_of host links j route there))
  where
    by : (b : Bool) → nat_eq first.host_number host ≡ b → (k : ℕ)
        → slice_get (map route_of (cond (nat_eq first.host_number host) (first ∷ filter (λ (link : MemoryConnection). nat_eq link.host_number host) links) (filter (λ link. nat_eq link.host_number host) links))) k ≡ Some route
        → ((j : ℕ) → slice_get (routes_among host links) j ≡ Some route → HasLinkAt host (first ∷ links) route) → HasLinkAt host (first ∷ links) route
    by true e zero at rest = record { place = 0; link = first; is = refl; of_host = (Decides-eqb first.host_number host).0 e; same = same_Some (route_of first) route (rw e at at) }
    by true e (suc k) at rest = rest k (rw e at at)
    by false e k at rest = rest k (rw e at at)

-- ---- hosts

abbrev pub is_host : Finished → Bool
is_host (Host port) = true
is_host _ = false

abbrev pub range_at : Finished → ℕ
range_at (Host port) = range_of port
range_at _ = 0

host_below : (system : SystemTable) (ends : List EndId) (k : ℕ) (port : HostPort) → known_in system ends k ≡ Host port → k < length ends
host_below system [] k port is = absurd (let no : false ≡ true = ap is_host is in cc)
host_below system (end ∷ ends) zero port is = omega arith
host_below system (end ∷ ends) (suc k) port is = let below = host_below system ends k port is in omega (arith, below)

module _ (plan : PlanTable) (is_plan : IsPlan plan) (numbered : (k : ℕ) (link : MemoryConnection) → slice_get (memory_connections plan.system) k ≡ Some link → IsMemoryConnection plan.system link) where
  -- by rule A3 a link ends within the range of its host
  link_ends : (k : ℕ) (link : MemoryConnection) → slice_get (memory_connections plan.system) k ≡ Some link → (link.base + footprint_bytes link.host link.agent ≤ range_of link.host) × (1 ≤ footprint_bytes link.host link.agent)
  link_ends k link at =
      let l = numbered k link at in
      let c = l.connection in
      let f : Footprint = record { host = c.start; range = range_of link.host; base = c.base; bytes = footprint_bytes link.host link.agent; reads = link.agent.reads; writes = link.agent.writes } in
      let starts : known_at plan.system c.start ≡ Host link.host = known_is plan.system c.start (Host link.host) l.host in
      let ends : known_at plan.system c.end ≡ Agent link.agent = known_is plan.system c.end (Agent link.agent) l.agent in
      let taken : footprint_of plan.system c ≡ Some f = ap (λ a. footprint_as c a (known_at plan.system c.end)) starts ∙ ap (footprint_as c (Host link.host)) ends in
      let there : slice_get (footprints plan.system) link.connection ≡ Some (Some f) = mapped (footprint_of plan.system) plan.system.connections link.connection c l.connection_is ∙ ap Some taken in
      let here : slice_index_or (footprints plan.system) link.connection None ≡ Some f = index_is (footprints plan.system) link.connection (Some f) None there in
      let within : ends_past_range f ≡ false = subst (λ o. breaks_after (take link.connection (footprints plan.system)) o 3 ≡ false) here (is_plan.maps.kept link.connection 3) in
      let inside : f.base + f.bytes ≤ f.range = ltb-false f.range (f.base + f.bytes) within in
      let some : 1 ≤ f.bytes = (is_plan.maps.placed.fit link.connection f there).some in
      let base = l.base in
      (omega (arith, inside, base), some)

  link_within : (k : ℕ) (link : MemoryConnection) → slice_get (memory_connections plan.system) k ≡ Some link → link.base < range_of link.host
  link_within k link at = let ends = link_ends k link at in omega (arith, ends.0, ends.1)

  -- and so does its agent's span
  pub spans_end : (k : ℕ) (link : MemoryConnection) → slice_get (memory_connections plan.system) k ≡ Some link → span_of link.agent ≤ range_of link.host
  spans_end k link at = let ends = link_ends k link at in omega (arith, ends.0)

  module _ (host : ℕ) (port : HostPort) (is : IsHostOf plan host port) (width : ℕ) (reach : 2 ^ width ≡ range_of port) where
    route_within : (k : ℕ) (route : Route) → slice_get (routes_of plan.system host) k ≡ Some route → route.base < 2 ^ width
    route_within k route at =
        let h = link_of host (memory_connections plan.system) k route at in
        let inside = link_within h.place h.link h.is in
        let range : range_of h.link.host ≡ range_of port = ap range_at (sym (ends_of plan numbered h.place h.link h.is).host ∙ ap (known_in plan.system (hosts_of plan.system)) h.of_host ∙ is) in
        let base : h.link.base ≡ route.base = ap (λ (r : Route). r.base) h.same in
        omega (arith, inside, range, base, reach)

    pub below : host < length (hosts_of plan.system)
    below = host_below plan.system (hosts_of plan.system) host port is

    module _ (memory_plan : IsMemoryPlan (memory_system plan)) (are : AreRoutes (memory_system plan) host (routes_of plan.system host)) where
      entry_is : (k : ℕ) (route : Route) → slice_get (routes_of plan.system host) k ≡ Some route → IsEntry width route
      entry_is k route at = let r = are.each k route at in record { footprints = r.whole.0; base = r.whole.1; within = route_within k route at }

      word_is : ((memory_system plan).host host).word_bytes ≡ port.word_bytes
      word_is = ap (λ known. (side_of_host known).word_bytes) is

      word_power : (bytes : ℕ) → ((memory_system plan).host host).word_bytes ≡ bytes → IsPowerOfTwo bytes
      word_power bytes same = subst IsPowerOfTwo same (memory_plan.hosts host below).word

      pub are_mapped : RoutesAreMapped plan host port width
      are_mapped = record {
        entries = all_entries width (routes_of plan.system host) entry_is;
        maps = λ shape counts.
            (let same = word_is ∙ sym counts.words in
            record {
              bytes = counts.units;
              words = words_held (memory_system plan) host (routes_of plan.system host) are shape.word_bytes (word_power shape.word_bytes same) same;
              held = λ kind address within. places_held (memory_system plan) host (routes_of plan.system host) are kind address;
              others = λ kind address agent within. agents_have (memory_system plan) host (routes_of plan.system host) are kind address agent;
            });
      }

  -- and a word of its host
  pub word_ends : (k : ℕ) (link : MemoryConnection) → slice_get (memory_connections plan.system) k ≡ Some link → link.host.word_bytes ≤ range_of link.host
  word_ends k link at = let ends = link_ends k link at in omega (arith, ends.0)

-- The routes of a host are its map.
use Rattle.std.proofs.Common.{◌≡◌, ◌⊎◌, inl, inr, ℕ, ◌+◌, ◌*◌, ◌^◌, ◌<◌, ◌≤◌, zero, suc, Bool, true, false, ◌&&◌, cond, max, nat_eq, nat_le, nat_lt, List, [], ◌∷◌, Option, Some, None, map, filter, length, refl, sym, ap, subst, ◌∙◌, arith, IsTrue}
use Rattle.std.specs.Prelude.{find, slice_get, slice_index_or, take}
use Rattle.std.specs.List.{list_any}
use Rattle.std.specs.Option.{option_map}
use Rattle.std.proofs.lemmas.Bool.{cases_lt, ltb-true, ltb-false}
use Rattle.std.proofs.lemmas.Bool.Decides.{nat_tests, Decides-eqb}
use Rattle.std.proofs.lemmas.Nat.{pow-add}
use Rattle.std.proofs.Math.Pow.{pow_mono, pow-lt}
use Rattle.std.proofs.lemmas.Option.{same_Some, none-some}
use Rattle.iface_roles.specs.declared.records.AgentPort.{AgentPort}
use Rattle.iface_roles.specs.declared.records.HostPort.{HostPort}
use Rattle.iface_roles.specs.declared.records.Finished.TheVariants.{Host, Agent}
use Rattle.iface_roles.specs.Proper.{IsProper, IsWordSize, IsBoundedHost, IsBoundedAgent, span_of}
use Rattle.system_tables.specs.declared.tables.Connection.{Connection}
use Rattle.system_tables.specs.declared.tables.EndId.{EndId}
use Rattle.address_map.specs.declared.footprint.Footprint.{Footprint}
use Rattle.address_map.specs.Ends.{is_same_end}
use Rattle.address_map.specs.Footprints.{footprints, footprint_bytes}
use Rattle.address_map.specs.MapRules.{breaks_after, overlaps, overlaps_at, overlaps_earlier, ends_past_range}
use Rattle.address_map.specs.Maps.{hosts_of}
use Rattle.link_rules.specs.declared.plan_connections.MemoryConnection.{MemoryConnection}
use Rattle.link_rules.specs.PlanConnections.{memory_connection, memory_connections, IsMemoryConnection}
use Rattle.link_rules.specs.Plans.{PlanTable, IsPlan}
use Rattle.memory_runs.specs.Views.{System, Kind, HostSide, AgentSide}
use Rattle.memory_runs.specs.Views.Kind.{Reads, Writes}
use Rattle.memory_runs.specs.Order.{is_joined}
use Rattle.memory_runs.specs.Plan.{IsInFootprint, IsMemoryPlan, footprint, serves_kind}
use Rattle.memory_plans.specs.Systems.{HasLink, memory_system}
use Rattle.memory_plans.specs.Routes.{Route, word_bits, span_bits, footprint_bits, route_of, routes_of, holds, takes, routed, AreApart, IsRoute, HasRoute, AreRoutes}
use Rattle.memory_plans.proofs.ListLemmas.{At, found_at, later, index_is, listed_from, numbers_rise}
use Rattle.memory_plans.proofs.LinkLemmas.{footprint_between, each_is, says_number}

-- ---- bits of footprints

word_is : (exponent : ℕ) → exponent ≤ 4 → word_bits (2 ^ exponent) ≡ exponent
word_is zero small = refl
word_is (suc zero) small = refl
word_is (suc (suc zero)) small = refl
word_is (suc (suc (suc zero))) small = refl
word_is (suc (suc (suc (suc zero)))) small = refl
word_is (suc (suc (suc (suc (suc e))))) small = absurd (omega arith)

word_power : (bytes : ℕ) → IsWordSize bytes → bytes ≡ 2 ^ word_bits bytes
word_power bytes size = size.power ∙ ap (λ n. 2 ^ n) (sym (ap word_bits size.power ∙ word_is size.exponent size.small))

max_power : (a b : ℕ) → max (2 ^ a) (2 ^ b) ≡ 2 ^ max a b
max_power a b = by (cases_lt a b)
  where
    by : (a < b) ⊎ (b ≤ a) → max (2 ^ a) (2 ^ b) ≡ 2 ^ max a b
    by (inl less) =
        let low : a ≤ b = omega arith in
        let order : 2 ^ a ≤ 2 ^ b = pow_mono low in
        let same : max a b ≡ b = omega arith in
        let greater : max (2 ^ a) (2 ^ b) ≡ 2 ^ b = omega arith in
        greater ∙ ap (λ n. 2 ^ n) (sym same)
    by (inr more) =
        let order : 2 ^ b ≤ 2 ^ a = pow_mono more in
        let same : max a b ≡ a = omega arith in
        let greater : max (2 ^ a) (2 ^ b) ≡ 2 ^ a = omega arith in
        greater ∙ ap (λ n. 2 ^ n) (sym same)

span_as : (units : Bool) (bits word : ℕ) → word ≡ 2 ^ word_bits word → cond units (max (2 ^ bits) word) (2 ^ bits * word) ≡ 2 ^ cond units (max bits (word_bits word)) (bits + word_bits word)
span_as true bits word power = ap (max (2 ^ bits)) power ∙ max_power bits (word_bits word)
span_as false bits word power = ap (λ n. 2 ^ bits * n) power ∙ sym (pow-add 2 bits (word_bits word))

footprint_power : (host : HostPort) (agent : AgentPort) → IsBoundedHost host → IsBoundedAgent agent → footprint_bytes host agent ≡ 2 ^ footprint_bits host agent
footprint_power host agent bounded_host bounded_agent =
    ap (λ n. max n host.word_bytes) (span_as agent.byte_units agent.address_bits agent.word_bytes (word_power agent.word_bytes bounded_agent.ports.word))
    ∙ ap (max (2 ^ span_bits agent)) (word_power host.word_bytes bounded_host.ports.word)
    ∙ max_power (span_bits agent) (word_bits host.word_bytes)

few_bits : (bits : ℕ) → 2 ^ bits ≤ 2 ^ 32 → bits ≤ 32
few_bits bits low = by (cases_lt 32 bits)
  where
    by : (32 < bits) ⊎ (bits ≤ 32) → bits ≤ 32
    by (inl more) = absurd (let above : 2 ^ 32 < 2 ^ bits = pow-lt more in omega (arith, low, above))
    by (inr few) = few

-- ---- lists

-- where an item of a list of those that pass comes from
record Kept {X Y : Type 0} (p : X → Bool) (f : X → Y) (xs : List X) (y : Y) : Type 0 where
  pub item : X
  pub there : At xs item
  pub passes : p item ≡ true
  pub is : f item ≡ y

abbrev kept_later : {X Y : Type 0} (p : X → Bool) (f : X → Y) (z : X) (xs : List X) (y : Y) → Kept p f xs y → Kept p f (z ∷ xs) y
kept_later p f z xs y k = record { item = k.item; there = later z xs k.item k.there; passes = k.passes; is = k.is }

kept : {X Y : Type 0} (p : X → Bool) (f : X → Y) (xs : List X) (k : ℕ) (y : Y) → slice_get (map f (filter p xs)) k ≡ Some y → Kept p f xs y
kept p f [] k y at = absurd (none-some y at)
kept {X} {Y} p f (z ∷ xs) k y at = by (p z) refl k at (λ j there. kept_later p f z xs y (kept p f xs j y there))
  where
    by : (b : Bool) → p z ≡ b → (k : ℕ) → slice_get (map f (cond (p z) (z ∷ filter p xs) (filter p xs))) k ≡ Some y → ((j : ℕ) → slice_get (map f (filter p xs)) j ≡ Some y → Kept p f (z ∷ xs) y) → Kept p f (z ∷ xs) y
    by true e zero at rest = record { item = z; there = record { place = 0; is = refl }; passes = e; is = same_Some (f z) y (rw e at at) }
    by true e (suc k) at rest = rest k (rw e at at)
    by false e k at rest = rest k (rw e at at)

-- and where two come from
record KeptTwo {X Y : Type 0} (p : X → Bool) (f : X → Y) (xs : List X) (a b : Y) : Type 0 where
  pub first : Kept p f xs a
  pub second : Kept p f xs b
  pub order : first.there.place < second.there.place

kept_two : {X Y : Type 0} (p : X → Bool) (f : X → Y) (xs : List X) (j k : ℕ) (a b : Y) → j < k → slice_get (map f (filter p xs)) j ≡ Some a → slice_get (map f (filter p xs)) k ≡ Some b → KeptTwo p f xs a b
kept_two p f [] j k a b less at_j at_k = absurd (none-some a at_j)
kept_two {X} {Y} p f (z ∷ xs) j k a b less at_j at_k = by (p z) refl j k less at_j at_k (λ i l. kept_two p f xs i l a b) (λ l. kept p f xs l b)
  where
    both_later : KeptTwo p f xs a b → KeptTwo p f (z ∷ xs) a b
    both_later two = record { first = kept_later p f z xs a two.first; second = kept_later p f z xs b two.second; order = (let order = two.order in omega (arith, order)) }

    by : (t : Bool) → p z ≡ t → (j k : ℕ) → j < k → slice_get (map f (cond (p z) (z ∷ filter p xs) (filter p xs))) j ≡ Some a → slice_get (map f (cond (p z) (z ∷ filter p xs) (filter p xs))) k ≡ Some b
        → ((i l : ℕ) → i < l → slice_get (map f (filter p xs)) i ≡ Some a → slice_get (map f (filter p xs)) l ≡ Some b → KeptTwo p f xs a b)
        → ((l : ℕ) → slice_get (map f (filter p xs)) l ≡ Some b → Kept p f xs b) → KeptTwo p f (z ∷ xs) a b
    by true e zero zero less at_j at_k rest one = absurd (omega arith)
    by true e zero (suc k) less at_j at_k rest one = record {
      first = record { item = z; there = record { place = 0; is = refl }; passes = e; is = same_Some (f z) a (rw e at at_j) };
      second = kept_later p f z xs b (one k (rw e at at_k));
      order = omega arith;
    }
    by true e (suc j) zero less at_j at_k rest one = absurd (omega arith)
    by true e (suc j) (suc k) less at_j at_k rest one = both_later (rest j k (omega arith) (rw e at at_j) (rw e at at_k))
    by false e j k less at_j at_k rest one = both_later (rest j k less (rw e at at_j) (rw e at at_k))

-- what passes is kept
kept_there : {X Y : Type 0} (p : X → Bool) (f : X → Y) (xs : List X) (k : ℕ) (x : X) → slice_get xs k ≡ Some x → p x ≡ true → At (map f (filter p xs)) (f x)
kept_there p f [] k x at passes = absurd (none-some x at)
kept_there p f (z ∷ xs) zero x at passes =
    let same : z ≡ x = same_Some z x at in
    let here : p z ≡ true = ap p same ∙ passes in
    rw here (record { place = 0; is = ap (λ y. Some (f y)) same })
kept_there {X} {Y} p f (z ∷ xs) (suc k) x at passes = by (p z) refl (kept_there p f xs k x at passes)
  where
    by : (b : Bool) → p z ≡ b → At (map f (filter p xs)) (f x) → At (map f (cond (p z) (z ∷ filter p xs) (filter p xs))) (f x)
    by true e rest = rw e (later (f z) (map f (filter p xs)) (f x) rest)
    by false e rest = rw e rest

-- where none of a list passes, each fails
fails_at : {X : Type 0} (p : X → Bool) (xs : List X) (k : ℕ) (x : X) → list_any p xs ≡ false → slice_get xs k ≡ Some x → p x ≡ false
fails_at p [] k x none at = absurd (none-some x at)
fails_at {X} p (z ∷ xs) k x none at = by (p z) refl k at (λ j later_none there. fails_at p xs j x later_none there)
  where
    by : (b : Bool) → p z ≡ b → (k : ℕ) → slice_get (z ∷ xs) k ≡ Some x → ((j : ℕ) → list_any p xs ≡ false → slice_get xs j ≡ Some x → p x ≡ false) → p x ≡ false
    by true e k at rest = absurd (let no : true ≡ false = rw e at none in cc)
    by false e zero at rest = ap p (sym (same_Some z x at)) ∙ e
    by false e (suc k) at rest = rest k (rw e at none) at

taken_at : {X : Type 0} (xs : List X) (n k : ℕ) (x : X) → k < n → slice_get xs k ≡ Some x → slice_get (take n xs) k ≡ Some x
taken_at [] n k x below at = absurd (none-some x at)
taken_at (z ∷ xs) zero k x below at = absurd (omega arith)
taken_at (z ∷ xs) (suc n) zero x below at = at
taken_at (z ∷ xs) (suc n) (suc k) x below at = taken_at xs n k x (omega arith) at

-- ---- footprints that don't meet

both_hold : (a b : Bool) → (a && b) ≡ true → (a ≡ true) × (b ≡ true)
both_hold true b h = (refl, h)
both_hold false b h = absurd (let no : false ≡ true = h in cc)

is_same_end-refl : (a : EndId) → is_same_end a a ≡ true
is_same_end-refl a =
    let i : nat_eq a.instance a.instance ≡ true = (Decides-eqb a.instance a.instance).1 refl in
    let f : nat_eq a.interface a.interface ≡ true = (Decides-eqb a.interface a.interface).1 refl in
    rw (i, f) refl

-- two footprints of one host that don't overlap
no_overlap : (f g : Footprint) → g.host ≡ f.host → overlaps f g ≡ false → (g.base + g.bytes ≤ f.base) ⊎ (f.base + f.bytes ≤ g.base)
no_overlap f g host none = by (nat_lt f.base (g.base + g.bytes)) (nat_lt g.base (f.base + f.bytes)) refl refl
  where
    own : is_same_end g.host f.host ≡ true
    own = subst (λ (e : EndId). is_same_end g.host e ≡ true) host (is_same_end-refl g.host)

    by : (s t : Bool) → nat_lt f.base (g.base + g.bytes) ≡ s → nat_lt g.base (f.base + f.bytes) ≡ t → (g.base + g.bytes ≤ f.base) ⊎ (f.base + f.bytes ≤ g.base)
    by false t es et = inl (ltb-false f.base (g.base + g.bytes) es)
    by true false es et = inr (ltb-false g.base (f.base + f.bytes) et)
    by true true es et = absurd (let no : true ≡ false = rw (own, es, et) at none in cc)

module _ (plan : PlanTable) (is_plan : IsPlan plan) (numbered : (k : ℕ) (link : MemoryConnection) → slice_get (memory_connections plan.system) k ≡ Some link → IsMemoryConnection plan.system link)
    (has : (k : ℕ) (link : MemoryConnection) → slice_get (memory_connections plan.system) k ≡ Some link → HasLink (memory_system plan) link)
    (kept_plan : IsMemoryPlan (memory_system plan)) (bounded_host : (host : HostPort) → IsProper (Host host) → IsBoundedHost host) (bounded_agent : (agent : AgentPort) → IsProper (Agent agent) → IsBoundedAgent agent)
    (host : ℕ) (below : host < length (hosts_of plan.system)) where
  abbrev pub system : System
  system = memory_system plan

  abbrev pub of_host : MemoryConnection → Bool
  of_host link = nat_eq link.host_number host

  -- ---- one route

  is_route : (link : MemoryConnection) → At (memory_connections plan.system) link → link.host_number ≡ host → IsRoute system host (route_of link)
  is_route link there host_is =
      let h = has there.place link there.is in
      let l = numbered there.place link there.is in
      let from = each_is plan.system link there in
      let a = link.agent_number in
      let joined : IsTrue (is_joined system a host) = subst (λ n. IsTrue (is_joined system a n)) host_is h.joined in
      let bounded = bounded_host link.host l.host_proper in
      let power = footprint_power link.host link.agent bounded (bounded_agent link.agent l.agent_proper) in
      let host_side_is : system.host host ≡ _ = ap system.host (sym host_is) ∙ h.host in
      let bytes : footprint (system.agent a).span (system.host host).word_bytes ≡ footprint_bytes link.host link.agent =
      ap (λ (side : AgentSide). footprint side.span (system.host host).word_bytes) h.agent ∙ ap (λ (side : HostSide). footprint (span_of link.agent) side.word_bytes) host_side_is in
      let base : link.base ≡ system.base host a = sym h.base ∙ ap (λ n. system.base n a) host_is in
      let times = kept_plan.base host a joined in
      let f = footprint_between from.connection link.host link.agent in
      let at : slice_index_or (footprints plan.system) link.connection None ≡ Some f = index_is (footprints plan.system) link.connection (Some f) None from.footprint_is in
      let within : ends_past_range f ≡ false = subst (λ o. breaks_after (take link.connection (footprints plan.system)) o 3 ≡ false) at (is_plan.maps.kept link.connection 3) in
      let inside : f.base + f.bytes ≤ f.range = ltb-false f.range (f.base + f.bytes) within in
      let range = bounded.range in
      let base_is = from.base_is in
      let end : link.base + 2 ^ footprint_bits link.host link.agent ≤ 2 ^ 32 = omega (arith, inside, range, base_is, power) in
      record {
        joined = joined;
        base = base;
        bytes = sym power ∙ sym bytes;
        few_bits = few_bits (footprint_bits link.host link.agent) (omega (arith, end));
        whole = (times.0, base ∙ times.1 ∙ ap (λ n. times.0 * n) (bytes ∙ power));
        within = end;
        reads = sym (ap (λ (side : AgentSide). side.has_read) h.agent);
        writes = sym (ap (λ (side : AgentSide). side.has_write) h.agent);
      }

  -- ---- two routes

  apart_links : (x y : MemoryConnection) (at_x : At (memory_connections plan.system) x) (at_y : At (memory_connections plan.system) y) → at_x.place < at_y.place → x.host_number ≡ host → y.host_number ≡ host → AreApart (route_of x) (route_of y)
  apart_links x y at_x at_y order host_x host_y =
      let lx = numbered at_x.place x at_x.is in
      let ly = numbered at_y.place y at_y.is in
      let fx = each_is plan.system x at_x in
      let fy = each_is plan.system y at_y in
      let f = footprint_between fy.connection y.host y.agent in
      let g = footprint_between fx.connection x.host x.agent in
      let rise : x.connection < y.connection = numbers_rise (memory_connection plan.system) (λ (link : MemoryConnection). link.connection) (says_number plan.system) 0 plan.system.connections at_x.place at_y.place x y order at_x.is at_y.is in
      let same_x : lx.connection ≡ fx.connection = same_Some lx.connection fx.connection (sym lx.connection_is ∙ fx.is) in
      let same_y : ly.connection ≡ fy.connection = same_Some ly.connection fy.connection (sym ly.connection_is ∙ fy.is) in
      let starts : lx.connection.start ≡ ly.connection.start = same_Some lx.connection.start ly.connection.start (sym lx.host_is ∙ ap (slice_get (hosts_of plan.system)) (host_x ∙ sym host_y) ∙ ly.host_is) in
      let hosts : g.host ≡ f.host = sym (ap (λ (c : Connection). c.start) same_x) ∙ starts ∙ ap (λ (c : Connection). c.start) same_y in
      let at : slice_index_or (footprints plan.system) y.connection None ≡ Some f = index_is (footprints plan.system) y.connection (Some f) None fy.footprint_is in
      let none : overlaps_earlier (take y.connection (footprints plan.system)) f ≡ false = subst (λ o. breaks_after (take y.connection (footprints plan.system)) o 2 ≡ false) at (is_plan.maps.kept y.connection 2) in
      let earlier : overlaps f g ≡ false =
      fails_at (overlaps_at f) (take y.connection (footprints plan.system)) x.connection (Some g) none (taken_at (footprints plan.system) y.connection x.connection (Some g) rise fx.footprint_is) in
      let power_x = footprint_power x.host x.agent (bounded_host x.host lx.host_proper) (bounded_agent x.agent lx.agent_proper) in
      let power_y = footprint_power y.host y.agent (bounded_host y.host ly.host_proper) (bounded_agent y.agent ly.agent_proper) in
      either fx.connection fy.connection fx.base_is fy.base_is power_x power_y (no_overlap f g hosts earlier)
    where
      either : (cx cy : Connection) → x.base ≡ cx.base → y.base ≡ cy.base → footprint_bytes x.host x.agent ≡ 2 ^ footprint_bits x.host x.agent → footprint_bytes y.host y.agent ≡ 2 ^ footprint_bits y.host y.agent
          → (cx.base + footprint_bytes x.host x.agent ≤ cy.base) ⊎ (cy.base + footprint_bytes y.host y.agent ≤ cx.base) → AreApart (route_of x) (route_of y)
      either cx cy bx by px py (inl low) = inl (omega (arith, bx, by, px, low))
      either cx cy bx by px py (inr low) = inr (omega (arith, bx, by, py, low))

  -- ---- all routes

  abbrev pub routes : List Route
  routes = routes_of plan.system host

  each : (k : ℕ) (route : Route) → slice_get routes k ≡ Some route → IsRoute system host route
  each k route at =
      let from = kept of_host route_of (memory_connections plan.system) k route at in
      subst (IsRoute system host) from.is (is_route from.item from.there ((Decides-eqb from.item.host_number host).0 from.passes))

  apart : (j k : ℕ) (a b : Route) → j < k → slice_get routes j ≡ Some a → slice_get routes k ≡ Some b → AreApart a b
  apart j k a b less at_j at_k =
      let two = kept_two of_host route_of (memory_connections plan.system) j k a b less at_j at_k in
      let x = two.first in
      let y = two.second in
      subst (λ (r : Route). AreApart r b) x.is (subst (λ (r : Route). AreApart (route_of x.item) r) y.is
      (apart_links x.item y.item x.there y.there two.order ((Decides-eqb x.item.host_number host).0 x.passes) ((Decides-eqb y.item.host_number host).0 y.passes)))

  agents : (agent : ℕ) → IsTrue (is_joined system agent host) → HasRoute routes agent
  agents agent joined =
      let l = listed_from (λ (link : MemoryConnection). nat_eq link.agent_number agent) (λ link. link.host_number) (memory_connections plan.system) host joined in
      let there = kept_there of_host route_of (memory_connections plan.system) l.there.place l.item l.there.is ((Decides-eqb l.item.host_number host).1 l.is) in
      record { number = there.place; route = route_of l.item; is = there.is; leads = (Decides-eqb l.item.agent_number agent).0 l.passes }

  takes_both : (kind : Kind) (route : Route) → IsRoute system host route → takes kind route ≡ serves_kind (system.agent route.agent) kind
  takes_both Reads route is = is.reads
  takes_both Writes route is = is.writes

  holds-bounds : (address : ℕ) (route : Route) → holds address route ≡ true → (route.base ≤ address) × (address < route.base + 2 ^ route.bits)
  holds-bounds address route h =
      let both = both_hold (nat_le route.base address) (nat_lt address (route.base + 2 ^ route.bits)) h in
      let low = both.0 in
      ((let e : route.base ≤ address = grind (arith, nat_tests, low) in e), ltb-true address (route.base + 2 ^ route.bits) both.1)

  bounds-hold : (address : ℕ) (route : Route) → route.base ≤ address → address < route.base + 2 ^ route.bits → holds address route ≡ true
  bounds-hold address route low high = grind (arith, nat_tests)

  joined_below : (agent : ℕ) → HasRoute routes agent → agent < system.agents
  joined_below agent leads =
      let from = kept of_host route_of (memory_connections plan.system) leads.number leads.route leads.is in
      let h = has from.there.place from.item from.there.is in
      subst (λ n. n < system.agents) (ap (λ (r : Route). r.agent) from.is ∙ leads.leads) h.agent_below

  module _ (kind : Kind) (address : ℕ) where
    abbrev pub test : Route → Bool
    test route = holds address route && takes kind route

    goes_there : (k : ℕ) (route : Route) → slice_get routes k ≡ Some route → test route ≡ true → system.place host kind address ≡ Some route.agent
    goes_there k route at passes =
        let is = each k route at in
        let both = both_hold (holds address route) (takes kind route) passes in
        let bounds = holds-bounds address route both.0 in
        let low = bounds.0 in
        let high = bounds.1 in
        let base = is.base in
        let bytes = is.bytes in
        (kept_plan.place host route.agent address kind below).1 (
          joined_below route.agent (record { number = k; route = route; is = at; leads = refl }),
          record { joined = is.joined; from_base = omega (arith, low, base); below_end = omega (arith, high, base, bytes) },
          sym (takes_both kind route is) ∙ both.1,
        )

    passes_it : (agent : ℕ) (r : HasRoute routes agent) → IsInFootprint system host agent address → IsTrue (serves_kind (system.agent agent) kind) → test r.route ≡ true
    passes_it agent r inside serves =
        let is = each r.number r.route r.is in
        let low = inside.from_base in
        let high = inside.below_end in
        let base : r.route.base ≡ system.base host agent = is.base ∙ ap (system.base host) r.leads in
        let bytes : 2 ^ r.route.bits ≡ footprint (system.agent agent).span (system.host host).word_bytes = is.bytes ∙ ap (λ a. footprint (system.agent a).span (system.host host).word_bytes) r.leads in
        let holds_it : holds address r.route ≡ true = bounds-hold address r.route (omega (arith, low, base)) (omega (arith, high, base, bytes)) in
        let takes_it : takes kind r.route ≡ true = takes_both kind r.route is ∙ ap (λ a. serves_kind (system.agent a) kind) r.leads ∙ serves in
        rw (holds_it, takes_it) refl

    comes_from : (agent : ℕ) → system.place host kind address ≡ Some agent → (route : Route) × (find test routes ≡ Some route) × (route.agent ≡ agent)
    comes_from agent goes =
        let served = (kept_plan.place host agent address kind below).0 goes in
        let r = agents agent served.1.joined in
        let found = found_at test routes r.number r.route r.is (passes_it agent r served.1 served.2) in
        let there = goes_there found.2.there.place found.0 found.2.there.is found.2.passes in
        (found.0, found.1, same_Some found.0.agent agent (sym there ∙ goes))

    place : system.place host kind address ≡ routed routes kind address
    place = by (system.place host kind address) refl (find test routes) refl
      where
        found_passes : {r : Route} (rs : List Route) → find test rs ≡ Some r → (k : ℕ) × (slice_get rs k ≡ Some r) × (test r ≡ true)
        found_passes {r} [] found = absurd (none-some r found)
        found_passes {r} (x ∷ rs) found = split (test x) refl (λ f. found_passes rs f)
          where
            split : (b : Bool) → test x ≡ b → (find test rs ≡ Some r → (k : ℕ) × (slice_get rs k ≡ Some r) × (test r ≡ true)) → (k : ℕ) × (slice_get (x ∷ rs) k ≡ Some r) × (test r ≡ true)
            split true e rest = let same : x ≡ r = same_Some x r (rw e at found) in (0, ap Some same, ap test (sym same) ∙ e)
            split false e rest = let more = rest (rw e at found) in (suc more.0, more.1, more.2)

        not_none : (r : Route) → (k : ℕ) × (slice_get routes k ≡ Some r) × (test r ≡ true) → system.place host kind address ≡ None → ⊥
        not_none r f goes = none-some r.agent (sym goes ∙ goes_there f.0 r f.1 f.2)

        by : (o : Option ℕ) → system.place host kind address ≡ o → (r : Option Route) → find test routes ≡ r → system.place host kind address ≡ routed routes kind address
        by (Some agent) goes r found = let c = comes_from agent goes in goes ∙ ap Some (sym c.2) ∙ sym (ap (option_map (λ (route : Route). route.agent)) c.1)
        by None goes None found = goes ∙ sym (ap (option_map (λ (route : Route). route.agent)) found)
        by None goes (Some r) found = absurd (not_none r (found_passes routes found) goes)

  pub are_routes : AreRoutes system host routes
  are_routes = record { each = each; apart = apart; agents = agents; place = place }

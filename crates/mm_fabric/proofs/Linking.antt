-- The links of a plan, from the laws of plans.
use Rattle.std.proofs.Common.{◌≡◌, ◌⊎◌, inl, inr, ℕ, suc, true, ◌^◌, ◌<◌, ◌≤◌, nat_eq, List, [], ◌∷◌, length, map, filter, slice_get, Some, IsTrue, refl, sym, ap, subst, ◌∙◌, arith}
use Rattle.std.specs.List.{IsDistinct}
use Rattle.std.proofs.lemmas.Bool.{eqb-true, cases_lt}
use Rattle.std.proofs.lemmas.Bool.Decides.{Decides-eqb}
use Rattle.std.proofs.lemmas.Option.{same_Some, slice_get_within}
use Rattle.std.proofs.lemmas.List.{length-map}
use Rattle.std.proofs.lemmas.Map.Steps.{length-le_from_distinct_below}
use Rattle.std.proofs.lemmas.Nat.{pow_pos}
use Rattle.iface_roles.specs.declared.kinds.Kind.{Kind}
use Rattle.iface_roles.specs.declared.kinds.Kind.TheVariants.{Clock, Reset, Mm, Stream, Conduit, Interrupt}
use Rattle.iface_roles.specs.declared.kinds.Side.{Side}
use Rattle.iface_roles.specs.declared.kinds.Side.TheVariants.{Start, End}
use Rattle.iface_roles.specs.declared.records.AgentPort.{AgentPort}
use Rattle.iface_roles.specs.declared.records.HostPort.{HostPort}
use Rattle.iface_roles.specs.declared.records.Finished.TheVariants.{Host, Agent}
use Rattle.iface_roles.specs.Proper.{IsWordSize, range_of, span_of}
use Rattle.system_tables.specs.declared.tables.Connection.{Connection}
use Rattle.system_tables.specs.declared.tables.EndId.{EndId}
use Rattle.address_map.specs.Maps.{is_mm, mm_ends, end_at, IsJoined, hosts_of, agents_of}
use Rattle.link_rules.specs.declared.plan_connections.MemoryConnection.{MemoryConnection}
use Rattle.link_rules.specs.PlanConnections.{memory_connections, IsMemoryConnection, HasMemoryConnection}
use Rattle.link_rules.specs.Plans.{PlanTable}
use Rattle.memory_runs.specs.declared.sides.route.Route.{Route}
use Rattle.memory_plans.specs.Routes.{routes_of, AreRoutes}
use Rattle.memory_plans.specs.Systems.{memory_system, HasLink}
use Rattle.memory_runs.specs.Views.{System}
use Rattle.memory_runs.specs.Order.{is_joined}
use Rattle.memory_runs.specs.Plan.{IsMemoryPlan}
use Rattle.memory_machines.specs.Turns.{seats_of}
use Rattle.histories.specs.Turns.{Seat as Turn}
use Rattle.mm_arbiter.specs.declared.asker.Asker.{Asker}
use Rattle.mm_arbiter.specs.Shown.{AreAskers}
use Rattle.mm_arbiter.specs.Backs.{HostsFit}
use Rattle.mm_arbiter.specs.Machine.{seats_from, AreApart}
use Rattle.memory_awake.specs.Fair.{are_apart}
use Rattle.memory_plans.specs.Maps.{IsHostOf, IsAgentOf, HasHost, HasAgent, JoinsEnds}
use Rattle.mm_width.specs.Pairs.{MayMeet}
use Rattle.mm_fabric.specs.Asks.{asking}
use Rattle.mm_fabric.specs.Links.{HasLinkBetween, IsLinkedHost, IsLinkedAgent, IsLinkedPlan}
use Rattle.mm_fabric.proofs.Passing.{passed, kept, mapped, image, there_at, listed, distinct}
use Rattle.mm_fabric.proofs.Seats.{turn_of, seats_apart}

-- what the laws of links, ends and routes say of a plan
pub record PlanLaws (plan : PlanTable) : Type 0 where
  pub numbered : (k : ℕ) (link : MemoryConnection) → slice_get (memory_connections plan.system) k ≡ Some link → IsMemoryConnection plan.system link
  pub each : (number : ℕ) (connection : Connection) → slice_get plan.system.connections number ≡ Some connection → connection.kind ≡ Mm → HasMemoryConnection plan.system number
  pub one : (side : Side) (j k : ℕ) (end : EndId) → slice_get (mm_ends side plan.system) j ≡ Some end → slice_get (mm_ends side plan.system) k ≡ Some end → j ≡ k
  pub joined : (side : Side) (number : ℕ) (end : EndId) → slice_get (mm_ends side plan.system) number ≡ Some end → IsJoined plan.system side end
  pub hosts : (host : ℕ) → host < length (hosts_of plan.system) → HasHost plan host
  pub agents : (agent : ℕ) → agent < length (agents_of plan.system) → HasAgent plan agent
  pub few_agents : length (agents_of plan.system) ≤ 32
  pub ends : (k : ℕ) (link : MemoryConnection) → slice_get (memory_connections plan.system) k ≡ Some link → JoinsEnds plan link
  pub spans : (k : ℕ) (link : MemoryConnection) → slice_get (memory_connections plan.system) k ≡ Some link → span_of link.agent ≤ range_of link.host
  pub words : (k : ℕ) (link : MemoryConnection) → slice_get (memory_connections plan.system) k ≡ Some link → link.host.word_bytes ≤ range_of link.host
  pub lanes : (k : ℕ) (link : MemoryConnection) → slice_get (memory_connections plan.system) k ≡ Some link → link.host.word_bytes < link.agent.word_bytes → link.agent.enables ≡ true
  pub has : (k : ℕ) (link : MemoryConnection) → slice_get (memory_connections plan.system) k ≡ Some link → HasLink (memory_system plan) link
  pub keeps : IsMemoryPlan (memory_system plan)
  pub once : (agent : ℕ) → IsDistinct nat_eq ((memory_system plan).joined agent)
  pub apart : (agent : ℕ) → IsTrue (are_apart ((memory_system plan).joined agent))
  pub routes : (host : ℕ) → host < length (hosts_of plan.system) → AreRoutes (memory_system plan) host (routes_of plan.system host)

mm_kind : (kind : Kind) → is_mm kind ≡ true → kind ≡ Mm
mm_kind Clock e = absurd (cc)
mm_kind Reset e = absurd (cc)
mm_kind Mm e = refl
mm_kind Stream e = absurd (cc)
mm_kind Conduit e = absurd (cc)
mm_kind Interrupt e = absurd (cc)

-- ---- routes

module _ (system : System) (host : ℕ) (routes : List Route) (are : AreRoutes system host routes) where
  -- an earlier route leads to another agent, since no byte is held by both
  leads_apart : (j k : ℕ) (a b : Route) → j < k → slice_get routes j ≡ Some a → slice_get routes k ≡ Some b → a.agent ≡ b.agent → ⊥
  leads_apart j k a b less at_a at_b same =
      let one = are.each j a at_a in
      let other = are.each k b at_b in
      let bases : a.base ≡ b.base = one.base ∙ ap (system.base host) same ∙ sym other.base in
      let some_a : 0 < 2 ^ a.bits = pow_pos a.bits in
      let some_b : 0 < 2 ^ b.bits = pow_pos b.bits in
      elim (are.apart j k a b less at_a at_b) [ inl before ↦ omega (arith, bases, some_a, before) | inr after ↦ omega (arith, bases, some_b, after) ]

  pub one_route : (j k : ℕ) (a b : Route) → slice_get routes j ≡ Some a → slice_get routes k ≡ Some b → a.agent ≡ b.agent → j ≡ k
  one_route j k a b at_a at_b same = by (cases_lt j k) (cases_lt k j)
    where
      by : (j < k) ⊎ (k ≤ j) → (k < j) ⊎ (j ≤ k) → j ≡ k
      by (inl less) s = absurd (leads_apart j k a b less at_a at_b same)
      by (inr most) (inl less) = absurd (leads_apart k j b a less at_b at_a (sym same))
      by (inr most) (inr least) = omega (arith, most, least)

-- ---- askers

abbrev asker_of : MemoryConnection → Asker
asker_of link = record { host = link.host_number; shares = link.shares }

all_share : (askers : List Asker) → ((k : ℕ) (asker : Asker) → slice_get askers k ≡ Some asker → (1 ≤ asker.shares) × (asker.shares ≤ 63)) → AreAskers askers
all_share [] each = tt
all_share (asker ∷ later) each = (each 0 asker refl, all_share later (λ k x at. each (suc k) x at))

all_fit : (askers : List Asker) → ((k : ℕ) (asker : Asker) → slice_get askers k ≡ Some asker → asker.host < 16) → HostsFit 4 askers
all_fit [] each = tt
all_fit (asker ∷ later) each = (each 0 asker refl, all_fit later (λ k x at. each (suc k) x at))

abbrev turn_with : ℕ → ℕ → Turn
turn_with host shares = record { host = host; shares = shares }

-- seats have the shares of their links
seats_alike : (system : System) (agent : ℕ) (links : List MemoryConnection) → ((k : ℕ) (link : MemoryConnection) → slice_get links k ≡ Some link → system.shares link.host_number agent ≡ link.shares)
    → seats_from (map asker_of links) ≡ map (turn_of system agent) (map (λ (link : MemoryConnection). link.host_number) links)
seats_alike system agent [] each = refl
seats_alike system agent (link ∷ later) each =
    let first : record { host = link.host_number; shares = link.shares } ≡ turn_of system agent link.host_number = ap (λ n. turn_with link.host_number n) (sym (each 0 link refl)) in
    ap (λ (t : Turn). t ∷ seats_from (map asker_of later)) first
    ∙ ap (λ (ts : List Turn). turn_of system agent link.host_number ∷ ts) (seats_alike system agent later (λ k x at. each (suc k) x at))

-- ---- ports by their numbers

-- one host has a number, and one agent
pub same_host : (plan : PlanTable) (h : ℕ) (one other : HostPort) → IsHostOf plan h one → IsHostOf plan h other → one ≡ other
same_host plan h one other is also = let both : Host one ≡ Host other = sym is ∙ also in cc

pub same_agent : (plan : PlanTable) (a : ℕ) (one other : AgentPort) → IsAgentOf plan a one → IsAgentOf plan a other → one ≡ other
same_agent plan a one other is also = let both : Agent one ≡ Agent other = sym is ∙ also in cc

module _ (plan : PlanTable) (laws : PlanLaws plan) where
  abbrev of_agent : ℕ → List MemoryConnection
  of_agent agent = filter (λ (link : MemoryConnection). nat_eq link.agent_number agent) (memory_connections plan.system)

  -- ---- the link between a host and an agent

  -- words are of the sizes of the standard, and where the agent's is wider it has byte enables
  may_meet : (k : ℕ) (link : MemoryConnection) → slice_get (memory_connections plan.system) k ≡ Some link → MayMeet link.host link.agent
  may_meet k link at =
      let has = laws.has k link at in
      let ends = laws.ends k link at in
      let host = laws.hosts link.host_number has.host_below in
      let agent = laws.agents link.agent_number has.agent_below in
      record {
        host_word = subst (λ (p : HostPort). IsWordSize p.word_bytes) (same_host plan link.host_number host.port link.host host.is ends.host) host.bounded.ports.word;
        agent_word = subst (λ (p : AgentPort). IsWordSize p.word_bytes) (same_agent plan link.agent_number agent.port link.agent agent.is ends.agent) agent.bounded.ports.word;
        lanes = laws.lanes k link at;
        host_bursts = subst (λ (p : HostPort). p.burst_bits ≤ 11) (same_host plan link.host_number host.port link.host host.is ends.host) host.bounded.ports.burst;
        agent_bursts = subst (λ (p : AgentPort). p.burst_bits ≤ 11) (same_agent plan link.agent_number agent.port link.agent agent.is ends.agent) agent.bounded.ports.burst;
      }

  between : (k : ℕ) (link : MemoryConnection) → slice_get (memory_connections plan.system) k ≡ Some link → HasLinkBetween plan link.host_number link.agent_number
  between k link at =
      let has = laws.has k link at in
      let ends = laws.ends k link at in
      record {
        link = link;
        place = k;
        is = at;
        host_port = ends.host;
        agent_port = ends.agent;
        host_below = has.host_below;
        agent_below = has.agent_below;
        span = laws.spans k link at;
        word = laws.words k link at;
        pair = may_meet k link at;
        route = (laws.routes link.host_number has.host_below).agents link.agent_number has.joined;
        joined = has.joined;
      }

  between_these : (k : ℕ) (link : MemoryConnection) (host agent : ℕ) → slice_get (memory_connections plan.system) k ≡ Some link → link.host_number ≡ host → link.agent_number ≡ agent → HasLinkBetween plan host agent
  between_these k link host agent at of to = subst (λ n. HasLinkBetween plan n agent) of (subst (HasLinkBetween plan link.host_number) to (between k link at))

  pub joint : (host agent : ℕ) → IsTrue (is_joined (memory_system plan) agent host) → HasLinkBetween plan host agent
  joint host agent joined =
      let l = listed (λ (link : MemoryConnection). link.host_number) (of_agent agent) host joined in
      let p = passed (λ (link : MemoryConnection). nat_eq link.agent_number agent) (memory_connections plan.system) l.place l.item l.at in
      between_these p.there.place l.item host agent p.there.is (sym l.is) (eqb-true l.item.agent_number agent p.passes)

  -- ---- each host and each agent has one

  link_there : (side : Side) (number : ℕ) (end : EndId) → slice_get (mm_ends side plan.system) number ≡ Some end
      → (place : ℕ) × (link : MemoryConnection) × (at : slice_get (memory_connections plan.system) place ≡ Some link) × (end_at side (laws.numbered place link at).connection ≡ end)
  link_there side number end is =
      let j = laws.joined side number end is in
      let has = laws.each j.number j.connection j.is (mm_kind j.connection.kind j.kind) in
      let l = laws.numbered has.place has.link has.is in
      let same : l.connection ≡ j.connection = same_Some l.connection j.connection (sym l.connection_is ∙ ap (slice_get plan.system.connections) has.connection ∙ j.is) in
      (has.place, has.link, has.is, ap (end_at side) same ∙ j.there)

  some_routes : (host : ℕ) → host < length (hosts_of plan.system) → 1 ≤ length (routes_of plan.system host)
  some_routes host below =
      let end = there_at (hosts_of plan.system) host below in
      let l = link_there Start host end.0 end.1 in
      let is : l.1.host_number ≡ host = laws.one Start l.1.host_number host end.0 ((laws.numbered l.0 l.1 l.2).host_is ∙ ap Some l.3) end.1 in
      let route = (between_these l.0 l.1 host l.1.agent_number l.2 is refl).route in
      let within = slice_get_within (routes_of plan.system host) route.number route.route route.is in
      omega (arith, within)

  some_askers : (agent : ℕ) → agent < length (agents_of plan.system) → 1 ≤ length (asking plan.system agent)
  some_askers agent below =
      let end = there_at (agents_of plan.system) agent below in
      let l = link_there End agent end.0 end.1 in
      let is : l.1.agent_number ≡ agent = laws.one End l.1.agent_number agent end.0 ((laws.numbered l.0 l.1 l.2).agent_is ∙ ap Some l.3) end.1 in
      let here = kept (λ (link : MemoryConnection). nat_eq link.agent_number agent) (memory_connections plan.system) l.0 l.1 l.2 ((Decides-eqb l.1.agent_number agent).1 is) in
      let within = slice_get_within (asking plan.system agent) here.place (asker_of l.1) (mapped asker_of (of_agent agent) here.place l.1 here.is) in
      omega (arith, within)

  -- ---- hosts

  module _ (host : ℕ) (below : host < length (hosts_of plan.system)) where
    along : (k : ℕ) (route : Route) → slice_get (routes_of plan.system host) k ≡ Some route → HasLinkBetween plan host route.agent
    along k route at = joint host route.agent ((laws.routes host below).each k route at).joined

    few_routes : length (routes_of plan.system host) ≤ 32
    few_routes =
        let routes = routes_of plan.system host in
        let most = length-le_from_distinct_below (map (λ (r : Route). r.agent) routes) (length (agents_of plan.system)) (distinct (λ (r : Route). r.agent) routes (one_route (memory_system plan) host routes (laws.routes host below)))
        (λ q there.
        (let l = listed (λ (r : Route). r.agent) routes q there in
        let inside = (along l.place l.item l.at).agent_below in
        let is = l.is in
        omega (arith, inside, is))) in
        let few = laws.few_agents in
        let many = length-map routes (λ (r : Route). r.agent) in
        omega (arith, most, few, many)

    pub linked_host : IsLinkedHost plan host
    linked_host = record { ports = laws.hosts host below; some = some_routes host below; few = few_routes; links = along }

  -- ---- agents

  -- an asker and its link
  record IsOfLink (agent : ℕ) (asker : Asker) : Type 0 where
    link : MemoryConnection
    place : ℕ
    at : slice_get (memory_connections plan.system) place ≡ Some link
    is : asker_of link ≡ asker
    leads : link.agent_number ≡ agent

  asker_at : (agent k : ℕ) (asker : Asker) → slice_get (asking plan.system agent) k ≡ Some asker → IsOfLink agent asker
  asker_at agent k asker at =
      let from = image asker_of (of_agent agent) k asker at in
      let p = passed (λ (link : MemoryConnection). nat_eq link.agent_number agent) (memory_connections plan.system) k from.item from.is in
      record { link = from.item; place = p.there.place; at = p.there.is; is = from.makes; leads = eqb-true from.item.agent_number agent p.passes }

  asker_link : (agent k : ℕ) (asker : Asker) → slice_get (asking plan.system agent) k ≡ Some asker → HasLinkBetween plan asker.host agent
  asker_link agent k asker at =
      let of = asker_at agent k asker at in
      between_these of.place of.link asker.host agent of.at (ap (λ (a : Asker). a.host) of.is) of.leads

  shares_are : (agent k : ℕ) (link : MemoryConnection) → slice_get (of_agent agent) k ≡ Some link → (memory_system plan).shares link.host_number agent ≡ link.shares
  shares_are agent k link at =
      let p = passed (λ (link : MemoryConnection). nat_eq link.agent_number agent) (memory_connections plan.system) k link at in
      subst (λ a. (memory_system plan).shares link.host_number a ≡ link.shares) (eqb-true link.agent_number agent p.passes) (laws.has p.there.place link p.there.is).shares

  seats_are : (agent : ℕ) → seats_from (asking plan.system agent) ≡ seats_of (memory_system plan) agent
  seats_are agent = seats_alike (memory_system plan) agent (of_agent agent) (shares_are agent)

  few_askers : (agent : ℕ) → length (asking plan.system agent) ≤ 16
  few_askers agent =
      let most = length-le_from_distinct_below ((memory_system plan).joined agent) (memory_system plan).hosts (laws.once agent) (λ q there. laws.keeps.joined agent q there) in
      let few = laws.keeps.few_hosts in
      let one = length-map (of_agent agent) asker_of in
      let other = length-map (of_agent agent) (λ (link : MemoryConnection). link.host_number) in
      omega (arith, most, few, one, other)

  pub linked_agent : (agent : ℕ) → agent < length (agents_of plan.system) → IsLinkedAgent plan agent
  linked_agent agent below = record {
    ports = laws.agents agent below;
    askers = record {
      some = some_askers agent below;
      few = (let few = few_askers agent in omega (arith, few));
      shares = all_share (asking plan.system agent) (λ k asker at.
          (let of = asker_at agent k asker at in
          let l = laws.numbered of.place of.link of.at in
          subst (λ (a : Asker). (1 ≤ a.shares) × (a.shares ≤ 63)) of.is (l.some_share, l.few_shares)));
      hosts = all_fit (asking plan.system agent) (λ k asker at.
          (let inside = (asker_link agent k asker at).host_below in
          let few = laws.keeps.few_hosts in
          omega (arith, inside, few)));
      apart = subst (λ (seats : List Turn). AreApart seats) (sym (seats_are agent)) (seats_apart (memory_system plan) agent (laws.apart agent));
    };
    few = few_askers agent;
    seats = seats_are agent;
    links = asker_link agent;
  }

  pub linked_plan : IsLinkedPlan plan
  linked_plan = record { hosts = linked_host; agents = linked_agent; ends = laws.ends; joints = joint }

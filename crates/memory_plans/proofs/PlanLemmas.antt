-- Every plan keeps what is asked of the system that it stands for.
use Rattle.std.proofs.Common.{◌≡◌, ◌↔◌, ℕ, ◌*◌, ◌/◌, ◌%◌, ◌<◌, ◌≤◌, Bool, true, false, not, ◌&&◌, nat_eq, nat_lt, List, [], Option, Some, None, length, refl, sym, ap, subst, ◌∙◌, arith, IsTrue}
use Rattle.std.specs.Prelude.{slice_get, slice_index_or, take}
use Rattle.std.specs.Bool.{IsFalse}
use Rattle.std.specs.List.{IsDistinct}
use Rattle.std.specs.Option.{option_map, option_map_or}
use Rattle.std.proofs.Math.Nat.{div-add-mod'}
use Rattle.std.proofs.lemmas.Bool.Decides.{nat_tests, Decides-eqb}
use Rattle.std.proofs.lemmas.Option.{slice_get_within, same_Some, none-some}
use Rattle.iface_roles.specs.declared.kinds.Side.{Side}
use Rattle.iface_roles.specs.declared.kinds.Side.TheVariants.{Start}
use Rattle.iface_roles.specs.declared.records.AgentPort.{AgentPort}
use Rattle.iface_roles.specs.declared.records.HostPort.{HostPort}
use Rattle.iface_roles.specs.declared.records.Finished.{Finished}
use Rattle.iface_roles.specs.declared.records.Finished.TheVariants.{Host, Agent, Other}
use Rattle.iface_roles.specs.Proper.{IsProper, IsBoundedHost, IsBoundedAgent, span_of}
use Rattle.system_tables.specs.declared.tables.Connection.{Connection}
use Rattle.system_tables.specs.declared.tables.EndId.{EndId}
use Rattle.system_tables.specs.Tables.{IsEnd}
use Rattle.address_map.specs.declared.footprint.Footprint.{Footprint}
use Rattle.address_map.specs.declared.host_map.MapEntry.{MapEntry}
use Rattle.address_map.specs.Footprints.{known_at, footprints}
use Rattle.address_map.specs.MapRules.{breaks_after, is_misplaced}
use Rattle.address_map.specs.Maps.{Access, place_of, serves, entry_of, IsPlace, hosts_of, agents_of, mm_ends}
use Rattle.link_rules.specs.declared.plan_connections.MemoryConnection.{MemoryConnection}
use Rattle.link_rules.specs.PlanConnections.{memory_connections, IsMemoryConnection, KeepsMmRules, IsHostEnd, IsAgentEnd}
use Rattle.link_rules.specs.Plans.{PlanTable, IsPlan}
use Rattle.memory_runs.specs.Views.{System, HostSide, AgentSide, Kind}
use Rattle.memory_runs.specs.Views.Kind.{Reads, Writes}
use Rattle.memory_runs.specs.Order.{is_joined}
use Rattle.memory_runs.specs.Plan.{IsMemoryPlan, IsInFootprint, IsShape, IsPowerOfTwo, footprint, serves_kind}
use Rattle.memory_runs.specs.Sides.{host_side, agent_side}
use Rattle.memory_plans.specs.Systems.{HasLink, side_of_host, side_of_agent, known_in, link_between, agent_of, access_of, place_in, memory_system}
use Rattle.memory_plans.proofs.ListLemmas.{distinct, At, there_at, index_is, listed, listed_from}
use Rattle.memory_plans.proofs.LinkLemmas.{HasFootprint, one_link, known_is, footprint_between, each_is, agent_of_link, footprint_has_link, found_between}
use Rattle.memory_plans.proofs.SideLemmas.{plain_width, host_shape, agent_shape, some_bound, fixed_is_plain, bursts_wait, span_is}

within_limit : (limit n : ℕ) → nat_lt limit n ≡ false → n ≤ limit
within_limit limit n h = grind (arith, nat_tests)

both_false : (a b : Bool) → (a && not b) ≡ false → a ≡ true → b ≡ true
both_false true true h holds = refl
both_false true false h holds = absurd (let no : true ≡ false = h in cc)
both_false false b h holds = absurd (let no : false ≡ true = holds in cc)

-- a base that isn't misplaced is a multiple of its footprint
whole_bytes : (f : Footprint) → is_misplaced f ≡ false → (times : ℕ) × (f.base ≡ times * f.bytes)
whole_bytes f kept = (f.base / f.bytes, (let none = by (nat_eq (f.base % f.bytes) 0) refl in let whole = div-add-mod' f.base f.bytes in omega (arith, none, whole)))
  where
    by : (b : Bool) → nat_eq (f.base % f.bytes) 0 ≡ b → f.base % f.bytes ≡ 0
    by true is = (Decides-eqb (f.base % f.bytes) 0).0 is
    by false is = absurd (let no : true ≡ false = sym (ap not is) ∙ kept in cc)

-- what is known of the ends, the links and the maps of a plan
pub record PlanLaws (plan : PlanTable) : Type 0 where
  pub numbered : (k : ℕ) (link : MemoryConnection) → slice_get (memory_connections plan.system) k ≡ Some link → IsMemoryConnection plan.system link
  pub keeps : (k : ℕ) (link : MemoryConnection) → slice_get (memory_connections plan.system) k ≡ Some link → KeepsMmRules plan.system link
  pub one_end : (side : Side) (j k : ℕ) (end : EndId) → slice_get (mm_ends side plan.system) j ≡ Some end → slice_get (mm_ends side plan.system) k ≡ Some end → j ≡ k
  pub known_hosts : (number : ℕ) (end : EndId) → slice_get (hosts_of plan.system) number ≡ Some end → IsHostEnd plan.system end
  pub known_agents : (number : ℕ) (end : EndId) → slice_get (agents_of plan.system) number ≡ Some end → IsAgentEnd plan.system end
  pub places : (number : ℕ) (host : EndId) (entries : List MapEntry) → slice_get (hosts_of plan.system) number ≡ Some host → slice_get plan.maps number ≡ Some entries
      → (access : Access) (address connection : ℕ) → (place_of entries access address ≡ Some connection) ↔ IsPlace (footprints plan.system) host access address connection
  pub bounded_host : (host : HostPort) → IsProper (Host host) → IsBoundedHost host
  pub bounded_agent : (agent : AgentPort) → IsProper (Agent agent) → IsBoundedAgent agent

module _ (plan : PlanTable) (is_plan : IsPlan plan) (laws : PlanLaws plan) where
  abbrev pub system : System
  system = memory_system plan

  -- ---- hosts and agents by their numbers

  known_at_number : (ends : List EndId) (k : ℕ) (end : EndId) (known : Finished) → slice_get ends k ≡ Some end → IsEnd plan.system end known → known_in plan.system ends k ≡ known
  known_at_number ends k end known at there = ap (λ o. option_map_or (known_at plan.system) o Other) at ∙ known_is plan.system end known there

  pub record IsHost (h : ℕ) (host : HostPort) : Type 0 where
    pub is : system.host h ≡ host_side host
    pub bounded : IsBoundedHost host

  pub record IsAgent (a : ℕ) (agent : AgentPort) : Type 0 where
    pub is : system.agent a ≡ agent_side agent
    pub bounded : IsBoundedAgent agent

  host_here : (h : ℕ) (end : EndId) (host : HostPort) → slice_get (hosts_of plan.system) h ≡ Some end → IsEnd plan.system end (Host host) → IsProper (Host host) → IsHost h host
  host_here h end host at there proper = record { is = ap side_of_host (known_at_number (hosts_of plan.system) h end (Host host) at there); bounded = laws.bounded_host host proper }

  agent_here : (a : ℕ) (end : EndId) (agent : AgentPort) → slice_get (agents_of plan.system) a ≡ Some end → IsEnd plan.system end (Agent agent) → IsProper (Agent agent) → IsAgent a agent
  agent_here a end agent at there proper = record { is = ap side_of_agent (known_at_number (agents_of plan.system) a end (Agent agent) at there); bounded = laws.bounded_agent agent proper }

  a_host : (h : ℕ) → h < system.hosts → (host : HostPort) × IsHost h host
  a_host h below =
      let at = there_at (hosts_of plan.system) h below in
      let end = laws.known_hosts h at.0 at.1 in
      (end.host, host_here h at.0 end.host at.1 end.is end.proper)

  an_agent : (a : ℕ) → a < system.agents → (agent : AgentPort) × IsAgent a agent
  an_agent a below =
      let at = there_at (agents_of plan.system) a below in
      let end = laws.known_agents a at.0 at.1 in
      (end.agent, agent_here a at.0 end.agent at.1 end.is end.proper)

  -- what holds of the sides of all proper hosts holds of each host
  of_hosts : (P : HostSide → Type 0) → ((host : HostPort) → IsBoundedHost host → P (host_side host)) → (h : ℕ) → h < system.hosts → P (system.host h)
  of_hosts P all h below = let host = a_host h below in subst P (sym host.1.is) (all host.0 host.1.bounded)

  of_agents : (P : AgentSide → Type 0) → ((agent : AgentPort) → IsBoundedAgent agent → P (agent_side agent)) → (a : ℕ) → a < system.agents → P (system.agent a)
  of_agents P all a below = let agent = an_agent a below in subst P (sym agent.1.is) (all agent.0 agent.1.bounded)

  -- ---- joined hosts and agents

  -- the link of a host and an agent, with what is known of its ends and its connection
  pub record IsJoint (a h : ℕ) (link : MemoryConnection) : Type 0 where
    pub there : At (memory_connections plan.system) link
    pub host_is : link.host_number ≡ h
    pub agent_is : link.agent_number ≡ a
    pub between : link_between plan.system h a ≡ Some link
    pub host : system.host h ≡ host_side link.host
    pub agent : system.agent a ≡ agent_side link.agent

  joint_of : (a h : ℕ) (link : MemoryConnection) (there : At (memory_connections plan.system) link) → link.host_number ≡ h → link.agent_number ≡ a → IsJoint a h link
  joint_of a h link there host_is agent_is =
      let l = laws.numbered there.place link there.is in
      let at_host : slice_get (hosts_of plan.system) h ≡ Some l.connection.start = ap (slice_get (hosts_of plan.system)) (sym host_is) ∙ l.host_is in
      let at_agent : slice_get (agents_of plan.system) a ≡ Some l.connection.end = ap (slice_get (agents_of plan.system)) (sym agent_is) ∙ l.agent_is in
      record {
        there = there;
        host_is = host_is;
        agent_is = agent_is;
        between = found_between plan.system is_plan.system laws.numbered h a link there host_is agent_is;
        host = (host_here h l.connection.start link.host at_host l.host l.host_proper).is;
        agent = (agent_here a l.connection.end link.agent at_agent l.agent l.agent_proper).is;
      }

  joint : (a h : ℕ) → IsTrue (is_joined system a h) → (link : MemoryConnection) × IsJoint a h link
  joint a h joined =
      let l = listed_from (λ (link : MemoryConnection). nat_eq link.agent_number a) (λ link. link.host_number) (memory_connections plan.system) h joined in
      (l.item, joint_of a h l.item l.there l.is ((Decides-eqb l.item.agent_number a).0 l.passes))

  joined_by : (a h : ℕ) (link : MemoryConnection) → At (memory_connections plan.system) link → link.host_number ≡ h → link.agent_number ≡ a → IsTrue (is_joined system a h)
  joined_by a h link there host_is agent_is =
      subst (λ n. IsTrue (is_joined system a n)) host_is
      (listed (λ (link : MemoryConnection). nat_eq link.agent_number a) (λ link. link.host_number) (memory_connections plan.system) there.place link there.is ((Decides-eqb link.agent_number a).1 agent_is))

  base_of : (a h : ℕ) (link : MemoryConnection) → IsJoint a h link → system.base h a ≡ link.base
  base_of a h link j = ap (λ o. option_map_or (λ (link : MemoryConnection). link.base) o 0) j.between

  shares_of : (a h : ℕ) (link : MemoryConnection) → IsJoint a h link → system.shares h a ≡ link.shares
  shares_of a h link j = ap (λ o. option_map_or (λ (link : MemoryConnection). link.shares) o 0) j.between

  bytes_of : (a h : ℕ) (link : MemoryConnection) → IsJoint a h link → footprint (system.agent a).span (system.host h).word_bytes ≡ footprint (span_of link.agent) link.host.word_bytes
  bytes_of a h link j = ap (λ (side : AgentSide). footprint side.span (system.host h).word_bytes) j.agent ∙ ap (λ (side : HostSide). footprint (span_of link.agent) side.word_bytes) j.host

  host_below : (a h : ℕ) → IsTrue (is_joined system a h) → h < system.hosts
  host_below a h joined =
      let x = joint a h joined in let link = x.0 in let j = x.1 in
      let l = laws.numbered j.there.place link j.there.is in
      slice_get_within (hosts_of plan.system) h l.connection.start (ap (slice_get (hosts_of plan.system)) (sym j.host_is) ∙ l.host_is)

  agent_below : (a h : ℕ) → IsTrue (is_joined system a h) → a < system.agents
  agent_below a h joined =
      let x = joint a h joined in let link = x.0 in let j = x.1 in
      let l = laws.numbered j.there.place link j.there.is in
      slice_get_within (agents_of plan.system) a l.connection.end (ap (slice_get (agents_of plan.system)) (sym j.agent_is) ∙ l.agent_is)

  some_shares : (a h : ℕ) → IsTrue (is_joined system a h) → 1 ≤ system.shares h a
  some_shares a h joined = let x = joint a h joined in let link = x.0 in let j = x.1 in subst (λ n. 1 ≤ n) (sym (shares_of a h link j)) (laws.numbered j.there.place link j.there.is).some_share

  few_shares : (a h : ℕ) → IsTrue (is_joined system a h) → system.shares h a ≤ 63
  few_shares a h joined = let x = joint a h joined in let link = x.0 in let j = x.1 in subst (λ n. n ≤ 63) (sym (shares_of a h link j)) (laws.numbered j.there.place link j.there.is).few_shares

  wider : (a h : ℕ) → IsTrue (is_joined system a h) → (system.host h).word_bytes < (system.agent a).word_bytes → IsTrue (system.agent a).has_enables
  wider a h joined less =
      let x = joint a h joined in let link = x.0 in let j = x.1 in
      let l = laws.numbered j.there.place link j.there.is in
      let kept = laws.keeps j.there.place link j.there.is l.connection l.connection_is 3 in
      let order : link.host.word_bytes < link.agent.word_bytes =
      subst (λ (side : AgentSide). link.host.word_bytes < side.word_bytes) j.agent (subst (λ (side : HostSide). side.word_bytes < (system.agent a).word_bytes) j.host less) in
      let below : nat_lt link.host.word_bytes link.agent.word_bytes ≡ true = grind (arith, nat_tests) in
      subst (λ (side : AgentSide). IsTrue side.has_enables) (sym j.agent) (both_false (nat_lt link.host.word_bytes link.agent.word_bytes) link.agent.enables kept below)

  base : (h a : ℕ) → IsTrue (is_joined system a h) → (k : ℕ) × (system.base h a ≡ k * footprint (system.agent a).span (system.host h).word_bytes)
  base h a joined =
      let x = joint a h joined in let link = x.0 in let j = x.1 in
      let l = each_is plan.system link j.there in
      let f = footprint_between l.connection link.host link.agent in
      let at : slice_index_or (footprints plan.system) link.connection None ≡ Some f = index_is (footprints plan.system) link.connection (Some f) None l.footprint_is in
      let kept : is_misplaced f ≡ false = subst (λ o. breaks_after (take link.connection (footprints plan.system)) o 1 ≡ false) at (is_plan.maps.kept link.connection 1) in
      let whole = whole_bytes f kept in
      (whole.0, base_of a h link j ∙ l.base_is ∙ whole.1 ∙ ap (λ n. whole.0 * n) (sym (bytes_of a h link j)))

  -- ---- places

  serves_both : (a : ℕ) (agent : AgentPort) (kind : Kind) (number : ℕ) (c : Connection) (host : HostPort) → system.agent a ≡ agent_side agent
      → serves_kind (system.agent a) kind ≡ serves (access_of kind) (entry_of number (footprint_between c host agent))
  serves_both a agent Reads number c host same = ap (λ (side : AgentSide). side.has_read) same
  serves_both a agent Writes number c host same = ap (λ (side : AgentSide). side.has_write) same

  abbrev pub IsServed : ℕ → ℕ → ℕ → Kind → Type 0
  IsServed h a address kind = (a < system.agents) × IsInFootprint system h a address × IsTrue (serves_kind (system.agent a) kind)

  from_option : {X Y : Type 0} (f : X → Y) (o : Option X) (y : Y) → option_map f o ≡ Some y → (x : X) × (o ≡ Some x) × (f x ≡ y)
  from_option f None y same = absurd (none-some y same)
  from_option f (Some x) y same = (x, refl, same_Some (f x) y same)

  module _ (h : ℕ) (end : EndId) (entries : List MapEntry) (at_host : slice_get (hosts_of plan.system) h ≡ Some end) (at_map : slice_get plan.maps h ≡ Some entries) where
    served_by : (a address : ℕ) (kind : Kind) (number : ℕ) (spot : IsPlace (footprints plan.system) end (access_of kind) address number) → HasFootprint plan.system number spot.footprint → agent_of plan.system number ≡ a → IsServed h a address kind
    served_by a address kind number spot has named =
        let l = laws.numbered has.there.place has.link has.there.is in
        let same_connection : l.connection ≡ has.link_is.connection = same_Some l.connection has.link_is.connection (sym l.connection_is ∙ has.link_is.is) in
        let ends : l.connection.start ≡ end = ap (λ (c : Connection). c.start) same_connection ∙ sym (ap (λ (f : Footprint). f.host) has.same) ∙ spot.of_host in
        let host_is : has.link.host_number ≡ h = laws.one_end Start has.link.host_number h end (l.host_is ∙ ap Some ends) at_host in
        let agent_is : has.link.agent_number ≡ a = sym (agent_of_link plan.system has.link has.link_is) ∙ ap (agent_of plan.system) has.number_is ∙ named in
        let joined = joined_by a h has.link has.there host_is agent_is in
        let j = joint_of a h has.link has.there host_is agent_is in
        let bases : system.base h a ≡ spot.footprint.base = base_of a h has.link j ∙ has.link_is.base_is ∙ sym (ap (λ (f : Footprint). f.base) has.same) in
        let bytes : footprint (system.agent a).span (system.host h).word_bytes ≡ spot.footprint.bytes = bytes_of a h has.link j ∙ sym (ap (λ (f : Footprint). f.bytes) has.same) in
        let low = spot.from_base in
        let high = spot.below_end in (
          agent_below a h joined,
          record { joined = joined; from_base = omega (arith, bases, low); below_end = omega (arith, bases, bytes, high) },
          serves_both a has.link.agent kind number has.link_is.connection has.link.host j.agent ∙ sym (ap (λ (f : Footprint). serves (access_of kind) (entry_of number f)) has.same) ∙ spot.serves_it,
        )

    place_there : (a address : ℕ) (kind : Kind) → place_in plan.system entries kind address ≡ Some a → IsServed h a address kind
    place_there a address kind goes =
        let from = from_option (agent_of plan.system) (place_of entries (access_of kind) address) a goes in
        let spot = (laws.places h end entries at_host at_map (access_of kind) address from.0).0 from.1 in
        served_by a address kind from.0 spot (footprint_has_link plan.system from.0 spot.footprint spot.is) from.2

    place_back : (a address : ℕ) (kind : Kind) → IsServed h a address kind → place_in plan.system entries kind address ≡ Some a
    place_back a address kind served =
        let x = joint a h served.1.joined in
        let link = x.0 in
        let j = x.1 in
        let m = laws.numbered j.there.place link j.there.is in
        let l = each_is plan.system link j.there in
        let f = footprint_between l.connection link.host link.agent in
        let same_connection : m.connection ≡ l.connection = same_Some m.connection l.connection (sym m.connection_is ∙ l.is) in
        let ends : f.host ≡ end = same_Some f.host end (sym (ap (λ (c : Connection). Some c.start) same_connection) ∙ sym m.host_is ∙ ap (slice_get (hosts_of plan.system)) j.host_is ∙ at_host) in
        let bases : system.base h a ≡ f.base = base_of a h link j ∙ l.base_is in
        let bytes : footprint (system.agent a).span (system.host h).word_bytes ≡ f.bytes = bytes_of a h link j in
        let low = served.1.from_base in
        let high = served.1.below_end in
        let place : IsPlace (footprints plan.system) end (access_of kind) address link.connection = record {
          footprint = f;
          is = l.footprint_is;
          of_host = ends;
          from_base = omega (arith, bases, low);
          below_end = omega (arith, bases, bytes, high);
          serves_it = sym (serves_both a link.agent kind link.connection l.connection link.host j.agent) ∙ served.2;
        } in
        ap (option_map (agent_of plan.system)) ((laws.places h end entries at_host at_map (access_of kind) address link.connection).1 place)
        ∙ ap Some (agent_of_link plan.system link l ∙ j.agent_is)

  place : (h a address : ℕ) (kind : Kind) → h < system.hosts → (system.place h kind address ≡ Some a) ↔ IsServed h a address kind
  place h a address kind below =
      let at = there_at (hosts_of plan.system) h below in
      let count = is_plan.maps.placed.count in
      let map_at = there_at plan.maps h (omega (arith, count, below)) in
      let same : place_in plan.system (slice_index_or plan.maps h []) kind address ≡ place_in plan.system map_at.0 kind address =
      ap (λ entries. place_in plan.system entries kind address) (index_is plan.maps h map_at.0 [] map_at.1) in
      (λ goes. place_there h at.0 map_at.0 at.1 map_at.1 a address kind (sym same ∙ goes), λ served. same ∙ place_back h at.0 map_at.0 at.1 map_at.1 a address kind served)

  pub is_memory_plan : IsMemoryPlan system
  is_memory_plan = record {
    hosts = of_hosts (λ side. IsShape side.shape) host_shape;
    agents = of_agents (λ side. IsShape side.shape) agent_shape;
    plain = of_hosts (λ side. IsFalse side.has_burst → side.burst_bits ≡ 1) (λ host bounded. plain_width host.burst_bits);
    plain_agent = of_agents (λ side. IsFalse side.has_burst → side.burst_bits ≡ 1) (λ agent bounded. plain_width agent.burst_bits);
    pending = of_agents (λ side. 1 ≤ side.pending) (λ agent bounded. some_bound agent);
    fixed = of_agents (λ side. IsTrue side.has_read → IsFalse side.has_readdatavalid → IsFalse side.has_burst) fixed_is_plain;
    reads = of_agents (λ side. IsTrue side.has_readdatavalid → IsTrue side.has_read) (λ agent bounded. bounded.ports.valid_reads);
    waits = of_agents (λ side. IsTrue side.has_burst → IsTrue side.has_waitrequest) bursts_wait;
    span = of_agents (λ side. IsPowerOfTwo side.span × (side.word_bytes ≤ side.span)) span_is;
    wider = wider;
    joined = host_below;
    shares = some_shares;
    few_shares = few_shares;
    few_hosts = within_limit 16 (length (hosts_of plan.system)) (is_plan.limits 1);
    few_stages = is_plan.system.stages;
    base = base;
    place = place;
  }

  -- ---- links

  pub apart : (a : ℕ) → IsDistinct nat_eq (system.joined a)
  apart a = distinct (λ (link : MemoryConnection). nat_eq link.agent_number a) (λ link. link.host_number) (memory_connections plan.system)
      (λ j k x y at_x at_y px py same.
      one_link plan.system is_plan.system laws.numbered x y (record { place = j; is = at_x }) (record { place = k; is = at_y }) same
      ((Decides-eqb x.agent_number a).0 px ∙ sym ((Decides-eqb y.agent_number a).0 py)))

  pub has_link : (k : ℕ) (link : MemoryConnection) → slice_get (memory_connections plan.system) k ≡ Some link → HasLink system link
  has_link k link at =
      let there : At (memory_connections plan.system) link = record { place = k; is = at } in
      let a = link.agent_number in
      let h = link.host_number in
      let joined = joined_by a h link there refl refl in
      let j = joint_of a h link there refl refl in
      record {
        host_below = host_below a h joined;
        agent_below = agent_below a h joined;
        host = j.host;
        agent = j.agent;
        joined = joined;
        base = base_of a h link j;
        shares = shares_of a h link j;
      }

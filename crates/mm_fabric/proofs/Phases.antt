-- What each phase of a fabric asks, of the plan and what the phases before it made.
use Rattle.std.proofs.Common.{◌≡◌, ℕ, zero, suc, ◌+◌, ◌*◌, ◌<◌, ◌≤◌, Bool, true, false, ◌||◌, cond, nat_eq, List, [], ◌∷◌, length, map, Some, slice_get, refl, sym, subst, ap, ◌∙◌, arith}
use Rattle.std.specs.List.{AllZip}
use Rattle.std.proofs.lemmas.Bool.{eqb-true, eq-eqb, false≢true}
use Rattle.std.proofs.lemmas.Option.{same_Some, none-some, slice_get_within}
use Rattle.std.proofs.lemmas.List.{length-map}
use Rattle.iface_roles.specs.declared.records.AgentPort.{AgentPort}
use Rattle.iface_roles.specs.declared.records.HostPort.{HostPort}
use Rattle.iface_roles.specs.Proper.{IsBoundedHost, IsBoundedAgent, range_of, span_of}
use Rattle.address_map.specs.Maps.{hosts_of, agents_of}
use Rattle.link_rules.specs.Plans.{PlanTable}
use Rattle.netlist.specs.Netlists.{Netlist}
use Rattle.netlist.specs.Longer.{Extends}
use Rattle.memory_runs.specs.declared.sides.route.Route.{Route}
use Rattle.memory_plans.specs.Routes.{routes_of}
use Rattle.memory_plans.specs.Systems.{memory_system}
use Rattle.command_nets.specs.declared.nets.CommandNets.{CommandNets}
use Rattle.histories.specs.Turns.{is_seated}
use Rattle.mm_route.specs.Forward.{as_many_commands}
use Rattle.mm_agent.specs.Agents.{agent_lasts}
use Rattle.mm_arbiter.specs.declared.asker.Asker.{Asker}
use Rattle.mm_arbiter.specs.Machine.{seats_from}
use Rattle.memory_plans.specs.Maps.{IsAgentOf}
use Rattle.mm_width.specs.Pairs.{MayMeet}
use Rattle.mm_host.specs.Reads.{is_unbounded}
use Rattle.mm_fabric.specs.declared.asks.AgentEnd.{AgentEnd}
use Rattle.mm_fabric.specs.declared.begun.BegunHost.{BegunHost}
use Rattle.mm_fabric.specs.declared.begun.HostEnd.{HostEnd}
use Rattle.mm_fabric.specs.declared.parts.AgentPart.{AgentPart}
use Rattle.mm_fabric.specs.declared.parts.Seat.{Seat}
use Rattle.mm_fabric.specs.Parts.{askers_of}
use Rattle.mm_fabric.specs.Fabrics.{seat_of}
use Rattle.mm_fabric.specs.Begun.{IsHostEnd, AreHostEnds, IsBegun, AreBegun}
use Rattle.mm_fabric.specs.Asks.{asking, command_to, CanAsk, AllCanAsk, IsSeatFor}
use Rattle.mm_fabric.specs.Wide.{IsSeated}
use Rattle.mm_fabric.specs.Joined.{IsAgentEnd, AreAgentEnds, IsJoined, AreJoinedFrom}
use Rattle.mm_fabric.specs.Joined.{end_of as agent_end_of}
use Rattle.mm_fabric.specs.Tells.{CanTell, AllCanTell}
use Rattle.mm_fabric.specs.Finished.{MayFinish, AllMayFinish}
use Rattle.mm_fabric.specs.Ends.{AreHosts, AreAgents}
use Rattle.mm_fabric.specs.Links.{HasLinkBetween, IsLinkedPlan}
use Rattle.mm_fabric.proofs.Passing.{there_at, mapped}
use Rattle.mm_fabric.proofs.Linking.{same_host, same_agent}
use Rattle.mm_fabric.proofs.Seats.{seated_is_joined}
use Rattle.mm_fabric.specs.Lone.{IsLoneWay}
use Rattle.mm_fabric.proofs.LoneWays.{IsSeatOn, lone_way}

-- ---- the hosts that begin

ends_from : (plan : PlanTable) (netlist : Netlist) (from : ℕ) (ends : List HostEnd) → ((k : ℕ) (end : HostEnd) → slice_get ends k ≡ Some end → IsHostEnd plan netlist (from + k) end) → AreHostEnds plan netlist from ends
ends_from plan netlist from [] each = tt
ends_from plan netlist from (end ∷ ends) each = (
  subst (λ n. IsHostEnd plan netlist n end) (omega arith) (each 0 end refl),
  ends_from plan netlist (from + 1) ends (λ k x at. subst (λ n. IsHostEnd plan netlist n x) (omega arith) (each (suc k) x at)),
)

pub hosts_begin : (plan : PlanTable) (netlist : Netlist) (ends : List HostEnd) → IsLinkedPlan plan → AreHosts plan netlist ends → AreHostEnds plan netlist 0 ends
hosts_begin plan netlist ends linked are = ends_from plan netlist 0 ends (λ k end at.
    (let is = are.each k end at in
    let inside = slice_get_within ends k end at in
    let many = are.many in
    let host = linked.hosts k (omega (arith, inside, many)) in
    let begins : IsHostEnd plan netlist k end = record {
      port = is.port;
      bounded = subst (λ (p : HostPort). IsBoundedHost p) (same_host plan k host.ports.port end.port host.ports.is is.port) host.ports.bounded;
      nets = is.nets;
      some = host.some;
      few = host.few;
    } in
    subst (λ n. IsHostEnd plan netlist n end) (omega arith) begins))

-- ---- begun hosts by their numbers

begun_from : (plan : PlanTable) (netlist : Netlist) (from k : ℕ) (begun : List BegunHost) (host : BegunHost) → AreBegun plan netlist from begun → slice_get begun k ≡ Some host → IsBegun plan netlist (from + k) host
begun_from plan netlist from k [] host are at = absurd (none-some host at)
begun_from plan netlist from zero (first ∷ later) host are at = subst (λ n. IsBegun plan netlist n host) (omega arith) (subst (IsBegun plan netlist from) (same_Some first host at) are.0)
begun_from plan netlist from (suc k) (first ∷ later) host are at = subst (λ n. IsBegun plan netlist n host) (omega arith) (begun_from plan netlist (from + 1) k later host are.1 at)

pub begun_at : (plan : PlanTable) (netlist : Netlist) (k : ℕ) (begun : List BegunHost) (host : BegunHost) → AreBegun plan netlist 0 begun → slice_get begun k ≡ Some host → IsBegun plan netlist k host
begun_at plan netlist k begun host are at = subst (λ n. IsBegun plan netlist n host) (omega arith) (begun_from plan netlist 0 k begun host are at)

-- ---- the agents that are joined

-- the command of a route to an agent
pub leads_to : (agent : ℕ) (routes : List Route) (commands : List CommandNets) (k : ℕ) (route : Route) → length commands ≡ length routes → slice_get routes k ≡ Some route → route.agent ≡ agent → (command : CommandNets) × (command_to agent routes commands ≡ Some command)
leads_to agent [] commands k route many at is = absurd (none-some route at)
leads_to agent (first ∷ routes) [] k route many at is = absurd (omega (arith, many))
leads_to agent (first ∷ routes) (command ∷ commands) k route many at is = by (nat_eq first.agent agent) refl k at (λ j there. leads_to agent routes commands j route (omega (arith, many)) there is)
  where
    by : (b : Bool) → nat_eq first.agent agent ≡ b → (k : ℕ) → slice_get (first ∷ routes) k ≡ Some route → ((j : ℕ) → slice_get routes j ≡ Some route → (x : CommandNets) × (command_to agent routes commands ≡ Some x))
        → (x : CommandNets) × (cond (nat_eq first.agent agent) (Some command) (command_to agent routes commands) ≡ Some x)
    by true own k at later = (command, ap (λ b. cond b (Some command) (command_to agent routes commands)) own)
    by false other zero at later = absurd (false≢true (sym other ∙ eq-eqb first.agent agent (ap (λ (r : Route). r.agent) (same_Some first route at) ∙ is)))
    by false other (suc k) at later = let more = later k at in (more.0, ap (λ b. cond b (Some command) (command_to agent routes commands)) other ∙ more.1)

all_can_ask : (plan : PlanTable) (netlist : Netlist) (agent : ℕ) (port : AgentPort) (begun : List BegunHost) (askers : List Asker) → ((k : ℕ) (asker : Asker) → slice_get askers k ≡ Some asker → CanAsk plan netlist agent port begun asker) → AllCanAsk plan netlist agent port begun askers
all_can_ask plan netlist agent port begun [] each = tt
all_can_ask plan netlist agent port begun (asker ∷ later) each = (each 0 asker refl, all_can_ask plan netlist agent port begun later (λ k x at. each (suc k) x at))

-- a begun host may ask where a link joins it to the agent
can_ask : (plan : PlanTable) (netlist : Netlist) (agent : ℕ) (port : AgentPort) (begun : List BegunHost) (asker : Asker) → length begun ≡ length (hosts_of plan.system) → AreBegun plan netlist 0 begun → IsAgentOf plan agent port → HasLinkBetween plan asker.host agent → CanAsk plan netlist agent port begun asker
can_ask plan netlist agent port begun asker many are is link =
    let below = link.host_below in
    let there = there_at begun asker.host (omega (arith, below, many)) in
    let host = begun_at plan netlist asker.host begun there.0 are there.1 in
    let leads = leads_to agent (routes_of plan.system asker.host) there.0.commands.items link.route.number link.route.route
    (as_many_commands _ _ _ _ there.0.trunk.route _ host.forward ∙ ap (λ (rs : List Route). length rs) host.routes) link.route.is link.route.leads in
    let above = same_host plan asker.host link.link.host there.0.port link.host_port host.port in
    let below = same_agent plan agent link.link.agent port link.agent_port is in
    record {
      command = leads.0;
      host = there.0;
      at = there.1;
      leads = subst (λ (rs : List Route). command_to agent rs there.0.commands.items ≡ Some leads.0) (sym host.routes) leads.1;
      is = host;
      pair = subst (λ (p : HostPort). MayMeet p port) above (subst (λ (p : AgentPort). MayMeet link.link.host p) below link.pair);
      word = subst (λ (p : HostPort). p.word_bytes ≤ range_of p) above link.word;
      span = subst (λ (p : HostPort). span_of port ≤ range_of p) above (subst (λ (p : AgentPort). span_of p ≤ range_of link.link.host) below link.span);
    }

agents_from : (plan : PlanTable) (netlist : Netlist) (begun : List BegunHost) (from : ℕ) (ends : List AgentEnd) → ((k : ℕ) (end : AgentEnd) → slice_get ends k ≡ Some end → IsAgentEnd plan netlist begun (from + k) end) → AreAgentEnds plan netlist begun from ends
agents_from plan netlist begun from [] each = tt
agents_from plan netlist begun from (end ∷ ends) each = (
  subst (λ n. IsAgentEnd plan netlist begun n end) (omega arith) (each 0 end refl),
  agents_from plan netlist begun (from + 1) ends (λ k x at. subst (λ n. IsAgentEnd plan netlist begun n x) (omega arith) (each (suc k) x at)),
)

pub agents_join : (plan : PlanTable) (old netlist : Netlist) (begun : List BegunHost) (ends : List AgentEnd) → IsLinkedPlan plan → AreAgents plan old ends → Extends old netlist → length begun ≡ length (hosts_of plan.system) → AreBegun plan netlist 0 begun →
    AreAgentEnds plan netlist begun 0 ends
agents_join plan old netlist begun ends linked are e many all = agents_from plan netlist begun 0 ends (λ k end at.
    (let is = are.each k end at in
    let inside = slice_get_within ends k end at in
    let as_many = are.many in
    let below : k < length (agents_of plan.system) = omega (arith, inside, as_many) in
    let agent = linked.agents k below in
    let joins : IsAgentEnd plan netlist begun k end = record {
      bounded = subst (λ (p : AgentPort). IsBoundedAgent p) (same_agent plan k agent.ports.port end.port agent.ports.is is.port) agent.ports.bounded;
      nets = agent_lasts old netlist end.port end.nets is.nets e;
      askers = agent.askers;
      few = agent.few;
      asks = all_can_ask plan netlist k end.port begun (asking plan.system k) (λ j asker there. can_ask plan netlist k end.port begun asker many all is.port (agent.links j asker there));
    } in
    subst (λ n. IsAgentEnd plan netlist begun n end) (omega arith) joins))

-- ---- joined agents by their numbers

joined_from : (plan : PlanTable) (netlist : Netlist) (begun : List BegunHost) (from k : ℕ) (parts : List AgentPart) (part : AgentPart) → AreJoinedFrom plan netlist begun from parts → slice_get parts k ≡ Some part → IsJoined plan netlist begun (from + k) part
joined_from plan netlist begun from k [] part are at = absurd (none-some part at)
joined_from plan netlist begun from zero (first ∷ later) part are at = subst (λ n. IsJoined plan netlist begun n part) (omega arith) (subst (IsJoined plan netlist begun from) (same_Some first part at) are.0)
joined_from plan netlist begun from (suc k) (first ∷ later) part are at = subst (λ n. IsJoined plan netlist begun n part) (omega arith) (joined_from plan netlist begun (from + 1) k later part are.1 at)

pub joined_at : (plan : PlanTable) (netlist : Netlist) (begun : List BegunHost) (k : ℕ) (parts : List AgentPart) (part : AgentPart) → AreJoinedFrom plan netlist begun 0 parts → slice_get parts k ≡ Some part → IsJoined plan netlist begun k part
joined_at plan netlist begun k parts part are at = subst (λ n. IsJoined plan netlist begun n part) (omega arith) (joined_from plan netlist begun 0 k parts part are at)

-- a part has the ports of the agent of its number
pub agent_port_at : (plan : PlanTable) (netlist : Netlist) (ends : List AgentEnd) (parts : List AgentPart) (k : ℕ) (part : AgentPart) → AreAgents plan netlist ends → map agent_end_of parts ≡ ends → slice_get parts k ≡ Some part → IsAgentOf plan k part.port
agent_port_at plan netlist ends parts k part are same at =
    (are.each k (agent_end_of part) (subst (λ (es : List AgentEnd). slice_get es k ≡ Some (agent_end_of part)) same (mapped agent_end_of parts k part at))).port

-- ---- the seats of an agent

pub seat_found : (host : ℕ) (seats : List Seat) → is_seated host (seats_from (askers_of seats)) ≡ true → (seat : Seat) × (seat_of host seats ≡ Some seat)
seat_found host [] there = absurd (false≢true there)
seat_found host (first ∷ later) there = by (nat_eq first.host host) refl (seat_found host later)
  where
    by : (b : Bool) → nat_eq first.host host ≡ b → (is_seated host (seats_from (askers_of later)) ≡ true → (seat : Seat) × (seat_of host later ≡ Some seat)) → (seat : Seat) × (cond (nat_eq first.host host) (Some first) (seat_of host later) ≡ Some seat)
    by true own rest = (first, ap (λ b. cond b (Some first) (seat_of host later)) own)
    by false other rest =
        let more = rest (sym (ap (λ b. b || is_seated host (seats_from (askers_of later))) other) ∙ there) in
        (more.0, ap (λ b. cond b (Some first) (seat_of host later)) other ∙ more.1)

-- a host that is joined has a seat
pub joined_seat : (plan : PlanTable) (netlist : Netlist) (begun : List BegunHost) (host agent : ℕ) (part : AgentPart) → IsLinkedPlan plan → HasLinkBetween plan host agent → IsJoined plan netlist begun agent part → (seat : Seat) × (seat_of host part.seats ≡ Some seat)
joined_seat plan netlist begun host agent part linked link is =
    seat_found host part.seats (ap (λ (askers : List Asker). is_seated host (seats_from askers)) is.askers ∙ ap (is_seated host) (linked.agents agent link.agent_below).seats ∙ seated_is_joined (memory_system plan) agent host ∙ link.joined)

-- it is one for its host's asker
pub record SeatAt (netlist : Netlist) (port : AgentPort) (agent host : ℕ) (begun : List BegunHost) (seat : Seat) : Type 0 where
  pub own : seat.host ≡ host
  pub is : IsSeatFor netlist port agent begun (record { host = seat.host; shares = seat.shares }) seat

seat_at : (netlist : Netlist) (port : AgentPort) (agent host : ℕ) (begun : List BegunHost) (seats : List Seat) (seat : Seat) → AllZip (IsSeatFor netlist port agent begun) (askers_of seats) seats → seat_of host seats ≡ Some seat → SeatAt netlist port agent host begun seat
seat_at netlist port agent host begun [] seat all found = absurd (none-some seat found)
seat_at netlist port agent host begun (first ∷ later) seat all found = by (nat_eq first.host host) refl found (seat_at netlist port agent host begun later seat all.1)
  where
    by : (b : Bool) → nat_eq first.host host ≡ b → cond b (Some first) (seat_of host later) ≡ Some seat → (seat_of host later ≡ Some seat → SeatAt netlist port agent host begun seat) → SeatAt netlist port agent host begun seat
    by true own is rest = subst (SeatAt netlist port agent host begun) (same_Some first seat is) (record { own = eqb-true first.host host own; is = all.0 })
    by false other is rest = rest is

-- what a host asks at its seat, along its own route
pub record AsksAt (netlist : Netlist) (port : AgentPort) (agent : ℕ) (host : BegunHost) (seat : Seat) : Type 0 where
  pub command : CommandNets
  pub leads : command_to agent host.routes host.commands.items ≡ Some command
  pub seated : IsSeated netlist port (record { port = host.port; command = command }) seat

pub asks_at : (netlist : Netlist) (port : AgentPort) (agent host : ℕ) (begun : List BegunHost) (askers : List Asker) (seats : List Seat) (seat : Seat) (own : BegunHost) → AllZip (IsSeatFor netlist port agent begun) askers seats → askers_of seats ≡ askers → seat_of host seats ≡ Some seat → slice_get begun host ≡ Some own →
    AsksAt netlist port agent own seat
asks_at netlist port agent host begun askers seats seat own all same found at =
    let s = seat_at netlist port agent host begun seats seat (subst (λ (xs : List Asker). AllZip (IsSeatFor netlist port agent begun) xs seats) (sym same) all) found in
    let one = s.is.asks in
    let is : one.is.host ≡ own = same_Some one.is.host own (sym one.is.at ∙ ap (slice_get begun) s.own ∙ at) in
    let ports : s.is.one.port ≡ own.port = one.port ∙ ap (λ (b : BegunHost). b.port) is in
    record {
      command = s.is.one.command;
      leads = subst (λ (b : BegunHost). command_to agent b.routes b.commands.items ≡ Some s.is.one.command) is one.is.leads;
      seated = subst (λ (p : HostPort). IsSeated netlist port (record { port = p; command = s.is.one.command }) seat) ports s.is.seated;
    }

-- ---- the hosts that are finished

all_can_tell : (netlist : Netlist) (bits host : ℕ) (parts : List AgentPart) (routes : List Route) → ((k : ℕ) (route : Route) → slice_get routes k ≡ Some route → CanTell netlist bits host parts route) → AllCanTell netlist bits host parts routes
all_can_tell netlist bits host parts [] each = tt
all_can_tell netlist bits host parts (route ∷ routes) each = (each 0 route refl, all_can_tell netlist bits host parts routes (λ k x at. each (suc k) x at))

-- all agents are joined, with the plan's ports
pub record AreAllJoined (plan : PlanTable) (netlist : Netlist) (begun : List BegunHost) (parts : List AgentPart) : Type 0 where
  pub many : length parts ≡ length (agents_of plan.system)
  pub each : AreJoinedFrom plan netlist begun 0 parts
  pub ports : (k : ℕ) (part : AgentPart) → slice_get parts k ≡ Some part → IsAgentOf plan k part.port

pub all_joined : (plan : PlanTable) (old netlist : Netlist) (begun : List BegunHost) (ends : List AgentEnd) (parts : List AgentPart) → AreAgents plan old ends → map agent_end_of parts ≡ ends → AreJoinedFrom plan netlist begun 0 parts → AreAllJoined plan netlist begun parts
all_joined plan old netlist begun ends parts are same each = record {
  many = sym (length-map parts agent_end_of) ∙ ap (λ (es : List AgentEnd). length es) same ∙ are.many;
  each = each;
  ports = λ k part at. agent_port_at plan old ends parts k part are same at;
}

-- the host's seat at the agent at the end of a link
seat_on : (plan : PlanTable) (netlist : Netlist) (begun : List BegunHost) (parts : List AgentPart) (number : ℕ) (host : BegunHost) (route : Route) → IsLinkedPlan plan → AreAllJoined plan netlist begun parts → slice_get begun number ≡ Some host → HasLinkBetween plan number route.agent →
    IsSeatOn plan netlist parts number host route
seat_on plan netlist begun parts number host route linked all at link =
    let below = link.agent_below in
    let many = all.many in
    let there = there_at parts route.agent (omega (arith, below, many)) in
    let joined = joined_at plan netlist begun route.agent parts there.0 all.each there.1 in
    let seat = joined_seat plan netlist begun number route.agent there.0 linked link joined in
    let asks = asks_at netlist there.0.port route.agent number begun _ there.0.seats seat.0 host joined.seats joined.askers seat.1 at in
    record {
      seat = seat.0;
      has = record { part = there.0; at = there.1; leads = seat.1 };
      port = all.ports route.agent there.0 there.1;
      command = asks.command;
      leads = asks.leads;
      seated = asks.seated;
      bounds = joined.bounds;
    }

-- the agent at the end of a link tells the host
can_tell : (plan : PlanTable) (netlist : Netlist) (begun : List BegunHost) (parts : List AgentPart) (number : ℕ) (host : BegunHost) (route : Route) → IsLinkedPlan plan → AreAllJoined plan netlist begun parts → slice_get begun number ≡ Some host → HasLinkBetween plan number route.agent →
    CanTell netlist (host.port.word_bytes * 8) number parts route
can_tell plan netlist begun parts number host route linked all at link =
    let is = seat_on plan netlist begun parts number host route linked all at link in
    record { seat = is.seat; has = is.has; told = is.seated.told }

-- a begun host whose agents tell it may be finished, and where nothing next to it bounds its reads its only agent does
may_finish : (plan : PlanTable) (netlist : Netlist) (parts : List AgentPart) (number : ℕ) (host : BegunHost) → IsBegun plan netlist number host → (is_unbounded host.trunk.host.reads ≡ true → IsLoneWay netlist parts number host) → length host.routes ≤ 32 → AllCanTell netlist (host.port.word_bytes * 8) number parts host.routes → MayFinish netlist parts number host
may_finish plan netlist parts number host is lone few tell = record { bounded = is.bounded; trunk = is.trunk; lone = lone; few = few; forward = is.forward; tell = tell }

may_from : (netlist : Netlist) (parts : List AgentPart) (from : ℕ) (begun : List BegunHost) → ((k : ℕ) (host : BegunHost) → slice_get begun k ≡ Some host → MayFinish netlist parts (from + k) host) → AllMayFinish netlist parts from begun
may_from netlist parts from [] each = tt
may_from netlist parts from (host ∷ later) each = (
  subst (λ n. MayFinish netlist parts n host) (omega arith) (each 0 host refl),
  may_from netlist parts (from + 1) later (λ k x at. subst (λ n. MayFinish netlist parts n x) (omega arith) (each (suc k) x at)),
)

pub hosts_finish : (plan : PlanTable) (old netlist : Netlist) (begun : List BegunHost) (ends : List AgentEnd) (parts : List AgentPart) → IsLinkedPlan plan → length begun ≡ length (hosts_of plan.system) → AreBegun plan netlist 0 begun →
    AreAgents plan old ends → map agent_end_of parts ≡ ends → AreAllJoined plan netlist begun parts → AllMayFinish netlist parts 0 begun
hosts_finish plan old netlist begun ends parts linked many are given same all = may_from netlist parts 0 begun (λ k host at.
    (let is = begun_at plan netlist k begun host are at in
    let inside = slice_get_within begun k host at in
    let own = linked.hosts k (omega (arith, inside, many)) in
    let tell = all_can_tell netlist (host.port.word_bytes * 8) k parts (routes_of plan.system k) (λ j route there. can_tell plan netlist begun parts k host route linked all at (own.links j route there)) in
    let lone = lone_way plan netlist parts k host linked.ends (λ j route there. seat_on plan netlist begun parts k host route linked all at (own.links j route there)) is in
    let may = may_finish plan netlist parts k host is lone (subst (λ (rs : List Route). length rs ≤ 32) (sym is.routes) own.few) (subst (AllCanTell netlist (host.port.word_bytes * 8) k parts) (sym is.routes) tell) in
    subst (λ n. MayFinish netlist parts n host) (omega arith) may))

-- A begun host that nothing bounds next to it: its only agent, once joined, bounds its reads.
use Rattle.std.proofs.Common.{◌≡◌, ℕ, suc, Bool, true, false, cond, if◌then◌else◌, nat_eq, List, [], ◌∷◌, map, filter, find, slice_get, Option, Some, None, refl, sym, subst, ap, ◌∙◌}
use Rattle.std.specs.Option.{option_map_or}
use Rattle.std.proofs.lemmas.Bool.{and_parts, eqb-true, eq-eqb, false≢true}
use Rattle.std.proofs.lemmas.Option.{same_Some, none-some}
use Rattle.iface_roles.specs.declared.records.AgentPort.{AgentPort}
use Rattle.iface_roles.specs.declared.records.HostPort.{HostPort}
use Rattle.link_rules.specs.declared.plan_connections.MemoryConnection.{MemoryConnection}
use Rattle.link_rules.specs.PlanConnections.{memory_connections}
use Rattle.link_rules.specs.Plans.{PlanTable}
use Rattle.netlist.specs.Netlists.{Netlist}
use Rattle.memory_runs.specs.declared.sides.route.Route.{Route}
use Rattle.memory_plans.specs.Routes.{route_of, routes_of}
use Rattle.command_nets.specs.declared.nets.CommandNets.{CommandNets}
use Rattle.mm_route.specs.Entries.{is_lone}
use Rattle.mm_host.specs.Hosts.{reads_words}
use Rattle.mm_host.specs.Reads.{is_unbounded}
use Rattle.memory_plans.specs.Maps.{IsHostOf, IsAgentOf, JoinsEnds}
use Rattle.mm_width.specs.Pairs.{is_wire_pair}
use Rattle.mm_fabric.specs.declared.begun.BegunHost.{BegunHost}
use Rattle.mm_fabric.specs.declared.parts.AgentPart.{AgentPart}
use Rattle.mm_fabric.specs.declared.parts.Seat.{Seat}
use Rattle.mm_fabric.specs.Wide.{ShowsBeatOf, IsSeated}
use Rattle.mm_fabric.specs.Bounds.{bears_few, bears_link, first_link, first_bears_few, needs_no_count}
use Rattle.mm_fabric.specs.Begun.{IsBegun}
use Rattle.mm_fabric.specs.Asks.{command_to}
use Rattle.mm_fabric.specs.Tells.{HasSeat}
use Rattle.mm_fabric.specs.Lone.{BoundsReads, IsLoneWay}
use Rattle.mm_fabric.proofs.Linking.{same_host, same_agent}

-- the first of two lists that are one
head_same : {X : Type 0} (x y : X) (xs ys : List X) → x ∷ xs ≡ y ∷ ys → x ≡ y
head_same x y xs ys e = cc

-- ---- what a search finds

-- it is there, and passes
record Found {X : Type 0} (p : X → Bool) (xs : List X) (x : X) : Type 0 where
  number : ℕ
  there : slice_get xs number ≡ Some x
  passes : p x ≡ true

found : {X : Type 0} (p : X → Bool) (xs : List X) (x : X) → find p xs ≡ Some x → Found p xs x
found p [] x e = absurd (none-some x e)
found {X} p (first ∷ later) x e = by (p first) refl e (found p later x)
  where
    by : (b : Bool) → p first ≡ b → cond b (Some first) (find p later) ≡ Some x → (find p later ≡ Some x → Found p later x) → Found p (first ∷ later) x
    by true own is rest = let same = same_Some first x is in record { number = 0; there = is; passes = ap p (sym same) ∙ own }
    by false other is rest = let one = rest is in record { number = suc one.number; there = one.there; passes = one.passes }

-- what is made of all that pass, if it is one alone, is made of the first
first_made : {X Y : Type 0} (p : X → Bool) (f : X → Y) (xs : List X) (x : X) (y : Y) → find p xs ≡ Some x → map f (filter p xs) ≡ y ∷ [] → f x ≡ y
first_made p f [] x y e made = absurd (none-some x e)
first_made {X} {Y} p f (first ∷ later) x y e made = by (p first) e made (first_made p f later x y)
  where
    by : (b : Bool) → cond b (Some first) (find p later) ≡ Some x → map f (cond b (first ∷ filter p later) (filter p later)) ≡ y ∷ [] → (find p later ≡ Some x → map f (filter p later) ≡ y ∷ [] → f x ≡ y) → f x ≡ y
    by true is one rest = let same = same_Some first x is in ap f (sym same) ∙ head_same (f first) y (map f (filter p later)) [] one
    by false is one rest = rest is one

-- ---- the link of the host

-- the host's first link is there, and its agent bears few reads
record IsFirstLink (plan : PlanTable) (host : ℕ) (link : MemoryConnection) : Type 0 where
  first : first_link host (memory_connections plan.system) ≡ Some link
  bears : bears_link plan link ≡ true

first_link_of : (plan : PlanTable) (host : ℕ) → first_bears_few plan host ≡ true → (link : MemoryConnection) × IsFirstLink plan host link
first_link_of plan host h = by (first_link host (memory_connections plan.system)) refl h
  where
    by : (o : Option MemoryConnection) → first_link host (memory_connections plan.system) ≡ o → option_map_or (bears_link plan) o false ≡ true → (link : MemoryConnection) × IsFirstLink plan host link
    by None e none = absurd (false≢true none)
    by (Some link) e bears = (link, record { first = e; bears = bears })

only_route : (entries : List Route) (width : ℕ) → is_lone entries width ≡ true → (route : Route) × (entries ≡ route ∷ [])
only_route [] width lone = absurd (false≢true lone)
only_route (entry ∷ []) width lone = (entry, refl)
only_route (entry ∷ other ∷ later) width lone = absurd (false≢true lone)

-- ---- its seat

-- the host has this seat at the agent of a route, where its command for the agent leads, and the agent bounds its reads
pub record IsSeatOn (plan : PlanTable) (netlist : Netlist) (parts : List AgentPart) (number : ℕ) (begun : BegunHost) (route : Route) : Type 0 where
  pub seat : Seat
  pub has : HasSeat number parts route seat
  pub port : IsAgentOf plan route.agent has.part.port
  pub command : CommandNets
  pub leads : command_to route.agent begun.routes begun.commands.items ≡ Some command
  pub seated : IsSeated netlist has.part.port (record { port = begun.port; command = command }) seat
  pub bounds : BoundsReads netlist plan.system.stages has.part

-- the link of the only route of a host, a wire to an agent that bears few
record IsOwnLink (plan : PlanTable) (number : ℕ) (route : Route) (link : MemoryConnection) : Type 0 where
  leads : link.agent_number ≡ route.agent
  host : IsHostOf plan number link.host
  agent : IsAgentOf plan route.agent link.agent
  bears : bears_few plan.system.stages link.agent ≡ true
  wire : is_wire_pair link.host link.agent ≡ true

own_link : (plan : PlanTable) (number : ℕ) (routes : List Route) (route : Route) → ((k : ℕ) (link : MemoryConnection) → slice_get (memory_connections plan.system) k ≡ Some link → JoinsEnds plan link) → routes ≡ routes_of plan.system number → routes ≡ route ∷ [] → (link : MemoryConnection) → IsFirstLink plan number link →
    IsOwnLink plan number route link
own_link plan number routes route joins mapped only link chosen =
    let test : MemoryConnection → Bool = λ (l : MemoryConnection). nat_eq l.host_number number in
    let own = found test (memory_connections plan.system) link chosen.first in
    let leads : route_of link ≡ route = first_made test route_of (memory_connections plan.system) link route chosen.first (sym mapped ∙ only) in
    let agent_is : link.agent_number ≡ route.agent = ap (λ (r : Route). r.agent) leads in
    let wired = and_parts (bears_few plan.system.stages link.agent) (is_wire_pair link.host link.agent) chosen.bears in
    let ends = joins own.number link own.there in
    record {
      leads = agent_is;
      host = subst (λ n. IsHostOf plan n link.host) (eqb-true link.host_number number own.passes) ends.host;
      agent = subst (λ n. IsAgentOf plan n link.agent) agent_is ends.agent;
      bears = wired.0;
      wire = wired.1;
    }

-- the only command of the host is the one that leads there
only_command : (routes : List Route) (commands : List CommandNets) (route : Route) (command other : CommandNets) → routes ≡ route ∷ [] → commands ≡ command ∷ [] → command_to route.agent routes commands ≡ Some other → other ≡ command
only_command routes commands route command other only one leads =
    let own : nat_eq route.agent route.agent ≡ true = eq-eqb route.agent route.agent refl in
    let found : command_to route.agent (route ∷ []) (command ∷ []) ≡ Some other = subst (λ (cs : List CommandNets). command_to route.agent (route ∷ []) cs ≡ Some other) one (subst (λ (rs : List Route). command_to route.agent rs commands ≡ Some other) only leads) in
    sym (same_Some command other (sym (ap (λ b. if b then Some command else None) own) ∙ found))

own_way : (plan : PlanTable) (netlist : Netlist) (parts : List AgentPart) (number : ℕ) (begun : BegunHost) (route : Route) (link : MemoryConnection) → is_lone begun.routes begun.trunk.host.command.address.width ≡ true → begun.routes ≡ route ∷ [] → IsHostOf plan number begun.port →
    IsOwnLink plan number route link → IsSeatOn plan netlist parts number begun route → IsLoneWay netlist parts number begun
own_way plan netlist parts number begun route link lone only port own is =
    let hosts : link.host ≡ begun.port = same_host plan number link.host begun.port own.host port in
    let agents : link.agent ≡ is.has.part.port = same_agent plan route.agent link.agent is.has.part.port own.agent is.port in
    let wire : is_wire_pair begun.port is.has.part.port ≡ true = subst (λ (p : HostPort). is_wire_pair p is.has.part.port ≡ true) hosts (subst (λ (p : AgentPort). is_wire_pair link.host p ≡ true) agents own.wire) in
    let meets = is.seated.meets.wire wire in
    record {
      lone = lone;
      route = route;
      only = only;
      seat = is.seat;
      has = is.has;
      beat = λ command one. subst (λ (c : CommandNets). ShowsBeatOf netlist c is.seat.command) (only_command begun.routes begun.commands.items route command is.command only one is.leads) meets.0;
      back = meets.1;
      stages = plan.system.stages;
      bears = subst (λ (p : AgentPort). bears_few plan.system.stages p ≡ true) agents own.bears;
      bounds = is.bounds;
    }

pub lone_way : (plan : PlanTable) (netlist : Netlist) (parts : List AgentPart) (number : ℕ) (begun : BegunHost) → ((k : ℕ) (link : MemoryConnection) → slice_get (memory_connections plan.system) k ≡ Some link → JoinsEnds plan link) →
    ((k : ℕ) (route : Route) → slice_get (routes_of plan.system number) k ≡ Some route → IsSeatOn plan netlist parts number begun route) → IsBegun plan netlist number begun → is_unbounded begun.trunk.host.reads ≡ true → IsLoneWay netlist parts number begun
lone_way plan netlist parts number begun joins seats is free =
    let width = begun.trunk.host.command.address.width in
    let needs = (and_parts (reads_words begun.port) (needs_no_count plan number begun.routes width) (sym is.bounds ∙ free)).1 in
    let both = and_parts (is_lone begun.routes width) (first_bears_few plan number) needs in
    let route = only_route begun.routes width both.0 in
    let link = first_link_of plan number both.1 in
    let own = own_link plan number begun.routes route.0 joins is.routes route.1 link.0 link.1 in
    let there : slice_get (routes_of plan.system number) 0 ≡ Some route.0 = ap (λ (rs : List Route). slice_get rs 0) (sym is.routes ∙ route.1) in
    own_way plan netlist parts number begun route.0 link.0 both.0 route.1 is.port own (seats 0 route.0 there)

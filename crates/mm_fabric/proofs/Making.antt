-- What the three phases make is the fabric of the plan.
use Rattle.std.proofs.Common.{◌≡◌, ℕ, zero, suc, ◌+◌, ◌<◌, Bool, true, false, cond, nat_eq, List, [], ◌∷◌, length, map, Some, slice_get, refl, sym, subst, ap, ◌∙◌, arith}
use Rattle.std.specs.List.{AllZip}
use Rattle.std.proofs.lemmas.Bool.{eqb-true}
use Rattle.std.proofs.lemmas.Option.{same_Some, none-some}
use Rattle.iface_roles.specs.declared.records.AgentPort.{AgentPort}
use Rattle.iface_roles.specs.declared.records.HostPort.{HostPort}
use Rattle.address_map.specs.Maps.{agents_of}
use Rattle.link_rules.specs.Plans.{PlanTable}
use Rattle.netlist.specs.Netlists.{Netlist}
use Rattle.memory_runs.specs.declared.sides.route.Route.{Route}
use Rattle.memory_plans.specs.Routes.{routes_of}
use Rattle.memory_plans.specs.Systems.{memory_system}
use Rattle.memory_machines.specs.Turns.{seats_of}
use Rattle.command_nets.specs.declared.nets.CommandNets.{CommandNets}
use Rattle.mm_arbiter.specs.declared.asker.Asker.{Asker}
use Rattle.mm_arbiter.specs.Machine.{seats_from}
use Rattle.memory_plans.specs.Maps.{IsHostOf}
use Rattle.mm_width.specs.Pairs.{MayMeet}
use Rattle.mm_fabric.specs.declared.begun.BegunHost.{BegunHost}
use Rattle.mm_fabric.specs.declared.begun.HostEnd.{HostEnd}
use Rattle.mm_fabric.specs.declared.fabric.FabricParts.{FabricParts}
use Rattle.mm_fabric.specs.declared.parts.AgentPart.{AgentPart}
use Rattle.mm_fabric.specs.declared.parts.HostPart.{HostPart}
use Rattle.mm_fabric.specs.declared.parts.Seat.{Seat}
use Rattle.mm_fabric.specs.declared.parts.Way.{Way}
use Rattle.mm_fabric.specs.Parts.{IsHostPart, Meets, askers_of, commands_below, backs_below}
use Rattle.mm_fabric.specs.Fabrics.{AreJoined, way_to, seat_of}
use Rattle.mm_fabric.specs.Asks.{command_to}
use Rattle.mm_fabric.specs.Begun.{IsBegun, AreBegun}
use Rattle.mm_fabric.specs.Begun.{end_of as begun_end_of}
use Rattle.mm_fabric.specs.Joined.{IsJoined}
use Rattle.mm_fabric.specs.Tells.{IsBackFor}
use Rattle.mm_fabric.specs.Finished.{IsFinished, AreFinished}
use Rattle.mm_fabric.specs.Ends.{AreParts, host_end_of}
use Rattle.mm_fabric.specs.Links.{HasLinkBetween, IsLinkedPlan}
use Rattle.mm_fabric.proofs.Ways.{AreWaysOf, head_or, tail_of}
use Rattle.mm_fabric.proofs.Linking.{same_host, same_agent}
use Rattle.mm_fabric.proofs.Phases.{begun_at, joined_at, joined_seat, AsksAt, asks_at, AreAllJoined}

-- ---- finished hosts by their numbers

-- a finished host, and the begun one
record FinishedAt (netlist : Netlist) (parts : List AgentPart) (number k : ℕ) (begun : List BegunHost) (part : HostPart) : Type 0 where
  host : BegunHost
  at : slice_get begun k ≡ Some host
  is : IsFinished netlist parts number host part

finished_from : (netlist : Netlist) (parts : List AgentPart) (from k : ℕ) (begun : List BegunHost) (hosts : List HostPart) (part : HostPart) → AreFinished netlist parts from begun hosts → slice_get hosts k ≡ Some part → FinishedAt netlist parts (from + k) k begun part
finished_from netlist parts from k [] [] part are at = absurd (none-some part at)
finished_from netlist parts from k [] (first ∷ hosts) part are at = absurd are
finished_from netlist parts from k (b ∷ begun) [] part are at = absurd are
finished_from netlist parts from zero (b ∷ begun) (first ∷ hosts) part are at =
    record { host = b; at = refl; is = subst (λ n. IsFinished netlist parts n b part) (omega arith) (subst (IsFinished netlist parts from b) (same_Some first part at) are.0) }
finished_from netlist parts from (suc k) (b ∷ begun) (first ∷ hosts) part are at =
    let later = finished_from netlist parts (from + 1) k begun hosts part are.1 at in
    record { host = later.host; at = later.at; is = subst (λ n. IsFinished netlist parts n later.host part) (omega arith) later.is }

finished_at : (netlist : Netlist) (parts : List AgentPart) (k : ℕ) (begun : List BegunHost) (hosts : List HostPart) (part : HostPart) → AreFinished netlist parts 0 begun hosts → slice_get hosts k ≡ Some part → FinishedAt netlist parts k k begun part
finished_at netlist parts k begun hosts part are at = subst (λ n. FinishedAt netlist parts n k begun part) (omega arith) (finished_from netlist parts 0 k begun hosts part are at)

-- the ends of finished hosts are those of the begun ones
pub ends_stay : (netlist : Netlist) (parts : List AgentPart) (from : ℕ) (begun : List BegunHost) (hosts : List HostPart) → AreFinished netlist parts from begun hosts → map host_end_of hosts ≡ map begun_end_of begun
ends_stay netlist parts from [] [] are = refl
ends_stay netlist parts from [] (host ∷ hosts) are = absurd are
ends_stay netlist parts from (b ∷ begun) [] are = absurd are
ends_stay netlist parts from (b ∷ begun) (host ∷ hosts) are =
    let port = are.0.port in
    let nets = are.0.nets in
    let first : host_end_of host ≡ begun_end_of b = rw (port, nets) refl in
    ap (λ (e : HostEnd). e ∷ map host_end_of hosts) first ∙ ap (λ (es : List HostEnd). begun_end_of b ∷ es) (ends_stay netlist parts (from + 1) begun hosts are.1)

-- ---- the way of a host to an agent

-- a way with this command, and what comes back along its route
record LeadsBack (host agent : ℕ) (parts : List AgentPart) (ways : List Way) (command : CommandNets) : Type 0 where
  way : Way
  found : way_to agent ways ≡ Some way
  shows : way.command ≡ command
  route : Route
  leads : route.agent ≡ agent
  back : IsBackFor host parts route way.back

leads_back : (host agent : ℕ) (parts : List AgentPart) (routes : List Route) (ways : List Way) (command : CommandNets) → AreWaysOf routes ways → AllZip (IsBackFor host parts) routes (backs_below ways) → command_to agent routes (commands_below ways) ≡ Some command → LeadsBack host agent parts ways command
leads_back host agent parts [] ways command are backs found = absurd (none-some command found)
leads_back host agent parts (route ∷ routes) [] command are backs found = absurd (none-some command found)
leads_back host agent parts (route ∷ routes) (first ∷ ways) command are backs found = by (nat_eq route.agent agent) refl found (leads_back host agent parts routes ways command (ap tail_of are) backs.1)
  where
    same : nat_eq first.agent agent ≡ nat_eq route.agent agent
    same = ap (λ n. nat_eq n agent) (ap head_or are)

    by : (b : Bool) → nat_eq route.agent agent ≡ b → cond b (Some first.command) (command_to agent routes (commands_below ways)) ≡ Some command → (command_to agent routes (commands_below ways) ≡ Some command → LeadsBack host agent parts ways command)
        → LeadsBack host agent parts (first ∷ ways) command
    by true own is rest = record {
      way = first;
      found = ap (λ b. cond b (Some first) (way_to agent ways)) (same ∙ own);
      shows = same_Some first.command command is;
      route = route;
      leads = eqb-true route.agent agent own;
      back = backs.0;
    }
    by false other is rest =
        let more = rest is in
        record { way = more.way; found = ap (λ b. cond b (Some first) (way_to agent ways)) (same ∙ other) ∙ more.found; shows = more.shows; route = more.route; leads = more.leads; back = more.back }

-- ---- all of it

-- hosts begun and agents joined in one netlist, and the hosts finished in a longer one
pub record AreMade (plan : PlanTable) (old new : Netlist) (begun : List BegunHost) (parts : FabricParts) : Type 0 where
  pub linked : IsLinkedPlan plan
  pub hosts : AreBegun plan old 0 begun
  pub agents : AreAllJoined plan new begun parts.agents
  pub finished : AreFinished new parts.agents 0 begun parts.hosts

module _ (plan : PlanTable) (old new : Netlist) (begun : List BegunHost) (parts : FabricParts) (made : AreMade plan old new begun parts) where
  module _ (h : ℕ) (above : HostPart) (at : slice_get parts.hosts h ≡ Some above) where
    ended : FinishedAt new parts.agents h h begun above
    ended = finished_at new parts.agents h begun parts.hosts above made.finished at

    began : IsBegun plan old h ended.host
    began = begun_at plan old h begun ended.host made.hosts ended.at

    host_port : IsHostOf plan h above.port
    host_port = subst (IsHostOf plan h) (sym ended.is.port) began.port

    host_part : IsHostPart new h (routes_of plan.system h) above
    host_part = subst (λ (rs : List Route). IsHostPart new h rs above) began.routes ended.is.is

    module _ (a : ℕ) (below : AgentPart) (there : slice_get parts.agents a ≡ Some below) (link : HasLinkBetween plan h a) where
      joined_part : IsJoined plan new begun a below
      joined_part = joined_at plan new begun a parts.agents below made.agents.each there

      seated : (seat : Seat) × (seat_of h below.seats ≡ Some seat)
      seated = joined_seat plan new begun h a below made.linked link joined_part

      -- its links lead from the command of this host
      asks : AsksAt new below.port a ended.host seated.0
      asks = asks_at new below.port a h begun _ below.seats seated.0 ended.host joined_part.seats joined_part.askers seated.1 ended.at

      way_back : LeadsBack h a parts.agents above.ways asks.command
      way_back = leads_back h a parts.agents ended.host.routes above.ways asks.command ended.is.is.agents ended.is.backs
          (subst (λ (cs : List CommandNets). command_to a ended.host.routes cs ≡ Some asks.command) (sym ended.is.commands) asks.leads)

      -- what comes back is what the links of the seat tell
      same_back : way_back.way.back ≡ seated.0.told
      same_back =
          let b = way_back.back in
          let part : b.has.part ≡ below = same_Some b.has.part below (sym (subst (λ n. slice_get parts.agents n ≡ Some b.has.part) way_back.leads b.has.at) ∙ there) in
          let found : seat_of h below.seats ≡ Some b.seat = subst (λ (p : AgentPart). seat_of h p.seats ≡ Some b.seat) part b.has.leads in
          let seat : b.seat ≡ seated.0 = same_Some b.seat seated.0 (sym found ∙ seated.1) in
          b.is ∙ ap (λ (s : Seat). s.told) seat

      are_joined : AreJoined new h a above below
      are_joined =
          let own = same_host plan h link.link.host above.port link.host_port host_port in
          let other = same_agent plan a link.link.agent below.port link.agent_port (made.agents.ports a below there) in
          record {
            way = way_back.way;
            way_is = way_back.found;
            seat = seated.0;
            seat_is = seated.1;
            meets = subst (λ (c : CommandNets). Meets new above.port below.port c seated.0) (sym way_back.shows) (subst (λ (p : HostPort). Meets new p below.port asks.command seated.0) (sym ended.is.port) asks.seated.meets);
            back = same_back;
            pair = subst (λ (p : HostPort). MayMeet p below.port) own (subst (λ (p : AgentPort). MayMeet link.link.host p) other link.pair);
          }

  seats_are : (a : ℕ) (below : AgentPart) → a < length (agents_of plan.system) → slice_get parts.agents a ≡ Some below → seats_from (askers_of below.seats) ≡ seats_of (memory_system plan) a
  seats_are a below inside there = ap (λ (askers : List Asker). seats_from askers) (joined_at plan new begun a parts.agents below made.agents.each there).askers ∙ (made.linked.agents a inside).seats

  pub are_parts : AreParts plan new parts
  are_parts fabric has = record {
    host_port = λ h low. host_port h (fabric.host h) (has.hosts h low);
    host = λ h low. host_part h (fabric.host h) (has.hosts h low);
    agent_port = λ a low. made.agents.ports a (fabric.agent a) (has.agents a low);
    agent = λ a low. (joined_at plan new begun a parts.agents (fabric.agent a) made.agents.each (has.agents a low)).is;
    seats = λ a low. seats_are a (fabric.agent a) low (has.agents a low);
    joined = λ h a low there joined. are_joined h (fabric.host h) (has.hosts h low) a (fabric.agent a) (has.agents a there) (made.linked.joints h a joined);
  }

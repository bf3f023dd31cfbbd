-- A host and its route with the ways below them are what stands next to a host.
use Rattle.std.proofs.Common.{◌≡◌, ℕ, true, List, sym, subst, inl, inr}
use Rattle.iface_roles.specs.declared.records.HostPort.{HostPort}
use Rattle.iface_roles.specs.Proper.{IsBoundedHost}
use Rattle.netlist.specs.Netlists.{Netlist}
use Rattle.netlist.specs.Longer.{Extends}
use Rattle.net_parts.specs.Nets.{IsRegister}
use Rattle.memory_runs.specs.declared.sides.route.Route.{Route}
use Rattle.command_nets.specs.declared.nets.CommandNets.{CommandNets}
use Rattle.mm_route.specs.declared.back.BackNets.{BackNets}
use Rattle.mm_route.specs.Forward.{RouteForward, forward_lasts}
use Rattle.mm_route.specs.Machine.{RunsAsMachine}
use Rattle.mm_route.specs.Entries.{is_lone}
use Rattle.mm_route.specs.Lone.{RunsAsWire}
use Rattle.mm_host.specs.Reads.{is_unbounded}
use Rattle.mm_host.specs.Forms.{AreAnswersTo, RunsAsHostWhile, held_lasts}
use Rattle.mm_fabric.specs.declared.trunk.Trunk.{Trunk}
use Rattle.mm_fabric.specs.declared.trunk.Told.{Told}
use Rattle.mm_fabric.specs.Trunks.{room_bits}
use Rattle.mm_fabric.specs.Trunks.{owns, IsTrunk, ignores_lasts}
use Rattle.mm_fabric.specs.declared.parts.Way.{Way}
use Rattle.mm_fabric.specs.Parts.{IsHostPart, backs_below}
use Rattle.mm_fabric.specs.Ways.{AreWaysOf}
use Rattle.mm_fabric.specs.Lone.{IsBoundedRoute}
use Rattle.mm_fabric.proofs.LoneHosts.{bounded_lasts, lone_host_runs}

-- what stands when each is made
pub record StandsNext (old done : Netlist) (number : ℕ) (port : HostPort) (routes : List Route) (commands : List CommandNets) (backs : List BackNets) (count : ℕ) (trunk : Trunk) (told : Told) : Type 0 where
  pub bounded : IsBoundedHost port
  pub trunk_is : IsTrunk old port count trunk
  pub reads : is_unbounded trunk.host.reads ≡ true → IsBoundedRoute old routes trunk.host.command commands backs
  pub forward : RouteForward routes number trunk.host.command commands trunk.route old
  pub grows : Extends old done
  pub told_is : AreAnswersTo done port told.host
  pub host : RunsAsHostWhile done port trunk.host told.wait told.answer told.host
  pub route : RunsAsMachine done routes number trunk.host.command commands (room_bits port) backs told.wait told.answer
  pub wire : is_lone routes trunk.host.command.address.width ≡ true → RunsAsWire done trunk.route trunk.host.command commands backs told.wait told.answer
  pub registers : (n : ℕ) → owns trunk n → IsRegister done n

pub host_part_is : (old done : Netlist) (number : ℕ) (port : HostPort) (routes : List Route) (commands : List CommandNets) (backs : List BackNets) (count : ℕ) (trunk : Trunk) (told : Told) (ways : List Way) →
    StandsNext old done number port routes commands backs count trunk told → AreWaysOf routes commands backs ways →
    IsHostPart done number routes (record { port = port; held = trunk.host; route = trunk.route; ways = ways; wait = told.wait; answer = told.answer; told = told.host })
host_part_is old done number port routes commands backs count trunk told ways h w = record {
  bounded = h.bounded;
  held = held_lasts old done port trunk.host h.trunk_is.held h.grows;
  told = h.told_is;
  host_registers = λ n o. h.registers n (inl o);
  host_ignores = ignores_lasts old done trunk h.trunk_is.ignores h.grows;
  host_runs = lone_host_runs done port trunk.host told.host routes commands backs trunk.route told.wait told.answer (λ free. bounded_lasts old done routes trunk.host.command commands backs (h.reads free) h.grows) h.wire h.host;
  agents = w.agents;
  route_registers = λ n o. h.registers n (inr o);
  route = subst (λ (cs : List CommandNets). RouteForward routes number trunk.host.command cs trunk.route done) (sym w.commands_are) (forward_lasts routes number trunk.host.command commands trunk.route old done h.forward h.grows);
  route_runs = subst (λ (cs : List CommandNets). RunsAsMachine done routes number trunk.host.command cs (room_bits port) (backs_below ways) told.wait told.answer) (sym w.commands_are)
      (subst (λ (bs : List BackNets). RunsAsMachine done routes number trunk.host.command commands (room_bits port) bs told.wait told.answer) (sym w.backs_are) h.route);
}

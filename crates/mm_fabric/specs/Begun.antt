-- The hosts of a plan with their routes, which wait for what comes back from the agents.
use Rattle.std.specs.Prelude.{◌≡◌, ℕ, ◌+◌, ◌*◌, ◌≤◌, ◌⊎◌, ◌&&◌, List, [], ◌∷◌, length, map, take}
use Rattle.iface_roles.specs.Proper.{IsBoundedHost}
use Rattle.link_rules.specs.Plans.{PlanTable}
use Rattle.netlist.specs.Netlists.{Netlist}
use Rattle.net_parts.specs.Growth.{GrowsBy, StillWait, WaitsBeside, AreMadeBetween}
use Rattle.memory_plans.specs.Routes.{routes_of}
use Rattle.mm_route.specs.Shown.{AreCommandsOf, widths_below}
use Rattle.mm_route.specs.Forward.{RouteForward, forward_nets}
use Rattle.mm_host.specs.Hosts.{AreHostNets, reads_words}
use Rattle.mm_host.specs.Reads.{is_unbounded}
use Rattle.memory_plans.specs.Maps.{IsHostOf}
use Rattle.mm_fabric.specs.Trunks.{owns, IsTrunk}
use Rattle.mm_fabric.specs.Bounds.{needs_no_count}
use Rattle.mm_fabric.specs.declared.begun.HostEnd.{HostEnd}
use Rattle.mm_fabric.specs.declared.begun.BegunHost.{BegunHost}

-- ---- what is given

-- the ports of the host of this number and its nets; it has a route, and 32 at most
pub record IsHostEnd (plan : PlanTable) (netlist : Netlist) (number : ℕ) (end : HostEnd) : Type 0 where
  pub port : IsHostOf plan number end.port
  pub bounded : IsBoundedHost end.port
  pub nets : AreHostNets netlist end.port end.nets
  pub some : 1 ≤ length (routes_of plan.system number)
  pub few : length (routes_of plan.system number) ≤ 32

-- those of the hosts from this number on
abbrev pub AreHostEnds : PlanTable → Netlist → ℕ → List HostEnd → Type 0
AreHostEnds plan netlist number [] = Unit {0}
AreHostEnds plan netlist number (end ∷ ends) = IsHostEnd plan netlist number end × AreHostEnds plan netlist (number + 1) ends

-- ---- what is made

-- host and route stand, and their registers wait
pub record IsBegun (plan : PlanTable) (netlist : Netlist) (number : ℕ) (begun : BegunHost) : Type 0 where
  pub port : IsHostOf plan number begun.port
  pub bounded : IsBoundedHost begun.port
  pub routes : begun.routes ≡ routes_of plan.system number
  pub trunk : IsTrunk netlist begun.port (length begun.routes) begun.trunk
  -- the reads are bounded next to the host unless its only agent bounds them
  pub bounds : is_unbounded begun.trunk.host.reads
      ≡ (reads_words begun.port && needs_no_count plan number begun.routes begun.trunk.host.command.address.width)
  pub forward : RouteForward begun.routes number begun.trunk.host.command begun.commands.items begun.trunk.route netlist
  pub commands : AreCommandsOf netlist (widths_below begun.trunk.host.command 4) begun.commands.items

abbrev pub AreBegun : PlanTable → Netlist → ℕ → List BegunHost → Type 0
AreBegun plan netlist number [] = Unit {0}
AreBegun plan netlist number (begun ∷ later) = IsBegun plan netlist number begun × AreBegun plan netlist (number + 1) later

-- the number is that of a register of one of them
abbrev pub IsOfAny : List BegunHost → ℕ → Type 0
IsOfAny [] n = ⊥
IsOfAny (begun ∷ later) n = owns begun.trunk n ⊎ IsOfAny later n

-- no two have a register in common
abbrev pub AreApart : List BegunHost → Type 0
AreApart [] = Unit {0}
AreApart (begun ∷ later) = ((n : ℕ) → owns begun.trunk n → ¬ IsOfAny later n) × AreApart later

abbrev pub end_of : BegunHost → HostEnd
end_of begun = record { port = begun.port; nets = begun.trunk.host.nets }

-- the most nets that a host takes before its agents
abbrev pub begun_nets : ℕ
begun_nets = 51 + forward_nets 32

-- all hosts of these ends are begun
pub record HaveBegun (plan : PlanTable) (old now : Netlist) (ends : List HostEnd) (begun : List BegunHost) : Type 0 where
  pub ends_are : map end_of begun ≡ ends
  pub each : AreBegun plan now 0 begun
  pub apart : AreApart begun
  pub owned : AreMadeBetween (IsOfAny begun) old now
  pub newly : WaitsBeside (IsOfAny begun) old now

-- so many are
pub record HaveBegunSoFar (plan : PlanTable) (old now : Netlist) (ends : List HostEnd) (begun : List BegunHost)
    (count : ℕ) : Type 0 where
  pub begun_are : HaveBegun plan old now (take count ends) begun
  pub grows : GrowsBy (begun_nets * count) old now
  pub waits : StillWait old now

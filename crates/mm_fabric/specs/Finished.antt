-- The hosts of a plan that are finished with what their agents tell.
use Rattle.std.specs.Prelude.{◌≡◌, ℕ, ◌+◌, ◌*◌, ◌≤◌, true, List, [], ◌∷◌, length, take, drop}
use Rattle.std.specs.List.{AllZip}
use Rattle.iface_roles.specs.Proper.{IsBoundedHost}
use Rattle.netlist.specs.Netlists.{Netlist, IsWaiting}
use Rattle.net_parts.specs.Growth.{GrowsInMemory, WaitsWithout, StillWaitForWrite}
use Rattle.mm_route.specs.Forward.{RouteForward}
use Rattle.mm_route.specs.Backward.{backward_nets}
use Rattle.mm_host.specs.Reads.{is_unbounded}
use Rattle.mm_fabric.specs.Trunks.{IsTrunk}
use Rattle.mm_fabric.specs.declared.begun.BegunHost.{BegunHost}
use Rattle.mm_fabric.specs.declared.parts.AgentPart.{AgentPart}
use Rattle.mm_fabric.specs.declared.parts.HostPart.{HostPart}
use Rattle.mm_fabric.specs.Parts.{IsHostPart, commands_below, backs_below}
use Rattle.mm_fabric.specs.Begun.{IsOfAny}
use Rattle.mm_fabric.specs.Tells.{IsBackFor, AllCanTell}
use Rattle.mm_fabric.specs.Lone.{IsLoneWay}

-- ---- what is given

-- host and route stand and wait, and the agents of its routes have a seat for it; where nothing next to it bounds its reads, its
-- only agent does
pub record MayFinish (netlist : Netlist) (parts : List AgentPart) (number : ℕ) (begun : BegunHost) : Type 0 where
  pub bounded : IsBoundedHost begun.port
  pub trunk : IsTrunk netlist begun.port (length begun.routes) begun.trunk
  pub lone : is_unbounded begun.trunk.host.reads ≡ true → IsLoneWay netlist parts number begun
  pub few : length begun.routes ≤ 32
  pub forward : RouteForward begun.routes number begun.trunk.host.command begun.commands.items begun.trunk.route netlist
  pub tell : AllCanTell netlist (begun.port.word_bytes * 8) number parts begun.routes

-- those from this number on
abbrev pub AllMayFinish : Netlist → List AgentPart → ℕ → List BegunHost → Type 0
AllMayFinish netlist parts number [] = Unit {0}
AllMayFinish netlist parts number (begun ∷ later) =
    MayFinish netlist parts number begun × AllMayFinish netlist parts (number + 1) later

-- ---- what is made

-- the part stands, with the host's own nets, the commands that it had, and what its agents tell
pub record IsFinished (netlist : Netlist) (parts : List AgentPart) (number : ℕ) (begun : BegunHost)
    (part : HostPart) : Type 0 where
  pub is : IsHostPart netlist number begun.routes part
  pub port : part.port ≡ begun.port
  pub nets : part.held.nets ≡ begun.trunk.host.nets
  pub commands : commands_below part.ways ≡ begun.commands.items
  pub backs : AllZip (IsBackFor number parts) begun.routes (backs_below part.ways)

abbrev pub AreFinished : Netlist → List AgentPart → ℕ → List BegunHost → List HostPart → Type 0
AreFinished netlist parts number [] [] = Unit {0}
AreFinished netlist parts number (begun ∷ later) (host ∷ hosts) =
    IsFinished netlist parts number begun host × AreFinished netlist parts (number + 1) later hosts
AreFinished netlist parts number begun hosts = ⊥

-- the most nets that a host takes behind its agents
abbrev pub finished_nets : ℕ
finished_nets = backward_nets 32 + 171

-- the first hosts are finished, and the others may be
pub record AreFinishedSoFar (old now : Netlist) (parts : List AgentPart) (begun : List BegunHost) (hosts : List HostPart)
    (count : ℕ) : Type 0 where
  pub made : AreFinished now parts 0 (take count begun) hosts
  pub rest : AllMayFinish now parts count (drop count begun)
  pub grows : GrowsInMemory (finished_nets * count) count old now
  pub waits : (n : ℕ) → ¬ IsOfAny begun n → IsWaiting old n → IsWaiting now n
  pub no_more_wait : WaitsWithout (IsOfAny (take count begun)) old now
  pub waits_for_write : StillWaitForWrite old now
  pub no_more_wait_for_write : StillWaitForWrite now old

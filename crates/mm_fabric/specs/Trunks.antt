-- A host and its route between their calls.
use Rattle.std.specs.Prelude.{ℕ, ◌+◌, ◌⊎◌}
use Rattle.std.proofs.Common.{inl, inr}
use Rattle.iface_roles.specs.declared.records.HostPort.{HostPort}
use Rattle.netlist.specs.Netlists.{Netlist, IsWaiting}
use Rattle.netlist.specs.Longer.{Extends}
use Rattle.memory_runs.specs.Sides.{burst_width}
use Rattle.mm_route.specs.Forward.{RouteKeeps, keeps_lasts}
use Rattle.mm_route.specs.Forward.{owns as owned_by_route}
use Rattle.mm_host.specs.Forms.{IsHeld, IgnoresAnswer, held_lasts}
use Rattle.mm_host.specs.Forms.{owns as owned_by_host}
use Rattle.mm_fabric.specs.declared.trunk.Trunk.{Trunk}

-- the width of the count of words that a host is owed: it holds 16 of its longest bursts
abbrev pub room_bits : HostPort → ℕ
room_bits host = 4 + burst_width host.burst_bits

-- the numbers of the registers
abbrev pub owns : Trunk → ℕ → Type 0
owns trunk n = owned_by_host trunk.host n ⊎ owned_by_route trunk.route n

-- host and route stand, and their registers, which are apart, wait
pub record IsTrunk (netlist : Netlist) (port : HostPort) (routes : ℕ) (trunk : Trunk) : Type 0 where
  pub held : IsHeld netlist port trunk.host
  pub ignores : IgnoresAnswer netlist trunk.host
  pub host_waits : (n : ℕ) → owned_by_host trunk.host n → IsWaiting netlist n
  pub keeps : RouteKeeps trunk.route routes (room_bits port) netlist
  pub apart : (n : ℕ) → owned_by_host trunk.host n → ¬ owned_by_route trunk.route n

-- ---- what stands lasts. No contract reads these proofs

pub ignores_lasts : (old new : Netlist) (trunk : Trunk) → IgnoresAnswer old trunk.host → Extends old new
    → IgnoresAnswer new trunk.host
ignores_lasts old new trunk h e one other v w = h one other (e.valuations one v) (e.valuations other w)

-- so long as its registers wait
pub trunk_lasts : (old new : Netlist) (port : HostPort) (routes : ℕ) (trunk : Trunk) → IsTrunk old port routes trunk
    → Extends old new → ((n : ℕ) → owns trunk n → IsWaiting old n → IsWaiting new n) → IsTrunk new port routes trunk
trunk_lasts old new port routes trunk h e w = record {
  held = held_lasts old new port trunk.host h.held e;
  ignores = ignores_lasts old new trunk h.ignores e;
  host_waits = λ n o. w n (inl o) (h.host_waits n o);
  keeps = keeps_lasts trunk.route routes (room_bits port) old new h.keeps e (λ n o. w n (inr o));
  apart = h.apart;
}

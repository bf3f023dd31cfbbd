-- The nets at the ports of a host or of an agent, and what they show.
use Rattle.std.specs.Prelude.{◌≡◌, ℕ, ◌-◌, ◌^◌, Bool, true, false, not, ◌&&◌, if◌then◌else◌, Option, Some, None, IfSome}
use Rattle.std.proofs.Common.{refl}
use Rattle.histories.specs.History.{is_raised}
use Rattle.netlist.specs.Nets.{NetValue}
use Rattle.netlist.specs.Netlists.{Netlist}
use Rattle.netlist.specs.Runs.{Cycle, Always}
use Rattle.netlist.specs.Longer.{Extends}
use Rattle.net_parts.specs.Nets.{IsBit, IsNetOfWidth}
use Rattle.net_parts.specs.Laws.{net_lasts}

-- a net of so many bits, exactly where there is a port
abbrev pub HasNet : Netlist → Bool → ℕ → Option NetValue → Type 0
HasNet netlist there bits None = there ≡ false
HasNet netlist there bits (Some net) = (there ≡ true) × IsNetOfWidth netlist net bits

-- the level at a port in a cycle, this one where there is no port
abbrev pub value_or : ℕ → Option NetValue → Cycle → ℕ
value_or level None cycle = level
value_or level (Some net) cycle = cycle.net net.number

abbrev pub all_ones : ℕ → ℕ
all_ones bits = 2 ^ bits - 1

-- a read is shown while this bit is low
abbrev pub ShowsUnless : Netlist → NetValue → NetValue → NetValue → Type 0
ShowsUnless netlist shut read shown =
    Always netlist (λ cycle. is_raised (cycle.net shown.number)
    ≡ (is_raised (cycle.net read.number) && not (is_raised (cycle.net shut.number))))

abbrev pub SameLevel : Option NetValue → Cycle → Cycle → Type 0
SameLevel net one other = IfSome net (λ n. one.net n.number ≡ other.net n.number)

-- ---- laws. No contract reads a proof of these

pub has_lasts : (old new : Netlist) (there : Bool) (bits : ℕ) (net : Option NetValue) → HasNet old there bits net
    → Extends old new → HasNet new there bits net
has_lasts old new there bits None h e = h
has_lasts old new there bits (Some net) h e = (h.0, net_lasts old new net bits e h.1)

pub given : (netlist : Netlist) (there : Bool) (net : NetValue) → IsBit netlist net
    → HasNet netlist there 1 (if there then Some net else None)
given netlist true net h = (refl, h)
given netlist false net h = refl

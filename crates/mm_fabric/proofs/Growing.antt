-- How far a fabric grows, phase by phase.
use Rattle.std.proofs.Common.{◌≡◌, ℕ, ◌+◌, ◌*◌, ◌≤◌, List, ap, add-mul, arith}
use Rattle.netlist.specs.Netlists.{Netlist, IsWaiting}
use Rattle.net_parts.specs.Growth.{AreMadeBetween}
use Rattle.net_parts.specs.Laws.{waiting_within}
use Rattle.mm_fabric.specs.declared.begun.BegunHost.{BegunHost}
use Rattle.mm_fabric.specs.Begun.{IsOfAny}

-- a register that waited before is of no begun host
pub older : (old now : Netlist) (begun : List BegunHost) (n : ℕ) → AreMadeBetween (IsOfAny begun) old now → IsWaiting old n → ¬ IsOfAny begun n
older old now begun n owned w own =
    let within = waiting_within old n w in
    let made = owned n own in
    omega (arith, made.0, within)

-- ---- the nets of the phases are those of the whole

pub two_phases : (first last each link hosts agents links : ℕ) → first * hosts + (each * agents + link * links) ≤ (first + last) * hosts + each * agents + link * links
two_phases first last each link hosts agents links = let parts = add-mul first last hosts in omega (arith, parts)

pub three_phases : (first last each link hosts agents links begun : ℕ) → begun ≡ hosts → first * hosts + (each * agents + link * links) + last * begun ≤ (first + last) * hosts + each * agents + link * links
three_phases first last each link hosts agents links begun same = let parts = add-mul first last hosts in let nets = ap (λ n. last * n) same in omega (arith, parts, nets)

-- How far a netlist grows while a row of places is made or set.
use Rattle.std.proofs.Common.{◌≡◌, ℕ, ◌+◌, ◌*◌, ◌^◌, ◌<◌, ◌≤◌, List, ◌∷◌, length, subst, ◌∙◌, arith}
use Rattle.std.proofs.Math.Nat.{mul-le-mul_left}
use Rattle.netlist.specs.Nets.{NetValue}
use Rattle.netlist.specs.Netlists.{Netlist}
use Rattle.net_parts.specs.declared.places.PlaceNets.{PlaceNets}
use Rattle.net_parts.specs.Growth.{GrowsBy}
use Rattle.net_parts.specs.Laws.{extends_twice, grows_fewer, grows_within}
use Rattle.net_parts.specs.RowLaws.{AreSet, AreMade}

-- ---- setting

-- before a place is set, with the nets that are made for it
pub set_grows : {N : ℕ} (old now new : Netlist) (row rest others : List (PlaceNets N)) (place from : PlaceNets N) (here into comes shift : NetValue) (k : ℕ) → rest ≡ place ∷ others → AreSet old now row rest here into comes shift from → GrowsBy k now new → k ≤ 2 * N + 7 → GrowsBy ((2 * N + 7) * length row) old new
set_grows {N} old now new row rest others place from here into comes shift k e h grows few =
    let whole = subst (λ (rest : List (PlaceNets _)). AreSet old now row rest here into comes shift from) e h in
    record {
      extends = extends_twice old now new h.extends grows.extends;
      most = (let before = whole.most in let more = grows.most in omega arith);
      drivers = grows.drivers ∙ h.drivers;
      memories = grows.memories ∙ h.memories;
    }

-- and where it finds no room for them
pub set_full : {N : ℕ} (old now : Netlist) (row rest others : List (PlaceNets N)) (place from : PlaceNets N) (here into comes shift : NetValue) (k : ℕ) → rest ≡ place ∷ others → AreSet old now row rest here into comes shift from → k ≤ 2 * N + 7 → 2 ^ 20 < length now.lines + k → 2 ^ 20 < length old.lines + (2 * N + 7) * length row
set_full {N} old now row rest others place from here into comes shift k e h few full =
    let most = (subst (λ (rest : List (PlaceNets _)). AreSet old now row rest here into comes shift from) e h).most in
    omega (arith, most, few, full)

-- once some places are set
pub set_all : {N : ℕ} (old now : Netlist) (row rest : List (PlaceNets N)) (from : PlaceNets N) (here into comes shift : NetValue) → AreSet old now row rest here into comes shift from → GrowsBy ((2 * N + 7) * length row) old now
set_all {N} old now row rest from here into comes shift h = record { extends = h.extends; most = (let most = h.most in omega arith); drivers = h.drivers; memories = h.memories }

-- ---- making

-- with one more place
pub made_grows : {N : ℕ} (old now new : Netlist) (like : PlaceNets N) (places : List (PlaceNets N)) (k count : ℕ) → AreMade old now like places k → GrowsBy (N + 1) now new → k < count → GrowsBy ((N + 1) * count) old new
made_grows {N} old now new like places k count h grows lt =
    let next : k + 1 ≤ count = omega arith in
    let most = mul-le-mul_left (N + 1) next in
    grows_within ((N + 1) * k) (N + 1) ((N + 1) * count) old now new h.grows grows (omega (arith, most))

-- once some places are made
pub made_all : {N : ℕ} (old now : Netlist) (like : PlaceNets N) (places : List (PlaceNets N)) (k count : ℕ) → AreMade old now like places k → k ≤ count → GrowsBy ((N + 1) * count) old now
made_all {N} old now like places k count h le = grows_fewer ((N + 1) * k) ((N + 1) * count) old now (mul-le-mul_left (N + 1) le) h.grows

-- where the next place finds no room
pub made_full : {N : ℕ} (old now : Netlist) (like : PlaceNets N) (places : List (PlaceNets N)) (k count : ℕ) → AreMade old now like places k → k < count → 2 ^ 20 < length now.lines + (N + 1) → 2 ^ 20 < length old.lines + (N + 1) * count
made_full {N} old now like places k count h lt full =
    let next : k + 1 ≤ count = omega arith in
    let most = mul-le-mul_left (N + 1) next in
    let lines = h.grows.most in
    omega (arith, most, lines, full)

-- Levels at outputs of bounded widths.
use Rattle.std.proofs.Common.{◌≡◌, ◌^◌, ◌<◌, ◌≤◌, ℕ, arith}
use Rattle.std.proofs.Math.Pow.{pow_mono}
use Rattle.netlist.specs.Netlists.{Netlist, IsOutputPort}
use Rattle.benches.specs.Outputs.{IsOutputWithin}

same_width : (netlist : Netlist) (port v w : ℕ) → IsOutputPort netlist.ports port v → IsOutputPort netlist.ports port w → v ≡ w
same_width netlist port v w one other =
    let first = one.is in
    let second = other.is in
    let same : one.port ≡ other.port = cc in
    let p = one.width in
    let q = other.width in
    cc

pub within : (netlist : Netlist) (port width most bits : ℕ) → IsOutputPort netlist.ports port width → IsOutputWithin netlist most port → bits < 2 ^ width → bits < 2 ^ most
within netlist port width most bits is few fits =
    let same = same_width netlist port width few.width is few.is in
    let low : width ≤ most = (let h = few.few in omega arith) in
    let more : 2 ^ width ≤ 2 ^ most = pow_mono low in
    omega arith

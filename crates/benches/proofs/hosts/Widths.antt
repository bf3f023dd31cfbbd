-- The widths of a host's words and of the outputs that answer it.
use Rattle.std.proofs.Common.{◌≡◌, ◌*◌, ◌^◌, ◌<◌, ◌≤◌, ℕ, Bool, true, false, List, Option, Some, None, subst, sym, arith}
use Rattle.std.proofs.lemmas.Nat.{pow_pos}
use Rattle.std.proofs.Math.Pow.{pow_mono}
use Rattle.av_base.specs.Word.{IsWord}
use Rattle.iface_roles.specs.Proper.{IsWordSize}
use Rattle.netlist.specs.declared.line.PortLine.{PortLine}
use Rattle.netlist.specs.Netlists.{Netlist}
use Rattle.port_tables.specs.Ports.{bits_if}
use Rattle.port_tables.specs.PortMaps.{IsPortIf}
use Rattle.benches.specs.Outputs.{IsOutputIf}

pub most_bytes : (bytes : ℕ) → IsWordSize bytes → bytes ≤ 16
most_bytes bytes size = let most : 2 ^ size.exponent ≤ 2 ^ 4 = pow_mono size.small in let is = size.power in omega arith

pub some_bytes : (bytes : ℕ) → IsWordSize bytes → 0 < bytes
some_bytes bytes size = subst (λ (n : ℕ). 0 < n) (sym size.power) (pow_pos size.exponent)

-- bits that have room make a value
pub is_value : (bytes bits : ℕ) → IsWordSize bytes → bits < 2 ^ (8 * bytes) → IsWord (8 * bytes) bits
is_value bytes bits size fits =
    let some = some_bytes bytes size in
    let most = most_bytes bytes size in
    record { some_bit = omega arith; small = omega arith; fits = fits }

-- an output of a few bits is one of at most more
pub wider : (netlist : Netlist) (few many : ℕ) (port : Option ℕ) → few ≤ many → IsOutputIf netlist few port → IsOutputIf netlist many port
wider netlist few many None less is = tt
wider netlist few many (Some port) less is = record { width = is.width; is = is.is; few = (let h = is.few in omega arith) }

pub few_bits : (present : Bool) (bits : ℕ) → bits_if present bits ≤ bits
few_bits true bits = omega arith
few_bits false bits = omega arith

-- where the header has such a port, it is an output of at most so many bits
pub output_within : (netlist : Netlist) (ports : List PortLine) (width most : ℕ) (port : Option ℕ) → netlist.ports ≡ ports → width ≤ most → IsPortIf ports true width port
    → IsOutputIf netlist most port
output_within netlist ports width most None same less is = tt
output_within netlist ports width most (Some port) same less is = record {
  width = width;
  is = record { port = is.port; is = rw same is.is; output = is.output_is; width = is.width_is };
  few = less;
}

-- The header of a module without ports, and what a module keeps while it grows.
use Rattle.std.proofs.Common.{◌≡◌, ℕ, List, [], slice_get, Some, refl, subst, arith}
use Rattle.std.specs.Prelude.{codes}
use Rattle.netlist.specs.declared.line.Memory.{Memory}
use Rattle.netlist.specs.Netlists.{Netlist, IsHeader, IsOutputPort}
use Rattle.net_parts.specs.Growth.{AddsNets, StillWaitForWrite}

pub header : IsHeader (codes "t_interconnect") []
header = record {
  module_name = record { first = refl; bytes = refl; suffix = refl };
  port_names = λ k d lt. absurd (omega arith);
  distinct = λ i j d lt within. absurd (omega arith);
  widths = λ k d lt. absurd (omega arith);
  few = omega arith;
}

pub no_output : (k w : ℕ) → IsOutputPort [] k w → ⊥
no_output k w i = let e = i.is in cc

-- beside nets without memories no more memories wait for their writes
pub adds_no_wait : (k : ℕ) (old new : Netlist) → AddsNets k old new → StillWaitForWrite new old
adds_no_wait k old new adds m waiting = record { memory = waiting.memory; is = subst (λ (ms : List Memory). slice_get ms m ≡ Some waiting.memory) adds.grows.memories waiting.is; waits = waiting.waits }

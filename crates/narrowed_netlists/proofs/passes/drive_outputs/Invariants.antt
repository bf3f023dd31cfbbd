use Rattle.std.proofs.Common.{◌≡◌, ℕ, ◌≤◌, None}
use Rattle.netlist.specs.Netlists.{IsClocked, driver_of}
use Rattle.netlist.specs.Longer.{Extends}
use Rattle.narrowed_netlists.specs.Copies.{AreDriven}
use Rattle.narrowed_netlists.proofs.passes.drive_outputs.Given as goal

abbrev pub invariant-loop-k : goal.invariant-loop-k
invariant-loop-k l = record {
  driven : AreDriven l.module l.builder l.nets l.k;
  undriven : (j : ℕ) → l.k ≤ j → driver_of l.builder j ≡ None;
  clocked : IsClocked l.fn.builder → IsClocked l.builder;
  memories : l.builder.memories ≡ l.fn.builder.memories;
  extends : Extends l.fn.builder l.builder;
}

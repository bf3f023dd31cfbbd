use Rattle.std.proofs.Common.{◌≡◌, ℕ, ◌+◌, ◌-◌, length, take}
use Rattle.trace_lines.specs.Sums.{with_counts}
use Rattle.benches.specs.Counting.{HaveRoom, counted_together}
use Rattle.benches.proofs.parts.all.count_all.Given as goal

abbrev pub invariant-components : goal.invariant-components
invariant-components g l = record {
  counted : l.sum ≡ with_counts l.fn.counts (counted_together (λ (c : g.row.C.Denot). g.C.Component.counts c l.sim) (take l.component-index l.components));
  room : HaveRoom (length l.components - l.component-index) l.sum;
  left : (more : ℕ) → HaveRoom (length l.components + more) l.fn.counts → HaveRoom (length l.components - l.component-index + more) l.sum;
}

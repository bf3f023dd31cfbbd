use Rattle.std.proofs.Common.{◌≡◌, ◌<◌, ◌≤◌, ◌^◌, flat_map, take}
use Rattle.av_files.specs.Outside.{with_more}
use Rattle.benches.specs.Writing.{text_of}
use Rattle.benches.proofs.parts.all.tell_all.Given as goal

abbrev pub invariant-components : goal.invariant-components
invariant-components g l = record {
  told : g.K.Sink.held l.sink ≡ with_more (g.K.Sink.held l.initial.sink) (text_of (flat_map (λ (c : g.row.C.Denot). g.C.Component.tells c l.sim l.cycle) (take l.component-index l.components)));
  grows : g.K.Sink.faults l.initial.sink ≤ g.K.Sink.faults l.sink;
  below : g.K.Sink.faults l.initial.sink < 2 ^ 64 → g.K.Sink.faults l.sink < 2 ^ 64;
}

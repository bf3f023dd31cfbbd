use Rattle.std.proofs.Common.{sym, ap, ◌∙◌}
use Rattle.stage_core.specs.declared.beat.BeatNets.{BeatNets}
use Rattle.adapters_tests.proofs.Ports.{adds_no_wait}
use Rattle.adapters_tests.proofs.channels.emit_filter.Goals as goal

pub emit_stream-requires-clause-widths : goal.emit_stream-requires-clause-widths
emit_stream-requires-clause-widths c = ap (λ (b : BeatNets). b.channel.width) c.beat_of-from.ensures.same ∙ c.in_ok-channel.ensures.net.has_width ∙ sym c.requires

pub emit_dropped-requires-clause-widths : goal.emit_dropped-requires-clause-widths
emit_dropped-requires-clause-widths c = ap (λ (b : BeatNets). b.channel.width) c.beat_of-again.ensures.same ∙ c.in_ok-channel.ensures.net.has_width ∙ sym c.requires

pub returns : goal.returns
returns c = record {
  ports = c.emit_dropped.ensures.adds.grows.extends.keeps.ports ∙ c.emit_stream.ensures.grows.extends.keeps.ports ∙ c.constant.ensures.adds.grows.extends.keeps.ports ∙ c.level.ensures.adds.grows.extends.keeps.ports;
  no_more_wait = λ n h. c.level.ensures.adds.grows.no_more_wait n (c.constant.ensures.adds.grows.no_more_wait n (c.in_ok-made.ensures.no_more_wait n (c.emit_dropped.ensures.adds.grows.no_more_wait n h)));
  no_more_write = λ m h. adds_no_wait _ _ _ c.level.ensures.adds m (adds_no_wait _ _ _ c.constant.ensures.adds m (c.in_ok-made.ensures.no_more_write m (adds_no_wait _ _ _ c.emit_dropped.ensures.adds m h)));
}

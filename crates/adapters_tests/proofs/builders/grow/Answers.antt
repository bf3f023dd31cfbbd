use Rattle.std.proofs.Common.{ap, ◌∙◌}
use Rattle.stage_core.specs.declared.beat.BeatNets.{BeatNets}
use Rattle.net_parts.specs.Memories.{forward_grown}
use Rattle.adapters_tests.proofs.Ports.{adds_no_wait}
use Rattle.adapters_tests.proofs.builders.grow.Goals as goal

pub emit_stream-requires-clause-widths : goal.emit_stream-requires-clause-widths
emit_stream-requires-clause-widths g c =
    c.requires.takes _ (ap (λ (b : BeatNets). b.word.width) c.beat_of-from.ensures.same ∙ c.in_ok-word.ensures.net.has_width)
    (ap (λ (b : BeatNets). b.empty.width) c.beat_of-from.ensures.same ∙ c.in_ok-empty.ensures.net.has_width)

pub returns : goal.returns
returns g c = record {
  ports = (forward_grown _ _ _ _ c.emit_stream.ensures.grows).extends.keeps.ports ∙ c.constant-2.ensures.adds.grows.extends.keeps.ports ∙ c.constant.ensures.adds.grows.extends.keeps.ports ∙ c.level.ensures.adds.grows.extends.keeps.ports;
  no_more_wait = λ n h. c.level.ensures.adds.grows.no_more_wait n (c.constant.ensures.adds.grows.no_more_wait n (c.constant-2.ensures.adds.grows.no_more_wait n (c.in_ok-made.ensures.no_more_wait n h)));
  no_more_write = λ m h. adds_no_wait _ _ _ c.level.ensures.adds m (adds_no_wait _ _ _ c.constant.ensures.adds m (adds_no_wait _ _ _ c.constant-2.ensures.adds m (c.in_ok-made.ensures.no_more_write m h)));
}

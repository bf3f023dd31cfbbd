use Rattle.std.proofs.Common.{◌∙◌}
use Rattle.adapters_tests.proofs.Ports.{adds_no_wait}
use Rattle.adapters_tests.proofs.channels.emit_tie.Goals as goal

pub returns : goal.returns
returns c = record {
  ports = c.emit_stream-2.ensures.grows.extends.keeps.ports ∙ c.emit_stream.ensures.grows.extends.keeps.ports ∙ c.level.ensures.adds.grows.extends.keeps.ports;
  no_more_wait = λ n h. c.level.ensures.adds.grows.no_more_wait n (c.in_ok-through.ensures.no_more_wait n (c.in_ok-made.ensures.no_more_wait n h));
  no_more_write = λ m h. adds_no_wait _ _ _ c.level.ensures.adds m (c.in_ok-through.ensures.no_more_write m (c.in_ok-made.ensures.no_more_write m h));
}

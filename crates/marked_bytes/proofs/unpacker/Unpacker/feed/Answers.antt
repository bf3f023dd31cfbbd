use Rattle.marked_bytes.proofs.Feeding.{step_follows}
use Rattle.marked_bytes.proofs.unpacker.Unpacker.feed.Goals as goal

pub returns-clause-follows : goal.returns-clause-follows
returns-clause-follows c = λ fed items. step_follows fed items c.args.self.now c.step.new.self c.args.byte c.step.result c.step.ensures

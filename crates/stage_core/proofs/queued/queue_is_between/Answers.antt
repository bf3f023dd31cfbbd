use Rattle.stage_core.specs.FifoLaw.{fifo_queues}
use Rattle.stage_core.proofs.queued.queue_is_between.Goals as goal

pub returns : goal.returns
returns g c from to ready up netlist stands =
    let kept = stands.kept in
    let forward = stands.first in
    let backward = stands.second in
    record {
      coming = forward.first.middle;
      shown = backward.first.middle;
      going = forward.middle;
      seen = backward.middle;
      front = λ shape has longer e run endless.
          c.law.ensures.keeps shape from forward.first.middle kept.0.0 backward.first.middle up longer has
          (g.met.A.Stage.forward_lasts _ _ _ _ _ _ forward.first.first e)
          (g.met.A.Stage.backward_lasts _ _ _ _ _ _ backward.first.first e) run endless;
      queue = fifo_queues forward.first.middle forward.middle kept.0.1 c.args.stages.now.first.second.depth backward.middle backward.first.middle netlist forward.first.second backward.first.second;
      rear = λ shape has longer e run endless.
          c.law-2.ensures.keeps shape forward.middle to kept.1 ready backward.middle longer has
          (g.met.B.Stage.forward_lasts _ _ _ _ _ _ forward.second e)
          (g.met.B.Stage.backward_lasts _ _ _ _ _ _ backward.second e) run endless;
    }

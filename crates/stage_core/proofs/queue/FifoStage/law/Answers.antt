use Rattle.stage_core.specs.QueueLaw.{queue_between, queue_ready}
use Rattle.stage_core.specs.FifoLaw.{fifo_queues, fifo_ignores}
use Rattle.stage_core.proofs.queue.FifoStage.law.Goals as goal

pub returns-clause-keeps : goal.returns-clause-keeps
returns-clause-keeps c shape from to kept ready up netlist p f b run endless =
    queue_between shape from to c.args.self.now.depth ready up netlist run p (fifo_queues from to kept c.args.self.now.depth ready up netlist f b) endless c.queue_is_a_stage.ensures.keeps

pub returns-clause-ready : goal.returns-clause-ready
returns-clause-ready c shape from to kept ready up netlist p f b run endless =
    queue_ready shape from to c.args.self.now.depth ready up netlist run p (fifo_queues from to kept c.args.self.now.depth ready up netlist f b) endless c.queue_is_a_stage.ensures.ready

pub returns-clause-ignores_ready : goal.returns-clause-ignores_ready
returns-clause-ignores_ready c from to kept netlist f one other v w state words same = fifo_ignores from to kept c.args.self.now.depth netlist one other f v w state words same

use Rattle.std.proofs.Common.{sym, subst}
use Rattle.std.specs.Prelude.{OnOk}
use Rattle.net_parts.specs.Growth.{WaitsWithout}
use Rattle.stage_core.specs.declared.queue.FifoKept.{FifoKept}
use Rattle.stage_core.specs.FifoNets.{fifo_owns}
use Rattle.stage_core.proofs.queue.FifoStage.emit_backward.Goals as goal

pub returns-in-Stored-clause-no_more_wait : goal.returns-in-Stored-clause-no_more_wait
returns-in-Stored-clause-no_more_wait c =
    subst (λ (kept : FifoKept). OnOk c.emit_backward.result (WaitsWithout (fifo_owns kept) c.args.builder.now c.emit_backward.new.builder)) (sym c.in-Stored.is) c.emit_backward.ensures.no_more_wait

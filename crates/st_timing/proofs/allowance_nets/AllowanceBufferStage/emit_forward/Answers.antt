use Rattle.std.proofs.Common.{refl, subst}
use Rattle.stage_core.specs.StoredNets.{StoredKeeps, StoredForward}
use Rattle.st_timing.proofs.allowance_nets.AllowanceBufferStage.emit_forward.Goals as goal

pub returns-clause-kept : goal.returns-clause-kept
returns-clause-kept c = record {
  allowance_is = refl;
  stored = subst (λ depth. StoredKeeps c.in_ok-to.stored depth c.emit_forward.new.builder) c.new-queue.ensures c.in_ok-to.ensures.kept;
}

pub returns-clause-made : goal.returns-clause-made
returns-clause-made c = record {
  allowance_is = refl;
  stored = subst (λ depth. StoredForward c.args.from c.in_ok-to.to c.in_ok-to.stored depth c.emit_forward.new.builder) c.new-queue.ensures c.in_ok-to.ensures.made;
}

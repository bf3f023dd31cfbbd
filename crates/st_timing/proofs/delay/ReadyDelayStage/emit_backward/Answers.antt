use Rattle.std.proofs.Common.{subst}
use Rattle.st_timing.specs.declared.delay.DelayKept.{DelayKept}
use Rattle.st_timing.specs.DelayNets.{delay_owns}
use Rattle.st_timing.proofs.delay.ReadyDelayStage.emit_backward.Goals as goal

pub returns-in_ok-set_history-in-Register-clause-no_more_wait : goal.returns-in_ok-set_history-in-Register-clause-no_more_wait
returns-in_ok-set_history-in-Register-clause-no_more_wait c n w =
    let set = c.in_ok-set_history-in-Register.ensures.no_more_wait n w in
    (set.0, λ o. set.1 (subst (λ (kept : DelayKept). delay_owns kept n) c.in-Register.is o))

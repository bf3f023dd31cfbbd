use Rattle.std.proofs.Common.{◌+◌, List, sym, subst, ◌∙◌, arith}
use Rattle.net_parts.specs.Refusing.{handed_on}
use Rattle.net_parts.specs.Laws.{adds_fewer}
use Rattle.mm_arbiter.specs.declared.back.BackNets.{BackNets}
use Rattle.mm_arbiter.specs.Backward.{below_lasts}
use Rattle.mm_arbiter.specs.Backs.{AreBacksSoFar, host_fits, no_backs, one_more_back, backs_within, backs_full}
use Rattle.mm_arbiter.proofs.back.all_backs.Goals as goal

pub loop-seat-init : goal.loop-seat-init
loop-seat-init c = subst (λ (made : List BackNets). AreBacksSoFar c.args.builder.now c.args.builder.now c.args.chosen c.args.below.now c.args.word_bits c.args.askers.now made 0) (sym c.new-backs.ensures.items) (no_backs c.args.builder.now c.args.chosen c.args.below.now c.args.word_bits c.args.askers.now)

pub back_at-requires-clause-below : goal.back_at-requires-clause-below
back_at-requires-clause-below c = below_lasts _ _ _ _ _ c.loop-seat.invariant.adds.grows.extends c.requires.below

pub back_at-requires-clause-host : goal.back_at-requires-clause-host
back_at-requires-clause-host c = host_fits c.args.tag_bits c.args.askers.now c.loop-seat.seat _ c.requires.hosts (omega arith)

pub loop-seat-preserved : goal.loop-seat-preserved
loop-seat-preserved c =
    subst (λ (made : List BackNets). AreBacksSoFar c.args.builder.now c.back_at.new.builder c.args.chosen c.args.below.now c.args.word_bits c.args.askers.now made (c.loop-seat.seat + 1)) (sym c.in_ok-push.ensures.items)
    (one_more_back c.args.builder.now c.loop-seat.builder c.back_at.new.builder c.args.chosen c.args.below.now c.args.word_bits c.args.askers.now _ c.loop-seat.backs.items c.in_ok-back.back c.loop-seat.seat c.loop-seat.invariant c.back_at.ensures.adds (omega arith) c.in_ok-back.ensures.made)

pub returns-in_err-back-clause-adds : goal.returns-in_err-back-clause-adds
returns-in_err-back-clause-adds c = backs_within _ _ _ _ _ _ _ _ c.loop-seat.seat _ c.loop-seat.invariant (omega arith) c.back_at.ensures.adds

pub returns-in_err-push-clause-adds : goal.returns-in_err-push-clause-adds
returns-in_err-push-clause-adds c = backs_within _ _ _ _ _ _ _ _ c.loop-seat.seat _ c.loop-seat.invariant (omega arith) c.back_at.ensures.adds

pub returns-in_err-back-clause-full : goal.returns-in_err-back-clause-full
returns-in_err-back-clause-full c e =
    backs_full _ _ _ _ _ _ _ c.loop-seat.seat _ c.loop-seat.invariant (omega arith) (c.back_at.ensures.full (handed_on _ _ _ _ c.in_err-back.was c.from_residual.ensures.1 e))

pub returns-clause-count : goal.returns-clause-count
returns-clause-count c = c.loop-seat.invariant.count_is ∙ omega arith

pub returns-clause-made : goal.returns-clause-made
returns-clause-made c = c.loop-seat.invariant.made_are

pub returns-clause-adds : goal.returns-clause-adds
returns-clause-adds c = adds_fewer _ _ _ _ (omega arith) c.loop-seat.invariant.adds

use Rattle.std.proofs.Common.{◌+◌, List, sym, subst, ◌∙◌, arith}
use Rattle.net_parts.specs.Refusing.{handed_on}
use Rattle.net_parts.specs.Laws.{adds_fewer}
use Rattle.command_nets.specs.declared.nets.CommandNets.{CommandNets}
use Rattle.mm_route.specs.Shown.{AreShownSoFar, none_shown, one_more_shown, shown_within, shown_full, shown_nets_last}
use Rattle.mm_route.proofs.shown.show_all.Goals as goal

pub loop-k-init : goal.loop-k-init
loop-k-init c = subst (λ (made : List CommandNets). AreShownSoFar c.args.builder.now c.args.builder.now c.args.shown.now made 0) (sym c.new-commands.ensures.items) (none_shown c.args.builder.now c.args.shown.now)

pub show_at-requires-clause-shown : goal.show_at-requires-clause-shown
show_at-requires-clause-shown c = shown_nets_last _ _ _ _ c.loop-k.invariant.adds.grows.extends c.requires.shown

pub loop-k-preserved : goal.loop-k-preserved
loop-k-preserved c =
    subst (λ (made : List CommandNets). AreShownSoFar c.args.builder.now c.show_at.new.builder c.args.shown.now made (c.loop-k.k + 1)) (sym c.in_ok-push.ensures.items)
    (one_more_shown c.args.builder.now c.loop-k.builder c.show_at.new.builder c.args.shown.now c.loop-k.commands.items c.in_ok-command.command c.loop-k.k c.loop-k.invariant c.show_at.ensures.adds c.in_ok-command.ensures.made)

pub returns-in_err-command-clause-adds : goal.returns-in_err-command-clause-adds
returns-in_err-command-clause-adds c = shown_within _ _ _ _ _ c.loop-k.k _ c.loop-k.invariant (omega arith) c.show_at.ensures.adds

pub returns-in_err-push-clause-adds : goal.returns-in_err-push-clause-adds
returns-in_err-push-clause-adds c = shown_within _ _ _ _ _ c.loop-k.k _ c.loop-k.invariant (omega arith) c.show_at.ensures.adds

pub returns-in_err-command-clause-full : goal.returns-in_err-command-clause-full
returns-in_err-command-clause-full c e =
    shown_full _ _ _ _ c.loop-k.k _ c.loop-k.invariant (omega arith) (c.show_at.ensures.full (handed_on _ _ _ _ c.in_err-command.was c.from_residual.ensures.1 e))

pub returns-clause-count : goal.returns-clause-count
returns-clause-count c = c.loop-k.invariant.count_is ∙ omega arith

pub returns-clause-made : goal.returns-clause-made
returns-clause-made c = c.loop-k.invariant.made_are

pub returns-clause-adds : goal.returns-clause-adds
returns-clause-adds c = adds_fewer _ _ _ _ (omega arith) c.loop-k.invariant.adds

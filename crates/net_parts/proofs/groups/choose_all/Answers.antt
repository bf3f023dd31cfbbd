use Rattle.std.proofs.Common.{◌+◌, List, [], ◌∷◌, ◌++◌, get_or, length-set, slice_set, take, sym, subst, ap, ◌∙◌, arith}
use Rattle.std.proofs.lemmas.List.{take_all, take_more, take_more_set}
use Rattle.netlist.specs.Nets.{NetValue}
use Rattle.net_parts.specs.Laws.{alike_twice}
use Rattle.net_parts.specs.Groups.{AreNets, group_widths, ChooseAll, nets_last}
use Rattle.net_parts.proofs.GroupsMade.{ChoicesMade, net_at, width_at, choices_more}
use Rattle.net_parts.proofs.groups.choose_all.Goals as goal

pub choose-requires-clause-one : goal.choose-requires-clause-one
choose-requires-clause-one g c =
    net_at c.loop-k.builder c.args.one.now c.loop-k.k c.index-one-k.result (omega arith) (nets_last _ _ _ c.loop-k.invariant.0.grows.extends c.requires.one)

pub choose-requires-clause-other : goal.choose-requires-clause-other
choose-requires-clause-other g c =
    net_at c.loop-k.builder c.args.other.now c.loop-k.k c.index-other-k.result (omega arith) (nets_last _ _ _ c.loop-k.invariant.0.grows.extends c.requires.other)

pub choose-requires-clause-widths : goal.choose-requires-clause-widths
choose-requires-clause-widths g c =
    width_at c.args.one.now c.args.other.now c.loop-k.k c.index-one-k.result c.index-other-k.result (omega arith) (omega arith) c.requires.widths

pub returns-in_err-made-clause-adds : goal.returns-in_err-made-clause-adds
returns-in_err-made-clause-adds g c = record {
  grows = alike_twice _ _ _ c.loop-k.invariant.0.grows c.choose.ensures.adds.grows;
  most = (let few = c.loop-k.invariant.0.most in let more = c.choose.ensures.adds.most in omega arith);
}

pub loop-k-preserved : goal.loop-k-preserved
loop-k-preserved g c =
    let x = get_or c.args.one.now c.loop-k.k c.index-one-k.result in
    let y = get_or c.args.other.now c.loop-k.k c.index-other-k.result in
    let z = c.in_ok-made.field-0 in (
      subst (λ (group : List NetValue). ChoicesMade c.args.builder.now c.choose.new.builder c.args.bit group (take (c.loop-k.k + 1) c.args.other.now) (take (c.loop-k.k + 1) (slice_set c.loop-k.made c.loop-k.k z)) (c.loop-k.k + 1)) (sym (take_more c.args.one.now c.loop-k.k c.index-one-k.result (omega arith)))
          (subst (λ (group : List NetValue). ChoicesMade c.args.builder.now c.choose.new.builder c.args.bit (take c.loop-k.k c.args.one.now ++ x ∷ []) group (take (c.loop-k.k + 1) (slice_set c.loop-k.made c.loop-k.k z)) (c.loop-k.k + 1)) (sym (take_more c.args.other.now c.loop-k.k c.index-other-k.result (omega arith)))
          (subst (λ (group : List NetValue). ChoicesMade c.args.builder.now c.choose.new.builder c.args.bit (take c.loop-k.k c.args.one.now ++ x ∷ []) (take c.loop-k.k c.args.other.now ++ y ∷ []) group (c.loop-k.k + 1)) (sym (take_more_set c.loop-k.made c.loop-k.k z (omega arith)))
          (choices_more c.args.builder.now c.loop-k.builder c.choose.new.builder c.args.bit (take c.loop-k.k c.args.one.now) (take c.loop-k.k c.args.other.now) (take c.loop-k.k c.loop-k.made) c.loop-k.k x y z c.loop-k.invariant.0
          c.in_ok-made.ensures.net c.in_ok-made.ensures.value c.choose.ensures.adds))),
      (let same = length-set c.loop-k.made c.loop-k.k c.in_ok-made.field-0 in omega (arith, same)),
    )

pub returns-clause-nets : goal.returns-clause-nets
returns-clause-nets g c = subst (AreNets c.loop-k.builder) (take_all c.loop-k.k c.loop-k.made (omega arith)) c.loop-k.invariant.0.nets

pub returns-clause-widths : goal.returns-clause-widths
returns-clause-widths g c =
    ap group_widths (sym (take_all c.loop-k.k c.loop-k.made (omega arith))) ∙ c.loop-k.invariant.0.widths ∙ ap group_widths (take_all c.loop-k.k c.args.one.now (omega arith))

pub returns-clause-chosen : goal.returns-clause-chosen
returns-clause-chosen g c =
    subst (λ (group : List NetValue). ChooseAll c.loop-k.builder c.args.bit group c.args.other.now c.loop-k.made) (take_all c.loop-k.k c.args.one.now (omega arith))
    (subst (λ (group : List NetValue). ChooseAll c.loop-k.builder c.args.bit (take c.loop-k.k c.args.one.now) group c.loop-k.made) (take_all c.loop-k.k c.args.other.now (omega arith))
    (subst (ChooseAll c.loop-k.builder c.args.bit (take c.loop-k.k c.args.one.now) (take c.loop-k.k c.args.other.now)) (take_all c.loop-k.k c.loop-k.made (omega arith)) c.loop-k.invariant.0.chosen))

use Rattle.std.proofs.Common.{◌+◌, List, [], ◌∷◌, ◌++◌, length, get_or, length-set, slice_set, take, ◌∙◌, sym, subst, ap, arith}
use Rattle.std.proofs.lemmas.List.{take_all, take_more, take_more_set}
use Rattle.netlist.specs.Nets.{NetValue}
use Rattle.net_parts.specs.Laws.{extends_twice}
use Rattle.net_parts.specs.Groups.{AreNets, group_widths, AreNumberedFrom, StartAllLow, nets_last}
use Rattle.net_parts.proofs.GroupsMade.{RegistersMade, net_at, registers_more}
use Rattle.net_parts.proofs.groups.low_registers.Goals as goal

pub low_register-requires : goal.low_register-requires
low_register-requires g c =
    net_at c.loop-k.builder c.args.like.now c.loop-k.k c.index-like-k.result (omega arith) (nets_last _ _ _ c.loop-k.invariant.0.extends c.requires)

pub returns-in_err-made-clause-grows : goal.returns-in_err-made-clause-grows
returns-in_err-made-clause-grows g c = record {
  extends = extends_twice _ _ _ c.loop-k.invariant.0.extends c.low_register.ensures.grows.extends;
  most = (let lines = c.loop-k.invariant.0.lines in let more = c.low_register.ensures.grows.most in omega arith);
  drivers = c.low_register.ensures.grows.drivers ∙ c.loop-k.invariant.0.drivers;
  memories = c.low_register.ensures.grows.memories ∙ c.loop-k.invariant.0.memories;
}

pub loop-k-preserved : goal.loop-k-preserved
loop-k-preserved g c =
    let x = get_or c.args.like.now c.loop-k.k c.index-like-k.result in (
      subst (λ (group : List NetValue). RegistersMade c.args.builder.now c.low_register.new.builder group (take (c.loop-k.k + 1) (slice_set c.loop-k.made c.loop-k.k c.in_ok-made.field-0)) (c.loop-k.k + 1)) (sym (take_more c.args.like.now c.loop-k.k c.index-like-k.result (omega arith)))
          (subst (λ (group : List NetValue). RegistersMade c.args.builder.now c.low_register.new.builder (take c.loop-k.k c.args.like.now ++ x ∷ []) group (c.loop-k.k + 1)) (sym (take_more_set c.loop-k.made c.loop-k.k c.in_ok-made.field-0 (omega arith)))
          (registers_more c.args.builder.now c.loop-k.builder c.low_register.new.builder (take c.loop-k.k c.args.like.now) (take c.loop-k.k c.loop-k.made) c.loop-k.k x c.in_ok-made.field-0 c.loop-k.invariant.0
          c.in_ok-made.ensures.net c.in_ok-made.ensures.number c.in_ok-made.ensures.count c.in_ok-made.ensures.starts c.in_ok-made.ensures.waits c.low_register.ensures.grows c.low_register.ensures.still_wait c.low_register.ensures.newly)),
      (let same = length-set c.loop-k.made c.loop-k.k c.in_ok-made.field-0 in omega (arith, same)),
    )

pub returns-clause-nets : goal.returns-clause-nets
returns-clause-nets g c = subst (AreNets c.loop-k.builder) (take_all c.loop-k.k c.loop-k.made (omega arith)) c.loop-k.invariant.0.nets

pub returns-clause-widths : goal.returns-clause-widths
returns-clause-widths g c =
    ap group_widths (sym (take_all c.loop-k.k c.loop-k.made (omega arith))) ∙ c.loop-k.invariant.0.widths ∙ ap group_widths (take_all c.loop-k.k c.args.like.now (omega arith))

pub returns-clause-numbers : goal.returns-clause-numbers
returns-clause-numbers g c = subst (AreNumberedFrom (length c.args.builder.now.lines)) (take_all c.loop-k.k c.loop-k.made (omega arith)) c.loop-k.invariant.0.numbers

pub returns-clause-starts : goal.returns-clause-starts
returns-clause-starts g c = subst (StartAllLow c.loop-k.builder) (take_all c.loop-k.k c.loop-k.made (omega arith)) c.loop-k.invariant.0.starts

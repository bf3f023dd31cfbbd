use Rattle.std.proofs.Common.{sym, subst, ap, ◌∙◌, arith}
use Rattle.stage_core.specs.Beats.{AreBeatNets}
use Rattle.stage_core.specs.Groups.{shown_in}
use Rattle.stage_core.specs.Lasting.{beat_lasts}
use Rattle.net_parts.specs.Laws.{net_lasts, extends_twice, adds_fewer, adds_twice, grows_once}
use Rattle.st_format.proofs.NarrowLemmas.{part_shown, part_bits}
use Rattle.stage_core.specs.declared.beat.BeatNets.{BeatNets}
use Rattle.stage_core.specs.Refusing.{handed_on}
use Rattle.st_format.proofs.narrow.show_part.Goals as goal

pub part_empty-requires-clause-follows : goal.part_empty-requires-clause-follows
part_empty-requires-clause-follows c cycle v = c.requires.follows cycle ((extends_twice _ _ _ c.slice.ensures.extends c.part_last.ensures.adds.grows.extends).valuations cycle v)

pub returns-clause-part : goal.returns-clause-part
returns-clause-part c =
    let more = (extends_twice _ _ _ c.slice.ensures.extends (extends_twice _ _ _ c.part_last.ensures.adds.grows.extends c.part_empty.ensures.adds.grows.extends)) in
    let base = subst (AreBeatNets c.part_empty.new.builder) (sym c.copied.ensures) (beat_lasts _ _ _ more c.requires.beat) in
    record { valid = base.valid; word = (extends_twice _ _ _ c.part_last.ensures.adds.grows.extends c.part_empty.ensures.adds.grows.extends).nets _ _ c.in_ok-word.ensures.net.0; channel = base.channel; error = base.error; first = base.first; last = net_lasts _ _ _ _ c.part_empty.ensures.adds.grows.extends c.in_ok-last.ensures.net; empty = c.in_ok-empty.ensures.net.is_net }

pub returns-clause-value : goal.returns-clause-value
returns-clause-value c cycle v3 =
    let v2 = c.part_empty.ensures.adds.grows.extends.valuations cycle v3 in
    let v1 = c.part_last.ensures.adds.grows.extends.valuations cycle v2 in
    let v0 = c.slice.ensures.extends.valuations cycle v1 in
    part_shown c.args.sizes.now (shown_in cycle c.copied.result) (shown_in cycle c.args.beat.now) (cycle.net c.args.more.number) _ _ _ (ap (shown_in cycle) c.copied.ensures) (c.requires.follows cycle v0)
    ((c.in_ok-word.ensures.value cycle v1).1 ∙ part_bits c.args.sizes.now _ _ _ c.rest_bits-low.ensures.value c.narrow_bits.ensures.value c.narrow_bits.ensures.some) (c.in_ok-last.ensures.value cycle v2) (c.in_ok-empty.ensures.value cycle v3)

pub slice-requires-clause-a_is : goal.slice-requires-clause-a_is
slice-requires-clause-a_is c = c.requires.beat.word

pub part_last-requires-clause-last : goal.part_last-requires-clause-last
part_last-requires-clause-last c = net_lasts _ _ _ _ c.slice.ensures.extends c.requires.beat.last

pub part_last-requires-clause-more : goal.part_last-requires-clause-more
part_last-requires-clause-more c = net_lasts _ _ _ _ c.slice.ensures.extends c.requires.more

pub part_empty-requires-clause-empty : goal.part_empty-requires-clause-empty
part_empty-requires-clause-empty c = record { is_net = (extends_twice _ _ _ c.slice.ensures.extends c.part_last.ensures.adds.grows.extends).nets _ _ c.requires.beat.empty; has_width = c.requires.empty }

pub part_empty-requires-clause-more : goal.part_empty-requires-clause-more
part_empty-requires-clause-more c = net_lasts _ _ _ _ (extends_twice _ _ _ c.slice.ensures.extends c.part_last.ensures.adds.grows.extends) c.requires.more

pub returns-clause-channel : goal.returns-clause-channel
returns-clause-channel c = ap (λ (n : BeatNets). n.channel.width) c.copied.ensures

pub returns-clause-error : goal.returns-clause-error
returns-clause-error c = ap (λ (n : BeatNets). n.error.width) c.copied.ensures

pub returns-in_err-word-clause-adds : goal.returns-in_err-word-clause-adds
returns-in_err-word-clause-adds c = adds_fewer _ _ _ _ (omega arith) (grows_once _ _ c.slice.ensures.extends c.slice.ensures.grows)

pub returns-in_err-last-clause-adds : goal.returns-in_err-last-clause-adds
returns-in_err-last-clause-adds c = adds_fewer _ _ _ _ (omega arith) (adds_twice _ _ _ _ _ (grows_once _ _ c.slice.ensures.extends c.slice.ensures.grows) c.part_last.ensures.adds)

pub returns-in_err-empty-clause-adds : goal.returns-in_err-empty-clause-adds
returns-in_err-empty-clause-adds c = adds_fewer _ _ _ _ (omega arith) (adds_twice _ _ _ _ _ (adds_twice _ _ _ _ _ (grows_once _ _ c.slice.ensures.extends c.slice.ensures.grows) c.part_last.ensures.adds) c.part_empty.ensures.adds)

pub returns-clause-adds : goal.returns-clause-adds
returns-clause-adds c = adds_fewer _ _ _ _ (omega arith) (adds_twice _ _ _ _ _ (adds_twice _ _ _ _ _ (grows_once _ _ c.slice.ensures.extends c.slice.ensures.grows) c.part_last.ensures.adds) c.part_empty.ensures.adds)

pub returns-in_err-word-clause-full : goal.returns-in_err-word-clause-full
returns-in_err-word-clause-full c e = let full = c.slice.ensures.full.0 (handed_on _ _ _ _ c.in_err-word.was c.from_residual.ensures.1 e) in omega (arith, full)

pub returns-in_err-last-clause-full : goal.returns-in_err-last-clause-full
returns-in_err-last-clause-full c e = let most0 = c.slice.ensures.grows.most in let full = c.part_last.ensures.full (handed_on _ _ _ _ c.in_err-last.was c.from_residual-in_err-last.ensures.1 e) in omega (arith, most0, full)

pub returns-in_err-empty-clause-full : goal.returns-in_err-empty-clause-full
returns-in_err-empty-clause-full c e = let most0 = c.slice.ensures.grows.most in let most1 = c.part_last.ensures.adds.most in let full = c.part_empty.ensures.full (handed_on _ _ _ _ c.in_err-empty.was c.from_residual-in_err-empty.ensures.1 e) in omega (arith, most0, most1, full)

pub returns-clause-full : goal.returns-clause-full
returns-clause-full c e = cc

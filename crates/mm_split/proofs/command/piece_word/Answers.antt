use Rattle.std.proofs.Common.{◌≡◌, ◌*◌, if◌then◌else◌, sym, ap, ◌∙◌, arith}
use Rattle.net_parts.specs.Laws.{if_ok, adds_twice, adds_fewer}
use Rattle.net_parts.specs.Refusing.{handed_on}
use Rattle.netlist.specs.Runs.{Always}
use Rattle.histories.specs.History.{is_raised}
use Rattle.mm_split.specs.Pieces.{lane}
use Rattle.mm_split.proofs.Bits.{taken_is, word_of_places}
use Rattle.mm_split.proofs.command.piece_word.Goals as goal

pub take_place-requires-clause-wide : goal.take_place-requires-clause-wide
take_place-requires-clause-wide c = record { is_net = c.requires.from.word; has_width = c.requires.width ∙ sym (word_of_places _ _ _ _ c.requires.sizes.pieces c.requires.sizes.whole) }

pub take_place-requires-clause-few : goal.take_place-requires-clause-few
take_place-requires-clause-few c = let whole = word_of_places _ _ _ _ c.requires.sizes.pieces c.requires.sizes.whole in let few = c.requires.sizes.few_bytes in omega (arith, whole, few)

pub returns-in_err-word-clause-adds : goal.returns-in_err-word-clause-adds
returns-in_err-word-clause-adds c = let few = c.requires.sizes.few_bits in adds_fewer _ _ _ _ (omega (arith, few)) (c.take_place.ensures.adds)

pub returns-in_err-word-clause-full : goal.returns-in_err-word-clause-full
returns-in_err-word-clause-full c e =
    let few = c.requires.sizes.few_bits in
    let full = c.take_place.ensures.full (handed_on _ _ _ _ c.in_err-word.was c.from_residual.ensures.1 e) in
    omega (arith, full, few)

pub returns-clause-adds : goal.returns-clause-adds
returns-clause-adds c = let few = c.requires.sizes.few_bits in adds_fewer _ _ _ _ (omega (arith, few)) (adds_twice _ _ _ _ _ c.take_place.ensures.adds c.emit_word.ensures.adds)

pub returns-clause-full : goal.returns-clause-full
returns-clause-full c e =
    let few = c.requires.sizes.few_bits in
    let most0 = c.take_place.ensures.adds.most in
    let full = c.emit_word.ensures.full e in
    omega (arith, most0, full, few)

pub returns-clause-value : goal.returns-clause-value
returns-clause-value c =
    if_ok c.emit_word.result _ (λ net. Always c.emit_word.new.builder (λ cycle. cycle.net net.number ≡ (if is_raised (cycle.net c.args.from.now.write.number) then lane (c.args.sizes.now.narrow_bytes * 8) (cycle.net c.args.from.now.word.number) (cycle.net c.args.number.number) else 0)))
    (λ net value cycle v. (
    let v0 = c.emit_word.ensures.adds.grows.extends.valuations cycle v in
    value cycle v ∙ ap (λ x. if is_raised (cycle.net c.args.from.now.write.number) then x else 0) (c.in_ok-word.ensures.value cycle v0 ∙ taken_is (c.args.sizes.now.narrow_bytes * 8) (cycle.net c.args.from.now.word.number) (cycle.net c.args.number.number))))
    c.emit_word.ensures.value

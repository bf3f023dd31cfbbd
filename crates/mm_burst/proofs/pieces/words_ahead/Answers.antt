use Rattle.std.proofs.Common.{◌≡◌, ◌+◌, ◌-◌, ◌/◌, ◌%◌, ◌^◌, ◌∙◌, ap, sym, arith}
use Rattle.std.proofs.Math.Nat.{mod-lt}
use Rattle.std.proofs.lemmas.Nat.{pow_pos}
use Rattle.netlist.specs.Runs.{Always}
use Rattle.net_parts.specs.Laws.{if_ok}
use Rattle.memory_links.specs.Cutters.{reach_words}
use Rattle.mm_burst.proofs.Levels.{words_are}
use Rattle.mm_burst.proofs.pieces.words_ahead.Goals as goal

pub returns-clause-value : goal.returns-clause-value
returns-clause-value c =
    if_ok c.sub.result _ (λ made. Always c.sub.new.self (λ cycle. cycle.net made.number ≡ reach_words (2 ^ c.args.way.now.lanes) (2 ^ c.args.way.now.place_bits) (cycle.net c.args.address.number)))
    (λ made value cycle v. (
    let v1 = c.sub.ensures.extends.valuations cycle v in
    let v0 = c.fit_bits.ensures.adds.grows.extends.valuations cycle v1 in
    let before = c.slice.ensures.extends.valuations cycle v0 in
    let some = c.requires.some in
    let bits : c.args.way.now.lanes + c.args.way.now.place_bits - 1 - c.args.way.now.lanes + 1 ≡ c.args.way.now.place_bits = omega (arith, some) in
    let place = (c.in_ok-place.ensures.value cycle v0).1 ∙ ap (λ n. cycle.net c.args.address.number / 2 ^ c.args.way.now.lanes % 2 ^ n) bits in
    let wide = c.width-wanted.ensures.value in
    words_are c.args.way.now.place_bits c.width-wanted.result (cycle.net c.args.longest.number) (cycle.net c.args.address.number / 2 ^ c.args.way.now.lanes % 2 ^ c.args.way.now.place_bits) (cycle.net c.in_ok-fitted.fitted.number) (cycle.net made.number)
    (let less = c.requires.wide in omega (arith, less, wide)) (c.requires.most cycle before) (mod-lt _ (pow_pos c.args.way.now.place_bits)) (c.in_ok-fitted.ensures.value cycle v1 ∙ ap (λ n. n % 2 ^ c.width-wanted.result) place) ((value cycle v).1 ∙ ap (λ n. (cycle.net c.args.longest.number + (2 ^ n - cycle.net c.in_ok-fitted.fitted.number)) % 2 ^ n) (sym wide))))
    c.sub.ensures.value

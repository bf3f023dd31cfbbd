use Rattle.std.proofs.Common.{◌≡◌, ◌+◌, ◌*◌, ◌++◌, [], ◌∷◌, arith, rules}
use Rattle.waves.proofs.CountLemmas.{next_pair, no_pair}
use Rattle.waves.proofs.hexadecimals.pairs.Goals as goal

pub pairs-preserved : goal.pairs-preserved
pairs-preserved c =
    let next = next_pair c.args.text.now c.pairs.bytes c.pairs.k c.pairs-test.true c.pairs.invariant in
    let high = c.digit_value.ensures.value in
    let low = c.digit_value-in-pairs.ensures.value in
    let pushed : c.push.new.self ≡ c.pairs.bytes ++ (c.digit_value.result * 16 + c.digit_value-in-pairs.result) ∷ [] = search rules in
    grind (arith, next)

pub returns : goal.returns
returns c = no_pair c.args.text.now c.pairs.bytes c.pairs.k c.pairs-test.false c.pairs.invariant

use Rattle.std.proofs.Common.{◌≡◌, arith}
use Rattle.netlist.specs.Runs.{Always}
use Rattle.net_parts.specs.Laws.{if_ok, adds_fewer, adds_twice}
use Rattle.command_nets.specs.Levels.{one_fits}
use Rattle.memory_links.specs.Cutters.{beats_of}
use Rattle.mm_burst.proofs.Levels.{count_ahead_is, above_one}
use Rattle.mm_burst.proofs.shows.count_ahead.Goals as goal
use Rattle.net_parts.specs.Fitting.{fits_in_two}

pub constant-requires-clause-fits : goal.constant-requires-clause-fits
constant-requires-clause-fits c = one_fits _ c.width-bits.ensures.bounds.0

pub returns-in_err-count-clause-adds : goal.returns-in_err-count-clause-adds
returns-in_err-count-clause-adds c =
    adds_fewer _ _ _ _ (omega arith) (adds_twice _ _ _ _ _ (adds_twice _ _ _ _ _ (adds_twice _ _ _ _ _ (adds_twice _ _ _ _ _ c.constant.ensures.adds c.is_less.ensures.adds) c.is_less-2.ensures.adds) c.both.ensures.adds) c.pick.ensures.adds)

pub returns-clause-adds : goal.returns-clause-adds
returns-clause-adds c =
    let two = fits_in_two c.width-bits.result c.args.below_bits in
    adds_fewer _ _ _ _ (omega (arith, two)) (adds_twice _ _ _ _ _ (adds_twice _ _ _ _ _ (adds_twice _ _ _ _ _ (adds_twice _ _ _ _ _ (adds_twice _ _ _ _ _ c.constant.ensures.adds c.is_less.ensures.adds) c.is_less-2.ensures.adds) c.both.ensures.adds) c.pick.ensures.adds) c.fit_bits.ensures.adds)

pub returns-clause-value : goal.returns-clause-value
returns-clause-value c =
    if_ok c.fit_bits.result _ (λ count. Always c.fit_bits.new.builder (λ cycle. cycle.net count.number ≡ beats_of (cycle.net c.args.step.number) (cycle.net c.args.left.number)))
    (λ count value cycle v. (
    let v4 = c.fit_bits.ensures.adds.grows.extends.valuations cycle v in
    let v3 = c.pick.ensures.adds.grows.extends.valuations cycle v4 in
    let v2 = c.both.ensures.adds.grows.extends.valuations cycle v3 in
    let v1 = c.is_less-2.ensures.adds.grows.extends.valuations cycle v2 in
    let v0 = c.is_less.ensures.adds.grows.extends.valuations cycle v1 in
    let before = c.constant.ensures.adds.grows.extends.valuations cycle v0 in
    count_ahead_is c.args.below_bits (cycle.net c.args.left.number) (cycle.net c.args.step.number) (cycle.net c.in_ok-fewer.fewer.number) (cycle.net c.in_ok-many.many.number) (cycle.net c.in_ok-few.few.number) (cycle.net c.in_ok-count.count.number) (cycle.net count.number)
    (c.requires.most cycle before) (c.in_ok-fewer.ensures.value cycle v2) (above_one _ _ _ (c.in_ok-many.ensures.value cycle v1) (c.in_ok-one.ensures.value cycle v0)) (c.in_ok-few.ensures.value cycle v3) (c.in_ok-count.ensures.value cycle v4) (value cycle v)))
    c.fit_bits.ensures.value

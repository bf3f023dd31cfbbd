use Rattle.std.proofs.Common.{◌≡◌, ◌-◌, refl, not, ◌&&◌, nat_lt, if◌then◌else◌, arith}
use Rattle.histories.specs.History.{is_raised}
use Rattle.netlist.specs.Runs.{Always}
use Rattle.net_parts.specs.Laws.{if_ok, adds_fewer, adds_twice}
use Rattle.net_parts.specs.Refusing.{handed_on}
use Rattle.mm_select.specs.Laws.{full_bit, and_turned}
use Rattle.mm_select.proofs.select.shut_bit.Goals as goal

pub returns-in_err-full-clause-adds : goal.returns-in_err-full-clause-adds
returns-in_err-full-clause-adds c =
    adds_fewer _ _ _ _ (omega arith) c.is_above.ensures.adds

pub returns-in_err-full-clause-full : goal.returns-in_err-full-clause-full
returns-in_err-full-clause-full c e =
    let full = c.is_above.ensures.full (handed_on _ _ _ _ c.in_err-full.was c.from_residual.ensures.1 e) in
    omega (arith, full)

pub returns-clause-adds : goal.returns-clause-adds
returns-clause-adds c =
    adds_fewer _ _ _ _ (omega arith) (adds_twice _ _ _ _ _ c.is_above.ensures.adds c.unless.ensures.adds)

pub returns-clause-full : goal.returns-clause-full
returns-clause-full c e =
    let most0 = c.is_above.ensures.adds.most in
    let full = c.unless.ensures.full e in
    omega (arith, most0, full)

pub returns-clause-value : goal.returns-clause-value
returns-clause-value c =
    if_ok c.unless.result _ (λ shut. Always c.unless.new.builder (λ cycle. is_raised (cycle.net shut.number) ≡ (not (is_raised (cycle.net c.args.write.number)) && not (nat_lt (cycle.net c.args.count.number) c.args.reads))))
    (λ shut value cycle v2. (
    let bound = c.from.ensures in
    let full = c.in_ok-full.ensures.value cycle (c.unless.ensures.adds.grows.extends.valuations cycle v2) in
    let reached = full_bit (cycle.net c.args.count.number) c.args.reads (if nat_lt (c.args.reads - 1) (cycle.net c.args.count.number) then 1 else 0) c.requires.some refl in
    let turned = and_turned (is_raised (cycle.net c.in_ok-full.full.number)) (not (is_raised (cycle.net c.args.write.number))) in
    let fact = value cycle v2 in cc))
    c.unless.ensures.value

use Rattle.std.proofs.Common.{◌≡◌, ◌==◌, not, ◌||◌, ◌∙◌, ap, arith}
use Rattle.netlist.specs.Runs.{Always}
use Rattle.net_parts.specs.Nets.{IsBit}
use Rattle.net_parts.specs.Laws.{bit_fits, if_ok, adds_fewer, adds_twice, grows_once}
use Rattle.net_parts.specs.Bits.{high_or, high_turned}
use Rattle.stage_core.specs.Refusing.{handed_on}
use Rattle.st_channel.proofs.filter.ready_or_idle.Goals as goal

pub returns-clause-value : goal.returns-clause-value
returns-clause-value c =
    if_ok c.or.result _ (λ up. Always c.or.new.self (λ cycle. (cycle.net up.number == 1) ≡ ((cycle.net c.args.ready.number == 1) || not (cycle.net c.args.shown.number == 1))))
    (λ up value cycle v2. (
    let v1 = c.or.ensures.extends.valuations cycle v2 in
    let v0 = c.not.ensures.extends.valuations cycle v1 in
    let idle : IsBit c.not.new.self c.in_ok-idle.idle = record { is_net = c.in_ok-idle.ensures.net.0; has_width = c.in_ok-idle.ensures.net.1 ∙ c.requires.shown.has_width } in
    high_or (cycle.net c.args.ready.number) (cycle.net c.in_ok-idle.idle.number) (cycle.net up.number) (bit_fits _ _ c.requires.ready cycle v0) (bit_fits _ _ idle cycle v1) (value cycle v2).1
    ∙ ap (λ t. (cycle.net c.args.ready.number == 1) || t) (high_turned c.args.shown.width (cycle.net c.args.shown.number) (cycle.net c.in_ok-idle.idle.number) c.requires.shown.has_width (bit_fits _ _ c.requires.shown cycle v0) (c.in_ok-idle.ensures.value cycle v1).1)))
    c.or.ensures.value

pub returns-in_err-idle-clause-adds : goal.returns-in_err-idle-clause-adds
returns-in_err-idle-clause-adds c = adds_fewer _ _ _ _ (omega arith) (grows_once _ _ c.not.ensures.extends c.not.ensures.grows)

pub returns-clause-adds : goal.returns-clause-adds
returns-clause-adds c = adds_fewer _ _ _ _ (omega arith) (adds_twice _ _ _ _ _ (grows_once _ _ c.not.ensures.extends c.not.ensures.grows) (grows_once _ _ c.or.ensures.extends c.or.ensures.grows))

pub or-requires-clause-a_is : goal.or-requires-clause-a_is
or-requires-clause-a_is c = c.not.ensures.extends.nets _ _ c.requires.ready.is_net

pub or-requires-clause-b_is : goal.or-requires-clause-b_is
or-requires-clause-b_is c = c.in_ok-idle.ensures.net.0

pub returns-in_err-idle-clause-full : goal.returns-in_err-idle-clause-full
returns-in_err-idle-clause-full c e = let full = c.not.ensures.full.0 (handed_on _ _ _ _ c.in_err-idle.was c.from_residual.ensures.1 e) in omega (arith, full)

pub returns-clause-full : goal.returns-clause-full
returns-clause-full c e = let most = c.not.ensures.grows.most in let full = c.or.ensures.full.0 e in omega (arith, most, full)

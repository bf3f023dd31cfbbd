use Rattle.std.proofs.Common.{◌≡◌, ◌-◌, ◌==◌, ◌||◌, ◌∙◌, nat_lt, ap, arith}
use Rattle.netlist.specs.Runs.{Always}
use Rattle.net_parts.specs.Nets.{IsBit}
use Rattle.net_parts.specs.Laws.{grows_once, adds_twice, adds_fewer, bit_fits, if_ok}
use Rattle.net_parts.specs.Bits.{high_or}
use Rattle.net_parts.specs.Refusing.{handed_on}
use Rattle.st_windows.proofs.CountNets.{test_high}
use Rattle.st_windows.proofs.counts.makes_beat.Goals as goal

pub returns-clause-net : goal.returns-clause-net
returns-clause-net c = if_ok c.or.result _ (λ whole. IsBit c.or.new.self whole) (λ whole net. record { is_net = net.0; has_width = net.1 ∙ c.in_ok-enough.ensures.net.has_width }) c.or.ensures.net

pub returns-clause-value : goal.returns-clause-value
returns-clause-value c =
    if_ok c.or.result _ (λ whole. Always c.or.new.self (λ cycle. (cycle.net whole.number == 1) ≡ (nat_lt (c.args.sizes.now.into - 1) (cycle.net c.args.count.number) || (cycle.net c.args.last.number == 1))))
    (λ whole value cycle v2.
    (let v1 = c.or.ensures.extends.valuations cycle v2 in
    let v0 = c.is_above.ensures.adds.grows.extends.valuations cycle v1 in
    high_or (cycle.net c.in_ok-enough.enough.number) (cycle.net c.args.last.number) _ (bit_fits _ _ c.in_ok-enough.ensures.net cycle v1) (bit_fits _ _ c.requires.last cycle v0) (value cycle v2).1
    ∙ ap (λ t. t || (cycle.net c.args.last.number == 1)) (test_high _ _ (c.in_ok-enough.ensures.value cycle v1))
    ∙ ap (λ n. nat_lt n (cycle.net c.args.count.number) || (cycle.net c.args.last.number == 1)) c.from-most.ensures))
    c.or.ensures.value

pub returns-in_err-enough-clause-adds : goal.returns-in_err-enough-clause-adds
returns-in_err-enough-clause-adds c = adds_fewer _ _ _ _ (omega arith) c.is_above.ensures.adds

pub returns-clause-adds : goal.returns-clause-adds
returns-clause-adds c = adds_fewer _ _ _ _ (omega arith) (adds_twice _ _ _ _ _ c.is_above.ensures.adds (grows_once _ _ c.or.ensures.extends c.or.ensures.grows))

pub returns-in_err-enough-clause-full : goal.returns-in_err-enough-clause-full
returns-in_err-enough-clause-full c e = let full = c.is_above.ensures.full (handed_on _ _ _ _ c.in_err-enough.was c.from_residual.ensures.1 e) in omega (arith, full)

pub returns-clause-full : goal.returns-clause-full
returns-clause-full c e = let most0 = c.is_above.ensures.adds.most in let full = c.or.ensures.full.0 e in omega (arith, most0, full)

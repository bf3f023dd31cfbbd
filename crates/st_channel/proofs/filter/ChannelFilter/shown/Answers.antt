use Rattle.std.proofs.Common.{◌≡◌, true, if◌then◌else◌, nat_lt, sym, ◌∙◌, ap, arith}
use Rattle.netlist.specs.Runs.{Always}
use Rattle.net_parts.specs.Laws.{bit_fits, if_ok, extends_twice, grows_once, adds_twice}
use Rattle.st_channel.specs.FilterNets.{compares, lets_through}
use Rattle.st_channel.proofs.Numbers.{gated}
use Rattle.st_channel.proofs.Comparing.{sink_fits, lets_within}
use Rattle.net_parts.specs.Nets.{IsBit}
use Rattle.stage_core.specs.Refusing.{handed_on}
use Rattle.st_channel.proofs.Growing.{adds_where, full_where}
use Rattle.st_channel.proofs.filter.ChannelFilter.shown.Goals as goal

pub is_above-requires-clause-fits : goal.is_above-requires-clause-fits
is_above-requires-clause-fits c = sink_fits c.args.self.now (sym c.compares.ensures ∙ c.if-not-compares.false)

pub returns-clause-value : goal.returns-clause-value
returns-clause-value c =
    if_ok c.and.result _ (λ shown. Always c.and.new.self (λ cycle. cycle.net shown.number ≡ (if lets_through c.args.self.now (cycle.net c.args.channel.number) then cycle.net c.args.valid.number else 0)))
    (λ shown value cycle v3. (
    let v2 = c.and.ensures.extends.valuations cycle v3 in
    let v1 = c.not.ensures.extends.valuations cycle v2 in
    let v0 = c.is_above.ensures.adds.grows.extends.valuations cycle v1 in
    let compared : compares c.args.self.now ≡ true = sym c.compares.ensures ∙ c.if-not-compares.false in
    gated (cycle.net c.args.valid.number) (cycle.net c.in_ok-above.above.number) (cycle.net c.in_ok-within.within.number) (cycle.net shown.number) c.in_ok-above.above.width (nat_lt c.args.self.now.sink.largest (cycle.net c.args.channel.number))
    (c.in_ok-above.ensures.value cycle v1) c.in_ok-above.ensures.net.has_width (c.in_ok-within.ensures.value cycle v2).1 (value cycle v3).1 (bit_fits _ _ c.requires.valid cycle v0)
    ∙ ap (λ t. if t then cycle.net c.args.valid.number else 0) (sym (lets_within c.args.self.now (cycle.net c.args.channel.number) compared))))
    c.and.ensures.value

pub and-requires-clause-a_is : goal.and-requires-clause-a_is
and-requires-clause-a_is c = (extends_twice _ _ _ c.is_above.ensures.adds.grows.extends c.not.ensures.extends).nets _ _ c.requires.valid.is_net

pub and-requires-clause-b_is : goal.and-requires-clause-b_is
and-requires-clause-b_is c = c.in_ok-within.ensures.net.0

pub and-requires-clause-widths : goal.and-requires-clause-widths
and-requires-clause-widths c = c.requires.valid.has_width ∙ sym (c.in_ok-within.ensures.net.1 ∙ c.in_ok-above.ensures.net.has_width)

pub returns-in_err-above-clause-adds : goal.returns-in_err-above-clause-adds
returns-in_err-above-clause-adds c = adds_where (compares c.args.self.now) 4 0 _ _ _ (sym c.compares.ensures ∙ c.if-not-compares.false) (omega arith) c.is_above.ensures.adds

pub returns-in_err-above-clause-full : goal.returns-in_err-above-clause-full
returns-in_err-above-clause-full c e = full_where (compares c.args.self.now) 4 0 _ _ (sym c.compares.ensures ∙ c.if-not-compares.false) (let full = c.is_above.ensures.full (handed_on _ _ _ _ c.in_err-above.was c.from_residual.ensures.1 e) in omega (arith, full))

pub returns-in_err-within-clause-adds : goal.returns-in_err-within-clause-adds
returns-in_err-within-clause-adds c = adds_where (compares c.args.self.now) 4 0 _ _ _ (sym c.compares.ensures ∙ c.if-not-compares.false) (omega arith) (adds_twice _ _ _ _ _ c.is_above.ensures.adds (grows_once _ _ c.not.ensures.extends c.not.ensures.grows))

pub returns-in_err-within-clause-full : goal.returns-in_err-within-clause-full
returns-in_err-within-clause-full c e = full_where (compares c.args.self.now) 4 0 _ _ (sym c.compares.ensures ∙ c.if-not-compares.false) (let most = c.is_above.ensures.adds.most in let full = c.not.ensures.full.0 (handed_on _ _ _ _ c.in_err-within.was c.from_residual-in_err-within.ensures.1 e) in omega (arith, most, full))

pub returns-clause-net : goal.returns-clause-net
returns-clause-net c = if_ok c.and.result _ (IsBit c.and.new.self) (λ shown net. record { is_net = net.0; has_width = net.1 ∙ c.requires.valid.has_width }) c.and.ensures.net

pub returns-clause-adds : goal.returns-clause-adds
returns-clause-adds c = adds_where (compares c.args.self.now) 4 0 _ _ _ (sym c.compares.ensures ∙ c.if-not-compares.false) (omega arith) (adds_twice _ _ _ _ _ (adds_twice _ _ _ _ _ c.is_above.ensures.adds (grows_once _ _ c.not.ensures.extends c.not.ensures.grows)) (grows_once _ _ c.and.ensures.extends c.and.ensures.grows))

pub returns-clause-full : goal.returns-clause-full
returns-clause-full c e = full_where (compares c.args.self.now) 4 0 _ _ (sym c.compares.ensures ∙ c.if-not-compares.false) (let most = c.is_above.ensures.adds.most in let most2 = c.not.ensures.grows.most in let full = c.and.ensures.full.0 e in omega (arith, most, most2, full))

use Rattle.std.proofs.Common.{arith, sym, ◌∙◌}
use Rattle.netlist.specs.Runs.{Always}
use Rattle.net_parts.specs.Laws.{if_ok, bit_fits, extends_twice, adds_fewer, adds_twice, grows_once}
use Rattle.mm_arbiter.specs.Backward.{ComesTo}
use Rattle.mm_arbiter.proofs.Words.{valid_level}
use Rattle.net_parts.specs.Nets.{IsBit}
use Rattle.net_parts.specs.Refusing.{handed_on}
use Rattle.mm_arbiter.proofs.back.valid_for.Goals as goal

pub returns-clause-value : goal.returns-clause-value
returns-clause-value c =
    if_ok c.and.result _ (λ valid. Always c.and.new.self (λ cycle. ComesTo cycle c.args.host c.args.below.now valid))
    (λ valid value cycle v3. (
    let v2 = c.and.ensures.extends.valuations cycle v3 in
    let v1 = c.in_ok-mine.ensures.extends.valuations cycle v2 in
    let v0 = c.host_tag.ensures.adds.grows.extends.valuations cycle v1 in
    valid_level c.args.host (cycle.net c.args.below.now.tag.number) (cycle.net c.args.below.now.answer.valid.number) _ _ _ (bit_fits _ _ c.requires.below.answer.valid cycle v0) (c.in_ok-number.ensures.value cycle v1) (c.in_ok-mine.ensures.value cycle v2).1 (value cycle v3).1))
    c.and.ensures.value

pub returns-in_err-number-clause-adds : goal.returns-in_err-number-clause-adds
returns-in_err-number-clause-adds c = adds_fewer _ _ _ _ (omega arith) c.host_tag.ensures.adds

pub returns-in_err-number-clause-full : goal.returns-in_err-number-clause-full
returns-in_err-number-clause-full c e = let full = c.host_tag.ensures.full (handed_on _ _ _ _ c.in_err-number.was c.from_residual.ensures.1 e) in omega (arith, full)

pub returns-in_err-mine-clause-adds : goal.returns-in_err-mine-clause-adds
returns-in_err-mine-clause-adds c = adds_fewer _ _ _ _ (omega arith) (adds_twice _ _ _ _ _ c.host_tag.ensures.adds (grows_once _ _ c.eq.ensures.extends c.eq.ensures.grows))

pub returns-in_err-mine-clause-full : goal.returns-in_err-mine-clause-full
returns-in_err-mine-clause-full c e =
    let most0 = c.host_tag.ensures.adds.most in
    let full = c.eq.ensures.full.0 (handed_on _ _ _ _ c.in_err-mine.was c.from_residual-in_err-mine.ensures.1 e) in
    omega (arith, most0, full)

pub returns-clause-adds : goal.returns-clause-adds
returns-clause-adds c = adds_fewer _ _ _ _ (omega arith) (adds_twice _ _ _ _ _ (adds_twice _ _ _ _ _ c.host_tag.ensures.adds (grows_once _ _ c.eq.ensures.extends c.eq.ensures.grows)) (grows_once _ _ c.and.ensures.extends c.and.ensures.grows))

pub returns-clause-full : goal.returns-clause-full
returns-clause-full c e =
    let most0 = c.host_tag.ensures.adds.most in
    let most1 = c.eq.ensures.grows.most in
    let full = c.and.ensures.full.0 e in
    omega (arith, most0, most1, full)

pub returns-clause-net : goal.returns-clause-net
returns-clause-net c = if_ok c.and.result _ (IsBit c.and.new.self) (λ valid net. record { is_net = net.0; has_width = net.1 ∙ c.requires.below.answer.valid.has_width }) c.and.ensures.net

pub host_tag-requires-clause-some : goal.host_tag-requires-clause-some
host_tag-requires-clause-some c = c.requires.some

pub host_tag-requires-clause-few : goal.host_tag-requires-clause-few
host_tag-requires-clause-few c = c.requires.few

pub host_tag-requires-clause-host : goal.host_tag-requires-clause-host
host_tag-requires-clause-host c = c.requires.host

pub eq-requires-clause-a_is : goal.eq-requires-clause-a_is
eq-requires-clause-a_is c = c.host_tag.ensures.adds.grows.extends.nets _ _ c.requires.below.tag.is_net

pub eq-requires-clause-b_is : goal.eq-requires-clause-b_is
eq-requires-clause-b_is c = c.in_ok-number.ensures.net.is_net

pub eq-requires-clause-widths : goal.eq-requires-clause-widths
eq-requires-clause-widths c = c.requires.below.tag.has_width ∙ sym c.in_ok-number.ensures.net.has_width

pub and-requires-clause-a_is : goal.and-requires-clause-a_is
and-requires-clause-a_is c = (extends_twice _ _ _ c.host_tag.ensures.adds.grows.extends c.eq.ensures.extends).nets _ _ c.requires.below.answer.valid.is_net

pub and-requires-clause-b_is : goal.and-requires-clause-b_is
and-requires-clause-b_is c = c.in_ok-mine.ensures.net.0

pub and-requires-clause-widths : goal.and-requires-clause-widths
and-requires-clause-widths c = c.requires.below.answer.valid.has_width ∙ sym c.in_ok-mine.ensures.net.1

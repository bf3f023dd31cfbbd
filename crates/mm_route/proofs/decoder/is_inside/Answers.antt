use Rattle.std.proofs.Common.{◌≡◌, ap, ◌∙◌, arith, sym}
use Rattle.av_base.specs.Word.{Word}
use Rattle.histories.specs.History.{one_if}
use Rattle.netlist.specs.Runs.{Always}
use Rattle.net_parts.specs.Laws.{if_ok, width_fits, adds_fewer, adds_twice, grows_once}
use Rattle.net_parts.specs.Refusing.{handed_on}
use Rattle.net_parts.specs.Nets.{IsBit}
use Rattle.mm_route.specs.Entries.{is_inside}
use Rattle.mm_route.proofs.Decoding.{high_bits_tell, all_inside}
use Rattle.mm_route.proofs.decoder.is_inside.Goals as goal

pub returns-then-entry-width-clause-value : goal.returns-then-entry-width-clause-value
returns-then-entry-width-clause-value c =
    if_ok c.level.result _ (λ inside. Always c.level.new.builder (λ cycle. cycle.net inside.number ≡ one_if (is_inside c.args.entry.now (cycle.net c.args.address.number))))
    (λ inside value cycle v. all_inside c.args.entry.now c.args.width _ _ c.requires.entry c.if-entry-width.true (width_fits _ _ _ c.requires.address cycle (c.level.ensures.adds.grows.extends.valuations cycle v)) (value cycle v))
    c.level.ensures.value

pub returns-clause-value : goal.returns-clause-value
returns-clause-value c =
    if_ok c.eq.result _ (λ inside. Always c.eq.new.self (λ cycle. cycle.net inside.number ≡ one_if (is_inside c.args.entry.now (cycle.net c.args.address.number))))
    (λ inside value cycle v3. (
    let v2 = c.eq.ensures.extends.valuations cycle v3 in
    let v1 = c.in_ok-base.ensures.extends.valuations cycle v2 in
    let v0 = c.high_bits.ensures.adds.grows.extends.valuations cycle v1 in
    high_bits_tell c.args.entry.now c.args.width _ _ _ _ c.requires.entry c.if-entry-width.false (width_fits _ _ _ c.requires.address cycle v0) (c.in_ok-high.ensures.value cycle v1)
    ((c.in_ok-base.ensures.value cycle v2).1 ∙ ap (λ (w : Word). w.bits) c.high_base.ensures) (value cycle v3).1))
    c.eq.ensures.value

pub returns-in_err-high-clause-adds : goal.returns-in_err-high-clause-adds
returns-in_err-high-clause-adds c = adds_fewer _ _ _ _ (omega arith) c.high_bits.ensures.adds

pub returns-in_err-high-clause-full : goal.returns-in_err-high-clause-full
returns-in_err-high-clause-full c e = let full = c.high_bits.ensures.full (handed_on _ _ _ _ c.in_err-high.was c.from_residual.ensures.1 e) in omega (arith, full)

pub returns-in_err-base-clause-adds : goal.returns-in_err-base-clause-adds
returns-in_err-base-clause-adds c = adds_fewer _ _ _ _ (omega arith) (adds_twice _ _ _ _ _ c.high_bits.ensures.adds (grows_once _ _ c.constant.ensures.extends c.constant.ensures.grows))

pub returns-in_err-base-clause-full : goal.returns-in_err-base-clause-full
returns-in_err-base-clause-full c e = let most = c.high_bits.ensures.adds.most in let full = c.constant.ensures.full.0 (handed_on _ _ _ _ c.in_err-base.was c.from_residual-in_err-base.ensures.1 e) in omega (arith, most, full)

pub returns-clause-adds : goal.returns-clause-adds
returns-clause-adds c = adds_fewer _ _ _ _ (omega arith) (adds_twice _ _ _ _ _ (adds_twice _ _ _ _ _ c.high_bits.ensures.adds (grows_once _ _ c.constant.ensures.extends c.constant.ensures.grows)) (grows_once _ _ c.eq.ensures.extends c.eq.ensures.grows))

pub returns-clause-full : goal.returns-clause-full
returns-clause-full c e = let most = c.high_bits.ensures.adds.most in let most2 = c.constant.ensures.grows.most in let full = c.eq.ensures.full.0 e in omega (arith, most, most2, full)

pub returns-then-entry-width-clause-adds : goal.returns-then-entry-width-clause-adds
returns-then-entry-width-clause-adds c = adds_fewer _ _ _ _ (omega arith) c.level.ensures.adds

pub returns-then-entry-width-clause-full : goal.returns-then-entry-width-clause-full
returns-then-entry-width-clause-full c e = let full = c.level.ensures.full e in omega (arith, full)

pub returns-then-entry-width-clause-net : goal.returns-then-entry-width-clause-net
returns-then-entry-width-clause-net c = c.level.ensures.net

pub returns-clause-net : goal.returns-clause-net
returns-clause-net c = if_ok c.eq.result _ (IsBit c.eq.new.self) (λ inside net. record { is_net = net.0; has_width = net.1 }) c.eq.ensures.net

pub eq-requires-clause-a_is : goal.eq-requires-clause-a_is
eq-requires-clause-a_is c = c.constant.ensures.extends.nets _ _ c.in_ok-high.ensures.net.is_net

pub eq-requires-clause-b_is : goal.eq-requires-clause-b_is
eq-requires-clause-b_is c = c.in_ok-base.ensures.net.0

pub eq-requires-clause-widths : goal.eq-requires-clause-widths
eq-requires-clause-widths c = c.in_ok-high.ensures.net.has_width ∙ sym (c.in_ok-base.ensures.net.1 ∙ ap (λ (w : Word). w.width) c.high_base.ensures)

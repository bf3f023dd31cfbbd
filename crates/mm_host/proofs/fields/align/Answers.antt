use Rattle.std.proofs.Common.{◌≡◌, ◌-◌, ◌%◌, ◌^◌, Option, subst, ap, ◌∙◌, arith}
use Rattle.std.specs.Prelude.{IfSome}
use Rattle.av_base.specs.Word.{Word, word}
use Rattle.netlist.specs.Runs.{Always}
use Rattle.net_parts.specs.Laws.{if_ok, width_fits, adds_fewer, adds_twice, grows_once}
use Rattle.mm_host.proofs.Levels.{aligned, all_low}
use Rattle.net_parts.specs.Refusing.{handed_on}
use Rattle.mm_host.proofs.fields.align.Goals as goal

pub returns-then-bits-low-clause-value : goal.returns-then-bits-low-clause-value
returns-then-bits-low-clause-value c =
    if_ok c.constant.result _ (λ made. Always c.constant.new.self (λ cycle. cycle.net made.number ≡ cycle.net c.args.net.number - cycle.net c.args.net.number % 2 ^ c.args.low))
    (λ made value cycle v. (
    let zero : c.unwrap.result ≡ word c.args.bits 0 = subst (λ (o : Option Word). IfSome o (λ v. v ≡ word c.args.bits 0)) c.unwrap.ensures c.new.ensures.value in
    (value cycle v).1 ∙ ap (λ (w : Word). w.bits) zero ∙ all_low _ c.args.bits c.args.low c.if-bits-low.true (width_fits _ _ _ c.requires.net cycle (c.constant.ensures.extends.valuations cycle v))))
    c.constant.ensures.value

pub returns-clause-value : goal.returns-clause-value
returns-clause-value c =
    if_ok c.raise.result _ (λ made. Always c.raise.new.builder (λ cycle. cycle.net made.number ≡ cycle.net c.args.net.number - cycle.net c.args.net.number % 2 ^ c.args.low))
    (λ made value cycle v. (
    let v1 = c.raise.ensures.adds.grows.extends.valuations cycle v in
    let v0 = c.slice.ensures.extends.valuations cycle v1 in
    aligned _ c.args.bits c.args.low _ _ (omega (arith, c.if-bits-low.false)) (width_fits _ _ _ c.requires.net cycle v0) (c.in_ok-high.ensures.value cycle v1).1 (value cycle v)))
    c.raise.ensures.value

pub returns-then-bits-low-clause-adds : goal.returns-then-bits-low-clause-adds
returns-then-bits-low-clause-adds c = adds_fewer _ _ _ _ (omega arith) (grows_once _ _ c.constant.ensures.extends c.constant.ensures.grows)

pub returns-then-bits-low-clause-full : goal.returns-then-bits-low-clause-full
returns-then-bits-low-clause-full c e = let full = c.constant.ensures.full.0 e in omega (arith, full)

pub slice-requires-clause-a_is : goal.slice-requires-clause-a_is
slice-requires-clause-a_is c = c.requires.net.is_net

pub raise-requires-clause-net : goal.raise-requires-clause-net
raise-requires-clause-net c = c.in_ok-high.ensures.net.0

pub returns-in_err-high-clause-adds : goal.returns-in_err-high-clause-adds
returns-in_err-high-clause-adds c = adds_fewer _ _ _ _ (omega arith) (grows_once _ _ c.slice.ensures.extends c.slice.ensures.grows)

pub returns-in_err-high-clause-full : goal.returns-in_err-high-clause-full
returns-in_err-high-clause-full c e = let full = c.slice.ensures.full.0 (handed_on _ _ _ _ c.in_err-high.was c.from_residual.ensures.1 e) in omega (arith, full)

pub returns-clause-adds : goal.returns-clause-adds
returns-clause-adds c = adds_fewer _ _ _ _ (omega arith) (adds_twice _ _ _ _ _ (grows_once _ _ c.slice.ensures.extends c.slice.ensures.grows) c.raise.ensures.adds)

pub returns-clause-full : goal.returns-clause-full
returns-clause-full c e =
    let most0 = c.slice.ensures.grows.most in
    let full = c.raise.ensures.full e in
    omega (arith, most0, full)

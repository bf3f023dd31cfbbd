use Rattle.std.proofs.Common.{◌≡◌, ◌*◌, ◌^◌, Option, subst, ap, ◌∙◌, arith}
use Rattle.std.specs.Prelude.{IfSome}
use Rattle.av_base.specs.Word.{Word, word}
use Rattle.netlist.specs.Runs.{Always}
use Rattle.net_parts.specs.Laws.{if_ok}
use Rattle.command_nets.proofs.words.raise.Goals as goal

pub returns-clause-value : goal.returns-clause-value
returns-clause-value c =
    if_ok c.concat.result _ (λ made. Always c.concat.new.self (λ cycle. cycle.net made.number ≡ cycle.net c.args.net.number * 2 ^ c.args.zeros))
    (λ made value cycle v. (
    let zero : c.unwrap.result ≡ word c.args.zeros 0 = subst (λ (o : Option Word). IfSome o (λ v. v ≡ word c.args.zeros 0)) c.unwrap.ensures c.new.ensures.value in
    let low : cycle.net c.in_ok-low.low.number ≡ 0 = (c.in_ok-low.ensures.value cycle (c.concat.ensures.extends.valuations cycle v)).1 ∙ ap (λ (w : Word). w.bits) zero in
    let width : c.in_ok-low.low.width ≡ c.args.zeros = c.in_ok-low.ensures.net.1 ∙ ap (λ (w : Word). w.width) zero in
    let product : cycle.net c.args.net.number * 2 ^ c.in_ok-low.low.width ≡ cycle.net c.args.net.number * 2 ^ c.args.zeros = ap (λ k. cycle.net c.args.net.number * 2 ^ k) width in
    let whole = (value cycle v).1 in
    omega (arith, whole, product, low)))
    c.concat.ensures.value

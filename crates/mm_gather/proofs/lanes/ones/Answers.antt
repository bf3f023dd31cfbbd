use Rattle.std.proofs.Common.{◌≡◌, ◌-◌, ◌^◌, ap₂, ◌∙◌, arith}
use Rattle.netlist.specs.Runs.{Always}
use Rattle.net_parts.specs.Laws.{if_ok}
use Rattle.mm_gather.proofs.lanes.ones.Goals as goal

pub returns-clause-value : goal.returns-clause-value
returns-clause-value c =
    if_ok c.not.result _ (λ made. Always c.not.new.self (λ cycle. cycle.net made.number ≡ 2 ^ c.args.bits - 1))
    (λ made value cycle v. (
    let v0 = c.not.ensures.extends.valuations cycle v in
    let whole : 2 ^ c.args.bits - 1 - 0 ≡ 2 ^ c.args.bits - 1 = omega arith in
    (value cycle v).1 ∙ ap₂ (λ k n. 2 ^ k - 1 - n) c.in_ok-zeros.ensures.net.has_width (c.in_ok-zeros.ensures.value cycle v0) ∙ whole))
    c.not.ensures.value

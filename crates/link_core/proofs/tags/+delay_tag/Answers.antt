use Rattle.std.proofs.Common.{◌≡◌, ◌+◌, ◌-◌, ap, ◌∙◌, arith}
use Rattle.net_parts.specs.Laws.{if_ok}
use Rattle.link_core.specs.PipeNets.{IsLaterBy}
use Rattle.link_core.proofs.tags.+delay_tag.Goals as goal

pub returns-clause-value : goal.returns-clause-value
returns-clause-value t c =
    if_ok c.delay_net.result _ (λ late. IsLaterBy c.delay_net.new.builder c.args.count c.args.from late)
    (λ late value. record {
      value = λ run endless n.
          (let some = c.if-count-eq0.false in
          let before = c.args.count - 1 + n in
          let next : c.args.count + n ≡ before + 1 = omega (arith, some) in
          ap (λ k. run.net k late.number) next ∙ value.next run (before + 2) (endless (before + 2)) before (omega arith)
          ∙ c.in_ok-late.ensures.value.value run (λ cycles. c.delay_net.ensures.grows.extends.runs run cycles (endless cycles)) n);
    })
    c.delay_net.ensures.value

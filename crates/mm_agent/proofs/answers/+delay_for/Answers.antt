use Rattle.std.proofs.Common.{◌≡◌, ◌-◌, suc, subst, arith}
use Rattle.net_parts.specs.Histories.{earlier}
use Rattle.net_parts.specs.Laws.{if_ok}
use Rattle.mm_agent.specs.Answers.{IsEarlier}
use Rattle.mm_agent.proofs.Rows.{earlier_step}
use Rattle.mm_agent.proofs.answers.+delay_for.Goals as goal

pub returns-clause-value : goal.returns-clause-value
returns-clause-value t c =
    let back : suc (c.args.count - 1) ≡ c.args.count = (let some = c.if-count-eq0.false in omega (arith, some)) in
    if_ok c.delay.result _ (λ late. IsEarlier c.delay.new.builder c.args.from late c.args.count)
    (λ late value. record {
      value = λ run cycles r n lt.
          (let before = c.delay.ensures.grows.extends.runs run cycles r in
          subst (λ k. run.net n late.number ≡ earlier (λ d. run.net d c.args.from.number) k n) back (earlier_step (λ d. run.net d c.args.from.number) (λ d. run.net d c.in_ok-late.late.number) (λ d. run.net d late.number) (c.args.count - 1) n cycles (c.in_ok-late.ensures.value.value run cycles before) (λ some. value.starts run cycles r some) (value.next run cycles r) lt));
    })
    c.delay.ensures.value

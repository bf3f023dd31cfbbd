use Rattle.std.proofs.Common.{◌≡◌, Option, nat_lt, if◌then◌else◌, subst, ap, ◌∙◌, arith}
use Rattle.std.specs.Prelude.{IfSome}
use Rattle.av_base.specs.Word.{Word, word}
use Rattle.netlist.specs.Runs.{Always}
use Rattle.net_parts.specs.Laws.{if_ok, adds_fewer, adds_twice, grows_once}
use Rattle.net_parts.proofs.makers.is_above.Goals as goal

pub returns-clause-value : goal.returns-clause-value
returns-clause-value c =
    if_ok c.less.result _ (λ above. Always c.less.new.self (λ cycle. cycle.net above.number ≡ (if nat_lt c.args.largest (cycle.net c.args.net.number) then 1 else 0)))
    (λ above value cycle v2. (
    let v1 = c.less.ensures.extends.valuations cycle v2 in
    let limit : c.unwrap.result ≡ word c.args.bits c.args.largest = subst (λ (o : Option Word). IfSome o (λ v. v ≡ word c.args.bits c.args.largest)) c.unwrap.ensures (subst (λ n. IfSome c.new.result (λ v. v ≡ word c.args.bits n)) c.from.ensures c.new.ensures.value) in
    (value cycle v2).1 ∙ ap (λ n. if nat_lt n (cycle.net c.args.net.number) then 1 else 0) ((c.in_ok-limit.ensures.value cycle v1).1 ∙ ap (λ (w : Word). w.bits) limit)))
    c.less.ensures.value

pub returns-in_err-limit-clause-adds : goal.returns-in_err-limit-clause-adds
returns-in_err-limit-clause-adds c = adds_fewer _ _ _ _ (omega arith) (grows_once _ _ c.constant.ensures.extends c.constant.ensures.grows)

pub returns-clause-adds : goal.returns-clause-adds
returns-clause-adds c = adds_fewer _ _ _ _ (omega arith) (adds_twice _ _ _ _ _ (grows_once _ _ c.constant.ensures.extends c.constant.ensures.grows) (grows_once _ _ c.less.ensures.extends c.less.ensures.grows))

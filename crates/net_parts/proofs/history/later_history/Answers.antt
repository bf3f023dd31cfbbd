use Rattle.std.proofs.Common.{◌≡◌, ◌+◌, ◌-◌, ◌*◌, ◌/◌, ◌%◌, ◌^◌, subst, ◌∙◌, arith}
use Rattle.netlist.specs.Runs.{Always}
use Rattle.net_parts.specs.Nets.{IsNetOfWidth}
use Rattle.net_parts.specs.Laws.{if_ok, adds_fewer, adds_twice, grows_once}
use Rattle.net_parts.specs.HistoryLaw.{kept_none, kept_some}
use Rattle.net_parts.proofs.history.later_history.Goals as goal

pub returns-then-width-eq1-clause-net : goal.returns-then-width-eq1-clause-net
returns-then-width-eq1-clause-net c = record { is_net = c.requires.bit.is_net; has_width = c.requires.bit.has_width ∙ omega arith }

pub returns-then-width-eq1-clause-value : goal.returns-then-width-eq1-clause-value
returns-then-width-eq1-clause-value c cycle v = kept_none (cycle.net c.args.bit.number) (cycle.net c.args.history.number) c.args.history.width (omega arith)

pub returns-clause-net : goal.returns-clause-net
returns-clause-net c =
    if_ok c.concat.result _ (λ later. IsNetOfWidth c.concat.new.self later c.args.history.width)
    (λ later net. record { is_net = net.0; has_width = net.1 ∙ (let kept = c.in_ok-kept.ensures.net.1 in let one = c.requires.bit.has_width in omega arith) }) c.concat.ensures.net

pub returns-clause-value : goal.returns-clause-value
returns-clause-value c =
    if_ok c.concat.result _ (λ later. Always c.concat.new.self (λ cycle. cycle.net later.number ≡ cycle.net c.args.bit.number + 2 * (cycle.net c.args.history.number % 2 ^ (c.args.history.width - 1))))
    (λ later value cycle v2. (
    let v1 = c.concat.ensures.extends.valuations cycle v2 in
    kept_some (cycle.net c.args.history.number) (cycle.net c.in_ok-kept.kept.number) (cycle.net later.number) (cycle.net c.args.bit.number) c.args.history.width c.args.bit.width (omega arith) c.requires.bit.has_width
    (subst (λ n. cycle.net c.in_ok-kept.kept.number ≡ cycle.net c.args.history.number / 2 ^ 0 % 2 ^ (n - 2 - 0 + 1)) c.width-width.ensures.value (c.in_ok-kept.ensures.value cycle v1).1) (value cycle v2).1))
    c.concat.ensures.value

pub returns-in_err-kept-clause-adds : goal.returns-in_err-kept-clause-adds
returns-in_err-kept-clause-adds c = adds_fewer _ _ _ _ (omega arith) (grows_once _ _ c.slice.ensures.extends c.slice.ensures.grows)

pub returns-clause-adds : goal.returns-clause-adds
returns-clause-adds c = adds_fewer _ _ _ _ (omega arith) (adds_twice _ _ _ _ _ (grows_once _ _ c.slice.ensures.extends c.slice.ensures.grows) (grows_once _ _ c.concat.ensures.extends c.concat.ensures.grows))

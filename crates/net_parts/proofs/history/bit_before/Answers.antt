use Rattle.std.proofs.Common.{◌≡◌, ◌+◌, ◌-◌, ◌/◌, ◌%◌, ◌^◌, ap, ◌∙◌, arith}
use Rattle.std.specs.Int.{bit_at}
use Rattle.netlist.specs.Runs.{Always}
use Rattle.net_parts.specs.Nets.{IsBit}
use Rattle.net_parts.specs.Laws.{if_ok}
use Rattle.net_parts.proofs.history.bit_before.Goals as goal

pub returns-clause-net : goal.returns-clause-net
returns-clause-net c = if_ok c.slice.result _ (IsBit c.slice.new.self) (λ bit net. record { is_net = net.0; has_width = net.1 ∙ omega arith }) c.slice.ensures.net

pub returns-clause-value : goal.returns-clause-value
returns-clause-value c =
    if_ok c.slice.result _ (λ bit. Always c.slice.new.self (λ cycle. cycle.net bit.number ≡ bit_at (cycle.net c.args.history.number) (c.args.cycles - 1)))
    (λ bit value cycle v. (
    let one : c.args.cycles - 1 - (c.args.cycles - 1) + 1 ≡ 1 = omega arith in
    (value cycle v).1 ∙ ap (λ n. cycle.net c.args.history.number / 2 ^ (c.args.cycles - 1) % 2 ^ n) one)) c.slice.ensures.value

use Rattle.std.proofs.Common.{arith}
use Rattle.netlist.specs.Nets.{NetValue}
use Rattle.net_parts.specs.Laws.{if_ok, adds_fewer, adds_twice}
use Rattle.st_gather.specs.Flows.{CountsOn}
use Rattle.st_gather.proofs.gather.counts_then.Goals as goal

pub returns-clause-value : goal.returns-clause-value
returns-clause-value c =
    if_ok c.later_counts.result _ (λ (later : NetValue). CountsOn c.later_counts.new.builder c.args.shape c.args.bits c.args.counts c.args.channel c.args.flow.now later)
    (λ later value. record {
      next = c.in_ok-next.next;
      next_is = λ cycle v. c.in_ok-next.ensures.value cycle (c.later_counts.ensures.adds.grows.extends.valuations cycle v);
      later_is = value;
    })
    c.later_counts.ensures.value

pub returns-clause-adds : goal.returns-clause-adds
returns-clause-adds c =
    let some = c.requires.shape.some_channels in
    adds_fewer _ _ _ _ (omega (arith, some)) (adds_twice _ _ _ _ _ c.next_count.ensures.adds c.later_counts.ensures.adds)

use Rattle.std.proofs.Common.{◌+◌, Option, sym, ap, ◌∙◌}
use Rattle.netlist.specs.Nets.{NetValue}
use Rattle.netlist.specs.Runs.{Cycle, cycle_of}
use Rattle.net_parts.specs.Laws.{if_ok}
use Rattle.command_nets.specs.Ports.{value_or}
use Rattle.mm_agent.specs.Answers.{GivesRowPort}
use Rattle.mm_agent.proofs.answers.row_port.Goals as goal

pub returns-in-None-clause-value : goal.returns-in-None-clause-value
returns-in-None-clause-value c =
    let low = λ (cycle : Cycle). ap (λ (o : Option NetValue). value_or 0 o cycle) c.in-None.is in
    if_ok c.constant.result _ (GivesRowPort c.constant.new.builder c.args.port.now c.args.given)
    (λ made value. record {
      soon = λ some cycle v. value cycle v ∙ sym (low cycle);
      late = λ none run cycles r n lt. value (cycle_of run (n + 1)) (r.valuations (n + 1) lt) ∙ sym (low (cycle_of run n));
    })
    c.constant.ensures.value

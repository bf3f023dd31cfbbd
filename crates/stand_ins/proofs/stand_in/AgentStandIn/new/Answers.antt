use Rattle.std.proofs.Common.{replicate, refl, ap, ◌∙◌}
use Rattle.memory_runs.specs.Sides.{agent_side}
use Rattle.stand_ins.specs.Answers.{no_answer}
use Rattle.stand_ins.proofs.stand_in.AgentStandIn.new.Goals as goal
use Rattle.stand_ins.proofs.stand_in.AgentStandIn.new.Goals.{then-port, else-port}

pub returns : goal.returns
returns c = record {
  port_is = refl;
  stalls = c.stall_pattern.ensures;
  latency = c.latency.ensures;
  codes = c.coded.ensures (agent_side c.args.port.now);
  cycle = refl;
  cycles_are = refl;
  stood = refl;
  burst = refl;
  contents = c.in_ok-memory.ensures.contents;
  waiting = c.in_ok-waiting.ensures.waiting;
  delayed = λ fixed. c.in_ok-delayed.ensures ∙ ap (λ cycles. replicate cycles no_answer)
      (elim c.if-port.branch [ then-port w ↦ absurd (cc) | else-port w ↦ w.delay-is ]);
}

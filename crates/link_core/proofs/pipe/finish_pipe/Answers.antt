use Rattle.std.proofs.Common.{subst}
use Rattle.net_parts.specs.Growth.{GrowsBy}
use Rattle.net_parts.specs.Memories.{BackwardGrows, backward_grown}
use Rattle.netlist.specs.Nets.{NetValue}
use Rattle.net_parts.specs.Laws.{if_ok}
use Rattle.command_nets.specs.declared.nets.CommandNets.{CommandNets}
use Rattle.command_nets.specs.declared.nets.AnswerNets.{AnswerNets}
use Rattle.link_core.specs.PipeForms.{Pipe, pipe_of}
use Rattle.link_core.specs.PipeNets.{PipeCommand, StagesInLonger}
use Rattle.link_core.proofs.PipeLaw.{RunsThrough, for_pipe, all_stages, none_stored, answered, runs_between}
use Rattle.link_core.proofs.pipe.finish_pipe.Goals as goal

pub returns-clause-machine : goal.returns-clause-machine
returns-clause-machine c =
    if_ok c.emit_answer.result _
    (λ (p : NetValue × AnswerNets). (from to : CommandNets) → PipeCommand c.args.stages from to c.args.kept c.args.builder.now → StagesInLonger c.args.stages c.emit_answer.new.builder from p.0 p.1 to c.args.wait c.args.answer)
    (λ p made. runs_between c.args.stages c.requires.few (subst RunsThrough c.pipe_of-pipe.ensures c.line.ensures.machines) c.args.kept c.args.wait c.args.answer p.0 p.1 c.args.builder.now c.emit_answer.new.builder (backward_grown _ _ _ _ c.emit_answer.ensures.grows).extends
    (subst (λ (pipe : Pipe). answered pipe c.args.kept c.args.wait c.args.answer p.0 p.1 c.emit_answer.new.builder) c.pipe_of-pipe.ensures made))
    c.emit_answer.ensures.made

pub returns-clause-grows : goal.returns-clause-grows
returns-clause-grows c =
    subst (λ count. GrowsBy count c.args.builder.now c.emit_answer.new.builder) (all_stages 24 c.args.stages c.requires.few)
    (subst (λ stored. BackwardGrows stored (for_pipe 24 (pipe_of c.args.stages)) c.args.builder.now c.emit_answer.new.builder) (none_stored c.args.stages c.requires.few)
    (subst (λ (pipe : Pipe). BackwardGrows (for_pipe 0 pipe) (for_pipe 24 pipe) c.args.builder.now c.emit_answer.new.builder) c.pipe_of-pipe.ensures c.emit_answer.ensures.grows))

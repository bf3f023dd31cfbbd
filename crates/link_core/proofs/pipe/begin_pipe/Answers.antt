use Rattle.std.proofs.Common.{◌≡◌, ℕ, ◌+◌, ◌*◌, ◌^◌, ◌<◌, ◌≤◌, length, sym, subst}
use Rattle.netlist.specs.Netlists.{Netlist}
use Rattle.net_parts.specs.Growth.{GrowsBy}
use Rattle.net_parts.specs.Laws.{owned_same}
use Rattle.net_parts.specs.Memories.{ForwardGrows}
use Rattle.net_parts.specs.Refusing.{handed_on}
use Rattle.link_core.specs.PipeForms.{Pipe, pipe_of}
use Rattle.link_core.specs.PipeNets.{command_lasts, none_kept}
use Rattle.link_core.specs.Rooms.{WithRoomFor}
use Rattle.link_core.proofs.PipeLaw.{for_pipe, all_stages, none_stored, through}
use Rattle.link_core.proofs.pipe.begin_pipe.Goals as goal

-- a pipe makes nets alone
grown : (stages : ℕ) (pipe : Pipe) (old new : Netlist) → stages ≤ 4 → pipe ≡ pipe_of stages → ForwardGrows (for_pipe 0 pipe) (for_pipe 16 pipe) old new → GrowsBy (16 * stages) old new
grown stages pipe old new few is grows =
    subst (λ count. GrowsBy count old new) (all_stages 16 stages few)
    (subst (λ stored. ForwardGrows stored (for_pipe 16 (pipe_of stages)) old new) (none_stored stages few)
    (subst (λ (pipe : Pipe). ForwardGrows (for_pipe 0 pipe) (for_pipe 16 pipe) old new) is grows))

pub returns-clause-grows : goal.returns-clause-grows
returns-clause-grows c = grown c.args.stages c.pipe_of-pipe.result c.args.builder.now c.emit_command.new.builder c.requires.few c.pipe_of-pipe.ensures c.emit_command.ensures.grows

pub returns-in_err-to-clause-grows : goal.returns-in_err-to-clause-grows
returns-in_err-to-clause-grows c = grown c.args.stages c.pipe_of-pipe.result c.args.builder.now c.emit_command.new.builder c.requires.few c.pipe_of-pipe.ensures c.emit_command.ensures.grows

pub returns-in_err-to-clause-full : goal.returns-in_err-to-clause-full
returns-in_err-to-clause-full c e =
    subst (λ count. 2 ^ 20 < length c.args.builder.now.lines + count) (all_stages 16 c.args.stages c.requires.few)
    (subst (λ stored. WithRoomFor stored c.args.builder.now (2 ^ 20 < length c.args.builder.now.lines + for_pipe 16 (pipe_of c.args.stages))) (none_stored c.args.stages c.requires.few)
    (subst (λ (pipe : Pipe). WithRoomFor (for_pipe 0 pipe) c.args.builder.now (2 ^ 20 < length c.args.builder.now.lines + for_pipe 16 pipe)) c.pipe_of-pipe.ensures
    (c.emit_command.ensures.full (handed_on _ _ _ _ c.in_err-to.was c.from_residual.ensures.1 e))))

pub returns-clause-ignores_answer : goal.returns-clause-ignores_answer
returns-clause-ignores_answer c longer e one other v w state same =
    let here = subst (λ (pipe : Pipe). through pipe c.args.from c.in_ok-to.to c.in_ok-to.kept c.emit_command.new.builder) c.pipe_of-pipe.ensures c.in_ok-to.ensures.made in
    let made = command_lasts c.args.stages c.args.from c.in_ok-to.to c.in_ok-to.kept c.emit_command.new.builder longer here e in
    c.law.ensures.ignores_answer c.args.from c.in_ok-to.to c.in_ok-to.kept longer (subst (λ (pipe : Pipe). through pipe c.args.from c.in_ok-to.to c.in_ok-to.kept longer) (sym c.pipe_of-pipe.ensures) made) one other v w
    (λ n o. owned_same c.emit_command.new.builder longer n one other c.well_made.ensures e (c.in_ok-to.ensures.own_wait n o) state) (λ m memory o. absurd (none_kept c.in_ok-to.kept m o)) same

use Rattle.std.proofs.Common.{sym, subst, ap, ◌∙◌}
use Rattle.std.specs.Prelude.{Some, unwrap_or, option_map}
use Rattle.net_parts.specs.Memories.{ForwardGrows, ForwardMemories}
use Rattle.stage_core.specs.Beats.{widths_of}
use Rattle.stage_core.specs.MaybeNets.{kept_of, forward_of}
use Rattle.stage_core.proofs.maybe.MaybeStage.emit_forward.Goals as goal

pub returns-in_err-to-in-Some-clause-grows : goal.returns-in_err-to-in-Some-clause-grows
returns-in_err-to-in-Some-clause-grows g c = subst (λ stage. ForwardGrows (unwrap_or (option_map g.S.Stage.memories stage) 0) (unwrap_or (option_map g.S.Stage.forward_nets stage) 0) c.args.builder.now c.emit_forward.new.builder) (sym c.in-Some.is) c.emit_forward.ensures.grows

pub returns-in_ok-to-in-Some-clause-widths : goal.returns-in_ok-to-in-Some-clause-widths
returns-in_ok-to-in-Some-clause-widths g c =
    c.in_ok-to-in-Some.ensures.widths ∙ ap (λ stage. unwrap_or (option_map (λ part. g.S.Stage.gives part (widths_of c.args.from)) stage) (widths_of c.args.from)) (sym c.in-Some.is)

pub returns-in_ok-to-in-Some-clause-kept : goal.returns-in_ok-to-in-Some-clause-kept
returns-in_ok-to-in-Some-clause-kept g c = subst (λ stage. kept_of g.S.Stage.is_kept stage (Some c.in_ok-to-in-Some.held) c.emit_forward.new.builder) (sym c.in-Some.is) c.in_ok-to-in-Some.ensures.kept

pub returns-in_ok-to-in-Some-clause-made : goal.returns-in_ok-to-in-Some-clause-made
returns-in_ok-to-in-Some-clause-made g c =
    subst (λ stage. forward_of g.S.Stage.forward_in stage c.args.from c.in_ok-to-in-Some.to (Some c.in_ok-to-in-Some.held) c.emit_forward.new.builder) (sym c.in-Some.is) c.in_ok-to-in-Some.ensures.made

pub returns-in_ok-to-in-Some-clause-grows : goal.returns-in_ok-to-in-Some-clause-grows
returns-in_ok-to-in-Some-clause-grows g c = subst (λ stage. ForwardGrows (unwrap_or (option_map g.S.Stage.memories stage) 0) (unwrap_or (option_map g.S.Stage.forward_nets stage) 0) c.args.builder.now c.emit_forward.new.builder) (sym c.in-Some.is) c.emit_forward.ensures.grows

pub returns-in_ok-to-in-Some-clause-written : goal.returns-in_ok-to-in-Some-clause-written
returns-in_ok-to-in-Some-clause-written g c =
    subst (λ stage. ForwardMemories (unwrap_or (option_map g.S.Stage.memories stage) 0) (g.S.Stage.owns_memories c.in_ok-to-in-Some.held) c.args.builder.now c.emit_forward.new.builder) (sym c.in-Some.is) c.in_ok-to-in-Some.ensures.written

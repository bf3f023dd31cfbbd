use Rattle.std.proofs.Common.{sym, subst, ap, ◌∙◌, ◌+◌, ◌^◌, ◌<◌, length, inl}
use Rattle.std.specs.Prelude.{Some, unwrap_or, option_map, IfSome}
use Rattle.net_parts.specs.Memories.{ForwardGrows, ForwardMemories}
use Rattle.link_core.specs.Rooms.{WithRoomFor}
use Rattle.command_nets.specs.Nets.{widths_of}
use Rattle.link_core.specs.MaybeNets.{kept_of, command_of}
use Rattle.net_parts.specs.Laws.{grows_none}
use Rattle.net_parts.specs.Refusing.{handed_on}
use Rattle.link_core.proofs.maybe.MaybeLink.emit_command.Goals as goal

pub returns-in_err-to-in-Some-clause-grows : goal.returns-in_err-to-in-Some-clause-grows
returns-in_err-to-in-Some-clause-grows g c = subst (λ link. ForwardGrows (unwrap_or (option_map g.L.Link.memories link) 0) (unwrap_or (option_map g.L.Link.command_nets link) 0) c.args.builder.now c.emit_command.new.builder) (sym c.in-Some.is) c.emit_command.ensures.grows

pub returns-in_ok-to-in-Some-clause-widths : goal.returns-in_ok-to-in-Some-clause-widths
returns-in_ok-to-in-Some-clause-widths g c =
    c.in_ok-to-in-Some.ensures.widths ∙ ap (λ link. unwrap_or (option_map (λ part. g.L.Link.gives part (widths_of c.args.from)) link) (widths_of c.args.from)) (sym c.in-Some.is)

pub returns-in_ok-to-in-Some-clause-kept : goal.returns-in_ok-to-in-Some-clause-kept
returns-in_ok-to-in-Some-clause-kept g c = subst (λ link. kept_of g.L.Link.is_kept link (Some c.in_ok-to-in-Some.held) c.emit_command.new.builder) (sym c.in-Some.is) c.in_ok-to-in-Some.ensures.kept

pub returns-in_ok-to-in-Some-clause-made : goal.returns-in_ok-to-in-Some-clause-made
returns-in_ok-to-in-Some-clause-made g c =
    subst (λ link. command_of g.L.Link.command_in link c.args.from c.in_ok-to-in-Some.to (Some c.in_ok-to-in-Some.held) c.emit_command.new.builder) (sym c.in-Some.is) c.in_ok-to-in-Some.ensures.made

pub returns-in_ok-to-in-Some-clause-grows : goal.returns-in_ok-to-in-Some-clause-grows
returns-in_ok-to-in-Some-clause-grows g c = subst (λ link. ForwardGrows (unwrap_or (option_map g.L.Link.memories link) 0) (unwrap_or (option_map g.L.Link.command_nets link) 0) c.args.builder.now c.emit_command.new.builder) (sym c.in-Some.is) c.emit_command.ensures.grows

pub emit_command-requires-clause-from : goal.emit_command-requires-clause-from
emit_command-requires-clause-from g c = c.requires.from

pub emit_command-requires-clause-widths : goal.emit_command-requires-clause-widths
emit_command-requires-clause-widths g c = subst (λ link. IfSome link (λ part. g.L.Link.takes part (widths_of c.args.from))) c.in-Some.is c.requires.widths

pub returns-in_err-to-in-Some-clause-waits : goal.returns-in_err-to-in-Some-clause-waits
returns-in_err-to-in-Some-clause-waits g c n w = c.emit_command.ensures.waits n w

pub returns-in_err-to-in-Some-clause-full : goal.returns-in_err-to-in-Some-clause-full
returns-in_err-to-in-Some-clause-full g c e =
    subst (λ link. WithRoomFor (unwrap_or (option_map g.L.Link.memories link) 0) c.args.builder.now (2 ^ 20 < length c.args.builder.now.lines + unwrap_or (option_map g.L.Link.command_nets link) 0)) (sym c.in-Some.is)
    (c.emit_command.ensures.full (handed_on _ _ _ _ c.in_err-to-in-Some.was c.from_residual.ensures.1 e))

pub returns-in_ok-to-in-Some-clause-waits : goal.returns-in_ok-to-in-Some-clause-waits
returns-in_ok-to-in-Some-clause-waits g c n w = c.emit_command.ensures.waits n w

pub returns-in_ok-to-in-Some-clause-full : goal.returns-in_ok-to-in-Some-clause-full
returns-in_ok-to-in-Some-clause-full g c e = cc

pub returns-in_ok-to-in-Some-clause-written : goal.returns-in_ok-to-in-Some-clause-written
returns-in_ok-to-in-Some-clause-written g c =
    subst (λ link. ForwardMemories (unwrap_or (option_map g.L.Link.memories link) 0) (g.L.Link.owns_memories c.in_ok-to-in-Some.held) c.args.builder.now c.emit_command.new.builder) (sym c.in-Some.is) c.in_ok-to-in-Some.ensures.written

pub returns-in_ok-to-in-Some-clause-command : goal.returns-in_ok-to-in-Some-clause-command
returns-in_ok-to-in-Some-clause-command g c = c.in_ok-to-in-Some.ensures.command

pub returns-in_ok-to-in-Some-clause-owned : goal.returns-in_ok-to-in-Some-clause-owned
returns-in_ok-to-in-Some-clause-owned g c n o = c.in_ok-to-in-Some.ensures.owned n o

pub returns-in_ok-to-in-Some-clause-own_wait : goal.returns-in_ok-to-in-Some-clause-own_wait
returns-in_ok-to-in-Some-clause-own_wait g c n o = c.in_ok-to-in-Some.ensures.own_wait n o

pub returns-in_ok-to-in-Some-clause-newly : goal.returns-in_ok-to-in-Some-clause-newly
returns-in_ok-to-in-Some-clause-newly g c n w = c.in_ok-to-in-Some.ensures.newly n w

pub returns-in-None-clause-grows : goal.returns-in-None-clause-grows
returns-in-None-clause-grows g c = subst (λ link. ForwardGrows (unwrap_or (option_map g.L.Link.memories link) 0) (unwrap_or (option_map g.L.Link.command_nets link) 0) c.args.builder.now c.args.builder.now) (sym c.in-None.is) (grows_none _)

pub returns-in-None-clause-waits : goal.returns-in-None-clause-waits
returns-in-None-clause-waits g c n w = w

pub returns-in-None-clause-full : goal.returns-in-None-clause-full
returns-in-None-clause-full g c e = cc

pub returns-in-None-clause-command : goal.returns-in-None-clause-command
returns-in-None-clause-command g c = c.requires.from

pub returns-in-None-clause-owned : goal.returns-in-None-clause-owned
returns-in-None-clause-owned g c n o = absurd o

pub returns-in-None-clause-own_wait : goal.returns-in-None-clause-own_wait
returns-in-None-clause-own_wait g c n o = absurd o

pub returns-in-None-clause-newly : goal.returns-in-None-clause-newly
returns-in-None-clause-newly g c n w = inl w

pub returns-in-None-clause-written : goal.returns-in-None-clause-written
returns-in-None-clause-written g c = subst (λ link. ForwardMemories (unwrap_or (option_map g.L.Link.memories link) 0) (λ m. ⊥) c.args.builder.now c.args.builder.now) (sym c.in-None.is) (λ m o. o)

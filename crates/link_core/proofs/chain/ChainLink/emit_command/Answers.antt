use Rattle.std.proofs.Common.{sym, subst, ap, ◌∙◌, inl, inr, arith}
use Rattle.net_parts.specs.Memories.{forward_grown, forward_fewer, forward_twice, forward_memories, memories_come}
use Rattle.link_core.specs.Rooms.{first_told, second_told}
use Rattle.net_parts.specs.Refusing.{handed_on}
use Rattle.link_core.proofs.chain.ChainLink.emit_command.Goals as goal

pub returns-clause-kept : goal.returns-clause-kept
returns-clause-kept g c =
    let grown = forward_grown _ _ _ _ c.emit_command-2.ensures.grows in
    let earlier = memories_come _ _ _ _ _ c.emit_command.ensures.grows c.in_ok-middle.ensures.written in
    let later = memories_come _ _ _ _ _ c.emit_command-2.ensures.grows c.in_ok-to.ensures.written in
    record {
      first = g.met.A.Link.kept_lasts _ _ _ _ c.in_ok-middle.ensures.kept grown.extends (λ n o. c.emit_command-2.ensures.waits n) (λ m o. later.still m);
      second = c.in_ok-to.ensures.kept;
      apart = λ n o p. (let before = c.in_ok-middle.ensures.owned n o in let behind = c.in_ok-to.ensures.owned n p in omega arith);
      memories_apart = λ m o p. (let before = earlier.between m o in let behind = later.between m p in omega arith);
    }

pub returns-clause-owned : goal.returns-clause-owned
returns-clause-owned g c n o =
    elim o [
      | inl p ↦ (let at = c.in_ok-middle.ensures.owned n p in let more = (forward_grown _ _ _ _ c.emit_command-2.ensures.grows).extends.count in (at.0, omega arith))
      | inr p ↦ (let at = c.in_ok-to.ensures.owned n p in let more = (forward_grown _ _ _ _ c.emit_command.ensures.grows).extends.count in (omega arith, at.1))
    ]

pub returns-clause-made : goal.returns-clause-made
returns-clause-made g c = record {
  middle = c.in_ok-middle.middle;
  first = g.met.A.Link.command_lasts _ _ _ _ _ _ c.in_ok-middle.ensures.made (forward_grown _ _ _ _ c.emit_command-2.ensures.grows).extends;
  second = c.in_ok-to.ensures.made;
}

pub returns-clause-own_wait : goal.returns-clause-own_wait
returns-clause-own_wait g c n o =
    elim o [
      | inl p ↦ c.emit_command-2.ensures.waits n (c.in_ok-middle.ensures.own_wait n p)
      | inr p ↦ c.in_ok-to.ensures.own_wait n p
    ]

pub emit_command-requires-2-clause-widths : goal.emit_command-requires-2-clause-widths
emit_command-requires-2-clause-widths g c = subst (g.B.Link.takes c.args.self.now.second) (sym c.in_ok-middle.ensures.widths) c.requires.widths.1

pub returns-in_err-middle-clause-grows : goal.returns-in_err-middle-clause-grows
returns-in_err-middle-clause-grows g c = forward_fewer _ _ _ _ _ _ (omega arith) (omega arith) c.emit_command.ensures.grows

pub returns-in_err-to-clause-grows : goal.returns-in_err-to-clause-grows
returns-in_err-to-clause-grows g c = forward_twice (g.A.Link.memories c.args.self.now.first) (g.B.Link.memories c.args.self.now.second) _ _ _ _ _ c.emit_command.ensures.grows c.emit_command-2.ensures.grows

pub returns-in_err-to-clause-waits : goal.returns-in_err-to-clause-waits
returns-in_err-to-clause-waits g c n w = c.emit_command-2.ensures.waits n (c.emit_command.ensures.waits n w)

pub returns-clause-widths : goal.returns-clause-widths
returns-clause-widths g c = c.in_ok-to.ensures.widths ∙ ap (g.B.Link.gives c.args.self.now.second) c.in_ok-middle.ensures.widths

pub returns-clause-grows : goal.returns-clause-grows
returns-clause-grows g c = forward_twice (g.A.Link.memories c.args.self.now.first) (g.B.Link.memories c.args.self.now.second) _ _ _ _ _ c.emit_command.ensures.grows c.emit_command-2.ensures.grows

pub returns-clause-waits : goal.returns-clause-waits
returns-clause-waits g c n w = c.emit_command-2.ensures.waits n (c.emit_command.ensures.waits n w)

pub returns-clause-newly : goal.returns-clause-newly
returns-clause-newly g c n w =
    elim (c.in_ok-to.ensures.newly n w) [
      | inl before ↦ elim (c.in_ok-middle.ensures.newly n before) [ inl old ↦ inl old | inr own ↦ inr (inl own) ]
      | inr own ↦ inr (inr own)
    ]

pub emit_command-requires-clause-from : goal.emit_command-requires-clause-from
emit_command-requires-clause-from g c = c.requires.from

pub emit_command-requires-clause-widths : goal.emit_command-requires-clause-widths
emit_command-requires-clause-widths g c = c.requires.widths.0

pub emit_command-requires-2-clause-from : goal.emit_command-requires-2-clause-from
emit_command-requires-2-clause-from g c = c.in_ok-middle.ensures.command

pub returns-in_err-middle-clause-waits : goal.returns-in_err-middle-clause-waits
returns-in_err-middle-clause-waits g c n w = c.emit_command.ensures.waits n w

pub returns-in_err-middle-clause-full : goal.returns-in_err-middle-clause-full
returns-in_err-middle-clause-full g c e =
    first_told (g.A.Link.memories c.args.self.now.first) (g.B.Link.memories c.args.self.now.second) _ (λ full. omega (arith, full))
    (c.emit_command.ensures.full (handed_on _ _ _ _ c.in_err-middle.was c.from_residual.ensures.1 e))

pub returns-in_err-to-clause-full : goal.returns-in_err-to-clause-full
returns-in_err-to-clause-full g c e =
    let grown = forward_grown _ _ _ _ c.emit_command.ensures.grows in
    let most = grown.most in
    second_told (g.A.Link.memories c.args.self.now.first) (g.B.Link.memories c.args.self.now.second) _ c.emit_command.new.builder grown.most_memories (λ full. omega (arith, most, full))
    (c.emit_command-2.ensures.full (handed_on _ _ _ _ c.in_err-to.was c.from_residual-in_err-to.ensures.1 e))

pub returns-clause-full : goal.returns-clause-full
returns-clause-full g c e = cc

pub returns-clause-written : goal.returns-clause-written
returns-clause-written g c =
    forward_memories (g.A.Link.memories c.args.self.now.first) (g.B.Link.memories c.args.self.now.second) _ _ (g.A.Link.owns_memories c.in_ok-middle.first) (g.B.Link.owns_memories c.in_ok-to.second) _ _ _
    c.emit_command.ensures.grows c.in_ok-middle.ensures.written c.emit_command-2.ensures.grows c.in_ok-to.ensures.written

pub returns-clause-command : goal.returns-clause-command
returns-clause-command g c = c.in_ok-to.ensures.command

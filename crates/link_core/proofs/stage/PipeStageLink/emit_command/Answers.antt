use Rattle.std.proofs.Common.{ap, sym, subst, ◌+◌, ◌<◌, ◌≤◌, length, refl, ◌∙◌, arith, inl, inr}
use Rattle.net_parts.specs.Groups.{in_row}
use Rattle.command_nets.specs.declared.nets.CommandNets.{CommandNets}
use Rattle.command_nets.specs.Nets.{group_of, widths_of, AreCommandNets}
use Rattle.command_nets.specs.Groups.{command_lasts, waiting_lasts, widths_alike}
use Rattle.net_parts.specs.Laws.{grows_twice, grows_fewer}
use Rattle.net_parts.specs.Refusing.{handed_on}
use Rattle.link_core.proofs.stage.PipeStageLink.emit_command.Goals as goal

pub reg_command-requires-2 : goal.reg_command-requires-2
reg_command-requires-2 c = command_lasts _ _ _ c.reg_command.ensures.grows.extends c.requires.from

pub returns-in_err-second-clause-grows : goal.returns-in_err-second-clause-grows
returns-in_err-second-clause-grows c = grows_twice _ _ _ _ _ c.reg_command.ensures.grows c.reg_command-2.ensures.grows

pub returns-clause-grows : goal.returns-clause-grows
returns-clause-grows c = grows_twice _ _ _ _ _ c.reg_command.ensures.grows c.reg_command-2.ensures.grows

pub returns-clause-command : goal.returns-clause-command
returns-clause-command c =
    subst (λ (n : CommandNets). AreCommandNets c.reg_command-2.new.builder n) (sym c.copied-to.ensures) (command_lasts _ _ _ c.reg_command-2.ensures.grows.extends c.in_ok-first.ensures.command)

pub returns-clause-widths : goal.returns-clause-widths
returns-clause-widths c = ap widths_of c.copied-to.ensures ∙ widths_alike c.in_ok-first.first c.args.from c.in_ok-first.ensures.widths

pub returns-clause-kept : goal.returns-clause-kept
returns-clause-kept c = record {
  from = command_lasts _ _ _ c.reg_command-2.ensures.grows.extends (command_lasts _ _ _ c.reg_command.ensures.grows.extends c.requires.from);
  first = command_lasts _ _ _ c.reg_command-2.ensures.grows.extends c.in_ok-first.ensures.command;
  second = c.in_ok-second.ensures.command;
  first_widths = c.in_ok-first.ensures.widths;
  second_widths = c.in_ok-second.ensures.widths;
  first_waits = waiting_lasts c.reg_command.new.builder c.reg_command-2.new.builder c.in_ok-first.first (λ n o. c.reg_command-2.ensures.still_wait n) c.in_ok-first.ensures.waits;
  second_waits = c.in_ok-second.ensures.waits;
  apart = λ n o p. (
      let count = c.in_ok-first.ensures.count in
      let one = in_row (length c.args.builder.now.lines) (group_of c.in_ok-first.first) c.in_ok-first.ensures.numbers n o in
      let two = in_row (length c.reg_command.new.builder.lines) (group_of c.in_ok-second.second) c.in_ok-second.ensures.numbers n p in
      let below : n < length c.args.builder.now.lines + 8 = one.below in
      let least : length c.reg_command.new.builder.lines ≤ n = two.least in
      omega (arith, count, below, least));
}

pub returns-clause-owned : goal.returns-clause-owned
returns-clause-owned c n o =
    let count = c.in_ok-first.ensures.count in
    let more = c.in_ok-second.ensures.count in
    elim o [
      | inl p ↦ (let at = in_row (length c.args.builder.now.lines) (group_of c.in_ok-first.first) c.in_ok-first.ensures.numbers n p in let below : n < length c.args.builder.now.lines + 8 = at.below in (at.least, omega (arith, count, more, below)))
      | inr p ↦ (
          let at = in_row (length c.reg_command.new.builder.lines) (group_of c.in_ok-second.second) c.in_ok-second.ensures.numbers n p in
          let least : length c.reg_command.new.builder.lines ≤ n = at.least in
          let below : n < length c.reg_command.new.builder.lines + 8 = at.below in (omega (arith, count, least), omega (arith, more, below)))
    ]

pub returns-clause-made : goal.returns-clause-made
returns-clause-made c = record {
  from_is = refl;
  to_is = c.copied-to.ensures;
  first_starts = λ run cycles r. c.in_ok-first.ensures.starts run cycles (c.reg_command-2.ensures.grows.extends.runs run cycles r);
  second_starts = c.in_ok-second.ensures.starts;
}

pub returns-clause-own_wait : goal.returns-clause-own_wait
returns-clause-own_wait c n o =
    elim o [
      | inl p ↦ c.reg_command-2.ensures.still_wait n (c.in_ok-first.ensures.waits.wait n p)
      | inr p ↦ c.in_ok-second.ensures.waits.wait n p
    ]

pub returns-clause-newly : goal.returns-clause-newly
returns-clause-newly c n w =
    elim (c.in_ok-second.ensures.newly n w) [
      | inl old ↦ elim (c.in_ok-first.ensures.newly n old) [ inl older ↦ inl older | inr p ↦ inr (inl p) ]
      | inr p ↦ inr (inr p)
    ]

pub reg_command-requires : goal.reg_command-requires
reg_command-requires c = c.requires.from

pub returns-in_err-first-clause-grows : goal.returns-in_err-first-clause-grows
returns-in_err-first-clause-grows c = grows_fewer _ _ _ _ (omega arith) c.reg_command.ensures.grows

pub returns-in_err-first-clause-waits : goal.returns-in_err-first-clause-waits
returns-in_err-first-clause-waits c n w = c.reg_command.ensures.still_wait n w

pub returns-in_err-first-clause-full : goal.returns-in_err-first-clause-full
returns-in_err-first-clause-full c e = let full = c.reg_command.ensures.full (handed_on _ _ _ _ c.in_err-first.was c.from_residual.ensures.1 e) in omega (arith, full)

pub returns-in_err-second-clause-waits : goal.returns-in_err-second-clause-waits
returns-in_err-second-clause-waits c n w = c.reg_command-2.ensures.still_wait n (c.reg_command.ensures.still_wait n w)

pub returns-in_err-second-clause-full : goal.returns-in_err-second-clause-full
returns-in_err-second-clause-full c e =
    let most = c.reg_command.ensures.grows.most in
    let full = c.reg_command-2.ensures.full (handed_on _ _ _ _ c.in_err-second.was c.from_residual-in_err-second.ensures.1 e) in
    omega (arith, most, full)

pub returns-clause-waits : goal.returns-clause-waits
returns-clause-waits c n w = c.reg_command-2.ensures.still_wait n (c.reg_command.ensures.still_wait n w)

pub returns-clause-full : goal.returns-clause-full
returns-clause-full c e = cc

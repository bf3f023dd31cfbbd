use Rattle.std.proofs.Common.{sym, ◌∙◌, arith, length, ap, subst}
use Rattle.net_parts.specs.Laws.{grows_fewer}
use Rattle.net_parts.specs.Refusing.{handed_on}
use Rattle.command_nets.specs.declared.nets.CommandNets.{CommandNets}
use Rattle.mm_route.specs.Wire.{WireKeeps}
use Rattle.mm_route.specs.Entries.{AreEntries, is_lone, one_entry}
use Rattle.mm_route.proofs.route.emit_route.Goals as goal

pub returns-then-is_lone-clause-commands : goal.returns-then-is_lone-clause-commands
returns-then-is_lone-clause-commands c = c.in_ok-commands.ensures.commands

pub returns-then-is_lone-clause-count : goal.returns-then-is_lone-clause-count
returns-then-is_lone-clause-count c = ap (length {A = CommandNets}) c.in_ok-commands.ensures.only ∙ sym (one_entry c.args.entries.now c.args.command.address.width (ap (is_lone c.args.entries.now) (sym c.width.ensures.value) ∙ sym c.is_lone.ensures ∙ c.if-is_lone.true))

pub returns-then-is_lone-clause-kept : goal.returns-then-is_lone-clause-kept
returns-then-is_lone-clause-kept c = subst (λ n. WireKeeps c.in_ok-commands.wire n c.emit_wire.new.builder) (sym (one_entry c.args.entries.now c.args.command.address.width (ap (is_lone c.args.entries.now) (sym c.width.ensures.value) ∙ sym c.is_lone.ensures ∙ c.if-is_lone.true))) c.in_ok-commands.ensures.kept

pub returns-then-is_lone-clause-owned : goal.returns-then-is_lone-clause-owned
returns-then-is_lone-clause-owned c = c.in_ok-commands.ensures.owned

pub returns-then-is_lone-clause-made : goal.returns-then-is_lone-clause-made
returns-then-is_lone-clause-made c = record {
  kind = sym (ap (is_lone c.args.entries.now) (sym c.width.ensures.value) ∙ sym c.is_lone.ensures ∙ c.if-is_lone.true);
  made = record {
    command_is = c.in_ok-commands.ensures.command_is;
    entries_are = subst (λ (command : CommandNets). AreEntries command.address.width c.args.entries.now) (sym c.in_ok-commands.ensures.command_is) c.requires.entries;
    nets = c.in_ok-commands.ensures.kept.command;
    only = c.in_ok-commands.ensures.only;
    starts = c.in_ok-commands.ensures.starts;
    tag = c.in_ok-commands.ensures.tag;
  };
}

pub returns-then-is_lone-clause-latches : goal.returns-then-is_lone-clause-latches
returns-then-is_lone-clause-latches c = tt

pub returns-then-is_lone-clause-grows : goal.returns-then-is_lone-clause-grows
returns-then-is_lone-clause-grows c = grows_fewer _ _ _ _ (omega arith) c.emit_wire.ensures.grows

pub returns-then-is_lone-clause-waits : goal.returns-then-is_lone-clause-waits
returns-then-is_lone-clause-waits c = c.emit_wire.ensures.waits

pub returns-then-is_lone-clause-newly : goal.returns-then-is_lone-clause-newly
returns-then-is_lone-clause-newly c = c.in_ok-commands.ensures.newly

pub returns-then-is_lone-clause-full : goal.returns-then-is_lone-clause-full
returns-then-is_lone-clause-full c e = cc

pub returns-in_err-commands-clause-grows : goal.returns-in_err-commands-clause-grows
returns-in_err-commands-clause-grows c = grows_fewer _ _ _ _ (omega arith) c.emit_wire.ensures.grows

pub returns-in_err-commands-clause-waits : goal.returns-in_err-commands-clause-waits
returns-in_err-commands-clause-waits c = c.emit_wire.ensures.waits

pub returns-in_err-commands-clause-full : goal.returns-in_err-commands-clause-full
returns-in_err-commands-clause-full c e = let full = c.emit_wire.ensures.full (handed_on _ _ _ _ c.in_err-commands.was c.from_residual.ensures.1 e) in omega (arith, full)

pub returns-in_err-commands-2-clause-grows : goal.returns-in_err-commands-2-clause-grows
returns-in_err-commands-2-clause-grows c = c.emit_router.ensures.grows

pub returns-in_err-commands-2-clause-waits : goal.returns-in_err-commands-2-clause-waits
returns-in_err-commands-2-clause-waits c = c.emit_router.ensures.waits

pub returns-in_err-commands-2-clause-full : goal.returns-in_err-commands-2-clause-full
returns-in_err-commands-2-clause-full c e = c.emit_router.ensures.full (handed_on _ _ _ _ c.in_err-commands-2.was c.from_residual-in_err-commands-2.ensures.1 e)

pub returns-clause-commands : goal.returns-clause-commands
returns-clause-commands c = c.in_ok-commands-2.ensures.commands

pub returns-clause-count : goal.returns-clause-count
returns-clause-count c = c.in_ok-commands-2.ensures.count

pub returns-clause-kept : goal.returns-clause-kept
returns-clause-kept c = c.in_ok-commands-2.ensures.kept

pub returns-clause-owned : goal.returns-clause-owned
returns-clause-owned c = c.in_ok-commands-2.ensures.owned

pub returns-clause-latches : goal.returns-clause-latches
returns-clause-latches c = c.in_ok-commands-2.ensures.latches

pub returns-clause-newly : goal.returns-clause-newly
returns-clause-newly c = c.in_ok-commands-2.ensures.newly

pub returns-clause-made : goal.returns-clause-made
returns-clause-made c = record { kind = sym (ap (is_lone c.args.entries.now) (sym c.width.ensures.value) ∙ sym c.is_lone.ensures ∙ c.if-is_lone.false); made = c.in_ok-commands-2.ensures.made }

pub returns-clause-grows : goal.returns-clause-grows
returns-clause-grows c = c.emit_router.ensures.grows

pub returns-clause-waits : goal.returns-clause-waits
returns-clause-waits c = c.emit_router.ensures.waits

pub returns-clause-full : goal.returns-clause-full
returns-clause-full c e = cc

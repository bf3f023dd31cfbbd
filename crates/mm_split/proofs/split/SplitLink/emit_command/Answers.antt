use Rattle.std.proofs.Common.{◌*◌, ap, sym, subst, refl, ◌∙◌, arith}
use Rattle.net_parts.specs.Laws.{grows_twice, grows_fewer, adds_grow, extends_twice}
use Rattle.net_parts.specs.Refusing.{handed_on}
use Rattle.command_nets.specs.declared.nets.CommandNets.{CommandNets}
use Rattle.command_nets.specs.Nets.{widths_of, AreCommandNets}
use Rattle.command_nets.specs.Groups.{command_lasts}
use Rattle.mm_split.specs.Registers.{register_nets_last, registers_last}
use Rattle.mm_split.proofs.Numbers.{power_within}
use Rattle.mm_split.proofs.split.SplitLink.emit_command.Goals as goal

pub sizes-sizes-requires : goal.sizes-sizes-requires
sizes-sizes-requires c = c.requires.widths.sizes

pub hold-requires : goal.hold-requires
hold-requires c = c.sizes-sizes.ensures.sizes

pub make_part-requires-clause-sizes : goal.make_part-requires-clause-sizes
make_part-requires-clause-sizes c = c.sizes-sizes.ensures.sizes

pub make_part-requires-clause-from : goal.make_part-requires-clause-from
make_part-requires-clause-from c = command_lasts _ _ _ c.hold.ensures.grows.extends c.requires.from

pub make_part-requires-clause-registers : goal.make_part-requires-clause-registers
make_part-requires-clause-registers c = c.in_ok-registers.ensures.registers.nets

pub make_part-requires-clause-word : goal.make_part-requires-clause-word
make_part-requires-clause-word c = c.requires.widths.word ∙ ap (λ n. n * 8) (sym c.sizes-sizes.ensures.wide)

pub make_part-requires-clause-enables : goal.make_part-requires-clause-enables
make_part-requires-clause-enables c = c.requires.widths.enables ∙ sym c.sizes-sizes.ensures.wide

pub make_part-requires-clause-address : goal.make_part-requires-clause-address
make_part-requires-clause-address c = power_within _ _ (let e = c.sizes-sizes.ensures.wide in let h = c.requires.widths.address in omega (arith, e, h))

pub returns-in_err-registers-clause-grows : goal.returns-in_err-registers-clause-grows
returns-in_err-registers-clause-grows c = grows_fewer _ _ _ _ (omega arith) c.hold.ensures.grows

pub returns-in_err-registers-clause-waits : goal.returns-in_err-registers-clause-waits
returns-in_err-registers-clause-waits c n w = c.hold.ensures.still_wait n w

pub returns-in_err-registers-clause-full : goal.returns-in_err-registers-clause-full
returns-in_err-registers-clause-full c e = let full = c.hold.ensures.full (handed_on _ _ _ _ c.in_err-registers.was c.from_residual.ensures.1 e) in omega (arith, full)

pub returns-in_err-part-clause-grows : goal.returns-in_err-part-clause-grows
returns-in_err-part-clause-grows c = grows_twice _ _ _ _ _ c.hold.ensures.grows (adds_grow _ _ _ c.make_part.ensures.adds)

pub returns-in_err-part-clause-waits : goal.returns-in_err-part-clause-waits
returns-in_err-part-clause-waits c n w = c.make_part.ensures.adds.grows.waits n (c.hold.ensures.still_wait n w)

pub returns-in_err-part-clause-full : goal.returns-in_err-part-clause-full
returns-in_err-part-clause-full c e =
    let most = c.hold.ensures.grows.most in
    let full = c.make_part.ensures.full (handed_on _ _ _ _ c.in_err-part.was c.from_residual-in_err-part.ensures.1 e) in
    omega (arith, most, full)

pub returns-clause-grows : goal.returns-clause-grows
returns-clause-grows c = grows_twice _ _ _ _ _ c.hold.ensures.grows (adds_grow _ _ _ c.make_part.ensures.adds)

pub returns-clause-waits : goal.returns-clause-waits
returns-clause-waits c n w = c.make_part.ensures.adds.grows.waits n (c.hold.ensures.still_wait n w)

pub returns-clause-full : goal.returns-clause-full
returns-clause-full c e = cc

pub returns-clause-command : goal.returns-clause-command
returns-clause-command c = subst (λ (n : CommandNets). AreCommandNets c.make_part.new.builder n) (sym c.copied-to.ensures) c.in_ok-part.ensures.part.below

pub returns-clause-widths : goal.returns-clause-widths
returns-clause-widths c = ap widths_of c.copied-to.ensures ∙ c.in_ok-part.ensures.widths ∙ (let narrow = c.sizes-sizes.ensures.narrow in rw narrow refl)

pub returns-clause-kept : goal.returns-clause-kept
returns-clause-kept c =
    let made = c.make_part.ensures.adds.grows in
    record {
      sizes = record { are = c.sizes-sizes.ensures.sizes; wide = c.sizes-sizes.ensures.wide; narrow = c.sizes-sizes.ensures.narrow; room = c.sizes-sizes.ensures.room };
      from = command_lasts _ _ _ (extends_twice _ _ _ c.hold.ensures.grows.extends made.extends) c.requires.from;
      part = c.in_ok-part.ensures.part;
      registers = registers_last _ _ _ _ made.extends (λ n o. made.waits n) c.in_ok-registers.ensures.registers;
    }

pub returns-clause-owned : goal.returns-clause-owned
returns-clause-owned c n o =
    let at = c.in_ok-registers.ensures.owned n o in
    let more = c.make_part.ensures.adds.grows.extends.count in
    let below = at.1 in
    (at.0, omega (arith, below, more))

pub returns-clause-made : goal.returns-clause-made
returns-clause-made c =
    let made = c.make_part.ensures.adds.grows in
    record {
      sizes = record { are = c.sizes-sizes.ensures.sizes; wide = c.sizes-sizes.ensures.wide; narrow = c.sizes-sizes.ensures.narrow; room = c.sizes-sizes.ensures.room };
      from_is = refl;
      to_is = c.copied-to.ensures;
      nets = register_nets_last _ _ _ _ made.extends c.in_ok-registers.ensures.registers.nets;
      starts = λ run cycles r. c.in_ok-registers.ensures.registers.starts run cycles (made.extends.runs run cycles r);
      parts = c.in_ok-part.ensures.value;
    }

pub returns-clause-own_wait : goal.returns-clause-own_wait
returns-clause-own_wait c n o = c.make_part.ensures.adds.grows.waits n (c.in_ok-registers.ensures.registers.wait.wait n o)

pub returns-clause-newly : goal.returns-clause-newly
returns-clause-newly c n w = c.in_ok-registers.ensures.newly n (c.make_part.ensures.adds.grows.no_more_wait n w)

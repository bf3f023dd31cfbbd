use Rattle.std.proofs.Common.{is_some, refl, sym, subst, ap, ◌∙◌, arith}
use Rattle.net_parts.specs.Laws.{extends_twice, net_lasts, adds_twice, adds_grow, grows_within, grows_fewer}
use Rattle.command_nets.specs.Groups.{command_lasts}
use Rattle.net_parts.specs.Refusing.{handed_on}
use Rattle.mm_route.specs.declared.registers.LatchNets.{LatchNets}
use Rattle.mm_route.specs.Shown.{shown_are_commands, AreCommandsOf, widths_below}
use Rattle.mm_route.specs.Registers.{register_nets_last, start_lasts, registers_wait_on}
use Rattle.mm_route.proofs.router.emit_router.Goals as goal

pub place_now-requires-clause-command : goal.place_now-requires-clause-command
place_now-requires-clause-command c = command_lasts _ _ _ c.make_registers.ensures.grows.extends c.requires.command

pub returns-in_err-place-clause-grows : goal.returns-in_err-place-clause-grows
returns-in_err-place-clause-grows c = grows_within 4 _ _ _ _ _ c.make_registers.ensures.grows (adds_grow _ _ _ c.place_now.ensures.adds) (omega arith)

pub returns-in_err-open-clause-grows : goal.returns-in_err-open-clause-grows
returns-in_err-open-clause-grows c =
    grows_within 4 _ _ _ _ _ c.make_registers.ensures.grows (adds_grow _ _ _ (adds_twice _ _ _ _ _ c.place_now.ensures.adds c.open_gate.ensures.adds)) (omega arith)

pub returns-in_err-tag-clause-grows : goal.returns-in_err-tag-clause-grows
returns-in_err-tag-clause-grows c =
    grows_within 4 _ _ _ _ _ c.make_registers.ensures.grows (adds_grow _ _ _ (adds_twice _ _ _ _ _ (adds_twice _ _ _ _ _ c.place_now.ensures.adds c.open_gate.ensures.adds) c.constant.ensures.adds)) (omega arith)

pub returns-in_err-commands-clause-grows : goal.returns-in_err-commands-clause-grows
returns-in_err-commands-clause-grows c =
    grows_within 4 _ _ _ _ _ c.make_registers.ensures.grows
    (adds_grow _ _ _ (adds_twice _ _ _ _ _ (adds_twice _ _ _ _ _ (adds_twice _ _ _ _ _ c.place_now.ensures.adds c.open_gate.ensures.adds) c.constant.ensures.adds) c.show_all.ensures.adds)) (omega arith)

pub returns-clause-grows : goal.returns-clause-grows
returns-clause-grows c =
    grows_within 4 _ _ _ _ _ c.make_registers.ensures.grows
    (adds_grow _ _ _ (adds_twice _ _ _ _ _ (adds_twice _ _ _ _ _ (adds_twice _ _ _ _ _ c.place_now.ensures.adds c.open_gate.ensures.adds) c.constant.ensures.adds) c.show_all.ensures.adds)) (omega arith)

pub show_all-requires : goal.show_all-requires
show_all-requires c =
    let e1 = c.constant.ensures.adds.grows.extends in
    let e2 = extends_twice _ _ _ c.open_gate.ensures.adds.grows.extends e1 in
    let e3 = extends_twice _ _ _ c.place_now.ensures.adds.grows.extends e2 in
    let e4 = extends_twice _ _ _ c.make_registers.ensures.grows.extends e3 in
    record {
      shown = record {
        place = net_lasts _ _ _ _ e2 c.in_ok-place.ensures.net;
        gate = net_lasts _ _ _ _ e1 c.in_ok-open.ensures.gate;
        tag = c.in_ok-tag.ensures.net.is_net;
        command = command_lasts _ _ _ e4 c.requires.command;
      };
    }

pub returns-clause-commands : goal.returns-clause-commands
returns-clause-commands c =
    subst (λ n. AreCommandsOf c.show_all.new.builder (widths_below c.args.command n) c.in_ok-commands.commands.items) c.in_ok-tag.ensures.net.has_width (shown_are_commands _ _ _ _ c.in_ok-commands.ensures.made)

pub returns-clause-kept : goal.returns-clause-kept
returns-clause-kept c =
    let e0 = c.show_all.ensures.adds.grows.extends in
    let e1 = extends_twice _ _ _ c.constant.ensures.adds.grows.extends e0 in
    let e2 = extends_twice _ _ _ c.open_gate.ensures.adds.grows.extends e1 in
    let e3 = extends_twice _ _ _ c.place_now.ensures.adds.grows.extends e2 in
    let e4 = extends_twice _ _ _ c.make_registers.ensures.grows.extends e3 in
    record {
      registers = register_nets_last _ _ _ _ _ e3 c.in_ok-registers.ensures.nets;
      waits = registers_wait_on _ _ _ (λ n o w. c.show_all.ensures.adds.grows.waits n (c.constant.ensures.adds.grows.waits n (c.open_gate.ensures.adds.grows.waits n (c.place_now.ensures.adds.grows.waits n w)))) c.in_ok-registers.ensures.wait;
      shown = record {
        place = net_lasts _ _ _ _ e2 c.in_ok-place.ensures.net;
        gate = net_lasts _ _ _ _ e1 c.in_ok-open.ensures.gate;
        tag = e0.nets _ _ c.in_ok-tag.ensures.net.is_net;
        command = command_lasts _ _ _ e4 c.requires.command;
      };
      owes = net_lasts _ _ _ _ e1 c.in_ok-open.ensures.owes;
      owes_is = λ cycle v. c.in_ok-open.ensures.owes_is cycle (e1.valuations cycle v);
    }

pub returns-clause-owned : goal.returns-clause-owned
returns-clause-owned c n o =
    let e0 = c.show_all.ensures.adds.grows.extends in
    let e1 = extends_twice _ _ _ c.constant.ensures.adds.grows.extends e0 in
    let e2 = extends_twice _ _ _ c.open_gate.ensures.adds.grows.extends e1 in
    let e3 = extends_twice _ _ _ c.place_now.ensures.adds.grows.extends e2 in
    let h = c.in_ok-registers.ensures.owned n o in
    (h.0, (let more = e3.count in omega (arith, h.1, more)))

pub returns-clause-made : goal.returns-clause-made
returns-clause-made c =
    let e0 = c.show_all.ensures.adds.grows.extends in
    let e1 = extends_twice _ _ _ c.constant.ensures.adds.grows.extends e0 in
    let e2 = extends_twice _ _ _ c.open_gate.ensures.adds.grows.extends e1 in
    let e3 = extends_twice _ _ _ c.place_now.ensures.adds.grows.extends e2 in
    let e4 = extends_twice _ _ _ c.make_registers.ensures.grows.extends e3 in
    record {
      command_is = refl;
      count = c.in_ok-commands.ensures.count;
      entries_are = c.requires.entries;
      nets = record {
        place = net_lasts _ _ _ _ e2 c.in_ok-place.ensures.net;
        gate = net_lasts _ _ _ _ e1 c.in_ok-open.ensures.gate;
        tag = e0.nets _ _ c.in_ok-tag.ensures.net.is_net;
        command = command_lasts _ _ _ e4 c.requires.command;
      };
      starts = start_lasts _ _ _ e3 c.in_ok-registers.ensures.starts;
      single = λ none cycle v. c.requires.single (sym c.in_ok-registers.ensures.kind ∙ ap (is_some {T = LatchNets}) none) cycle (e4.valuations cycle v);
      place = λ cycle v. c.in_ok-place.ensures.value cycle (e2.valuations cycle v);
      gate = λ cycle v. c.in_ok-open.ensures.gate_is cycle (e1.valuations cycle v);
      tag = λ cycle v. c.in_ok-tag.ensures.value cycle (e0.valuations cycle v);
      shown = c.in_ok-commands.ensures.made;
    }

pub returns-in_err-registers-clause-full : goal.returns-in_err-registers-clause-full
returns-in_err-registers-clause-full c e = let full = c.make_registers.ensures.full (handed_on _ _ _ _ c.in_err-registers.was c.from_residual.ensures.1 e) in omega (arith, full)

pub returns-in_err-place-clause-full : goal.returns-in_err-place-clause-full
returns-in_err-place-clause-full c e = let made = c.make_registers.ensures.grows.most in let full = c.place_now.ensures.full (handed_on _ _ _ _ c.in_err-place.was c.from_residual-in_err-place.ensures.1 e) in omega (arith, made, full)

pub returns-in_err-open-clause-full : goal.returns-in_err-open-clause-full
returns-in_err-open-clause-full c e = let made = c.make_registers.ensures.grows.most in let most = c.place_now.ensures.adds.most in let full = c.open_gate.ensures.full (handed_on _ _ _ _ c.in_err-open.was c.from_residual-in_err-open.ensures.1 e) in omega (arith, made, most, full)

pub returns-in_err-tag-clause-full : goal.returns-in_err-tag-clause-full
returns-in_err-tag-clause-full c e = let made = c.make_registers.ensures.grows.most in let most = c.place_now.ensures.adds.most in let most2 = c.open_gate.ensures.adds.most in let full = c.constant.ensures.full (handed_on _ _ _ _ c.in_err-tag.was c.from_residual-in_err-tag.ensures.1 e) in omega (arith, made, most, most2, full)

pub returns-in_err-commands-clause-full : goal.returns-in_err-commands-clause-full
returns-in_err-commands-clause-full c e = let made = c.make_registers.ensures.grows.most in let most = c.place_now.ensures.adds.most in let most2 = c.open_gate.ensures.adds.most in let most3 = c.constant.ensures.adds.most in let full = c.show_all.ensures.full (handed_on _ _ _ _ c.in_err-commands.was c.from_residual-in_err-commands.ensures.1 e) in omega (arith, made, most, most2, most3, full)

pub returns-clause-full : goal.returns-clause-full
returns-clause-full c e = cc

pub returns-in_err-registers-clause-grows : goal.returns-in_err-registers-clause-grows
returns-in_err-registers-clause-grows c = grows_fewer _ _ _ _ (omega arith) c.make_registers.ensures.grows

pub returns-in_err-place-clause-waits : goal.returns-in_err-place-clause-waits
returns-in_err-place-clause-waits c n w = c.place_now.ensures.adds.grows.waits n (c.make_registers.ensures.still_wait n w)

pub returns-in_err-open-clause-waits : goal.returns-in_err-open-clause-waits
returns-in_err-open-clause-waits c n w = c.open_gate.ensures.adds.grows.waits n (c.place_now.ensures.adds.grows.waits n (c.make_registers.ensures.still_wait n w))

pub returns-in_err-tag-clause-waits : goal.returns-in_err-tag-clause-waits
returns-in_err-tag-clause-waits c n w = c.constant.ensures.adds.grows.waits n (c.open_gate.ensures.adds.grows.waits n (c.place_now.ensures.adds.grows.waits n (c.make_registers.ensures.still_wait n w)))

pub returns-in_err-commands-clause-waits : goal.returns-in_err-commands-clause-waits
returns-in_err-commands-clause-waits c n w = c.show_all.ensures.adds.grows.waits n (c.constant.ensures.adds.grows.waits n (c.open_gate.ensures.adds.grows.waits n (c.place_now.ensures.adds.grows.waits n (c.make_registers.ensures.still_wait n w))))

pub returns-clause-waits : goal.returns-clause-waits
returns-clause-waits c n w = c.show_all.ensures.adds.grows.waits n (c.constant.ensures.adds.grows.waits n (c.open_gate.ensures.adds.grows.waits n (c.place_now.ensures.adds.grows.waits n (c.make_registers.ensures.still_wait n w))))

pub returns-clause-newly : goal.returns-clause-newly
returns-clause-newly c n w = c.in_ok-registers.ensures.newly n (c.place_now.ensures.adds.grows.no_more_wait n (c.open_gate.ensures.adds.grows.no_more_wait n (c.constant.ensures.adds.grows.no_more_wait n (c.show_all.ensures.adds.grows.no_more_wait n w))))

pub open_gate-requires-clause-registers : goal.open_gate-requires-clause-registers
open_gate-requires-clause-registers c = register_nets_last _ _ _ _ _ c.place_now.ensures.adds.grows.extends c.in_ok-registers.ensures.nets

pub open_gate-requires-clause-place : goal.open_gate-requires-clause-place
open_gate-requires-clause-place c = c.in_ok-place.ensures.net

pub open_gate-requires-clause-write : goal.open_gate-requires-clause-write
open_gate-requires-clause-write c = net_lasts _ _ _ 1 (extends_twice _ _ _ c.make_registers.ensures.grows.extends c.place_now.ensures.adds.grows.extends) c.requires.command.write

pub place_now-requires-clause-registers : goal.place_now-requires-clause-registers
place_now-requires-clause-registers c = c.in_ok-registers.ensures.nets

pub returns-clause-latches : goal.returns-clause-latches
returns-clause-latches c = c.in_ok-registers.ensures.kind

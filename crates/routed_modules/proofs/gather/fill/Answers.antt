use Rattle.std.proofs.Common.{◌≡◌, List, Some, true, length, codes, refl, sym, subst, ap, ◌∙◌, arith, inl, inr}
use Rattle.std.proofs.Math.Nat.{mul_comm}
use Rattle.netlist.specs.declared.line.PortLine.{PortLine}
use Rattle.netlist.specs.Netlists.{Netlist}
use Rattle.net_parts.specs.Nets.{IsNetOfWidth}
use Rattle.net_parts.specs.Refusing.{handed_on}
use Rattle.routed_modules.specs.declared.header.EndPorts.{EndPorts}
use Rattle.routed_modules.specs.Sizes.{bits_for}
use Rattle.routed_modules.specs.Ports.{end_ports}
use Rattle.routed_modules.specs.Ends.{IsWordAt}
use Rattle.routed_modules.specs.Drivers.{StandsAt}
use Rattle.routed_modules.specs.Gatherers.{gatherer, gathered_in, gatherer_ports}
use Rattle.routed_modules.proofs.Headers.{few_inputs}
use Rattle.routed_modules.proofs.InputPorts.{is_input_at}
use Rattle.routed_modules.proofs.GatherModule.{input_stands, ready_input, IsMadeOf, each_drives, is_whole}
use Rattle.routed_modules.proofs.gather.fill.Goals as goal

pub word_at-from-requires-clause-stands : goal.word_at-from-requires-clause-stands
word_at-from-requires-clause-stands c =
    let g = gatherer c.args.channels c.args.symbols c.args.parts c.args.bits in
    let ports : c.args.builder.now.ports ≡ gatherer_ports g = ap (λ (n : Netlist). n.ports) c.requires.started in
    record {
      end = codes "in";
      stands =
          subst (λ (h : EndPorts). StandsAt c.args.builder.now.ports 0 (end_ports true h (codes "in"))) (sym c.requires.has)
          (subst (λ (ps : List PortLine). StandsAt ps 0 (end_ports true (gathered_in g) (codes "in"))) (sym ports) (input_stands g));
    }

pub word_at-from-requires-clause-channel : goal.word_at-from-requires-clause-channel
word_at-from-requires-clause-channel c = ap (λ (h : EndPorts). h.channel) c.requires.has ∙ ap Some (sym c.shape_of-shape.ensures.channel)

pub input-ready-requires : goal.input-ready-requires
input-ready-requires c = (1, ready_input (gatherer c.args.channels c.args.symbols c.args.parts c.args.bits) c.args.builder.now (ap (λ (n : Netlist). n.ports) c.requires.started))

pub emit_gatherer-requires-clause-from : goal.emit_gatherer-requires-clause-from
emit_gatherer-requires-clause-from c =
    let at = c.word_at-from.ensures in
    let word : c.args.has.word ≡ c.shape_of-shape.result.word_bits = ap (λ (h : EndPorts). h.word) c.requires.has ∙ mul_comm c.args.symbols c.args.bits ∙ c.shape_of-shape.ensures.has.word in
    record { valid = at.valid.is; word = subst (λ n. IsNetOfWidth c.args.builder.now c.word_at-from.result.word n) word at.word.is; channel = at.channel.is }

pub emit_gatherer-requires-clause-ready : goal.emit_gatherer-requires-clause-ready
emit_gatherer-requires-clause-ready c = record { is_net = c.input-ready.ensures.net; has_width = c.input-ready.ensures.width 1 (ready_input (gatherer c.args.channels c.args.symbols c.args.parts c.args.bits) c.args.builder.now (ap (λ (n : Netlist). n.ports) c.requires.started)) }

pub returns-in_err-made-clause-full : goal.returns-in_err-made-clause-full
returns-in_err-made-clause-full c e =
    let g = gatherer c.args.channels c.args.symbols c.args.parts c.args.bits in
    let full = c.emit_gatherer.ensures.full (handed_on _ _ _ _ c.in_err-made.was c.from_residual.ensures.1 e) in
    let begun = ap (λ (n : Netlist). length n.lines) c.requires.started in
    let few = few_inputs 0 (gatherer_ports g) in
    let memories = ap (λ (n : Netlist). length n.memories) c.requires.started in
    let channels = c.shape_of-shape.ensures.has.channels in
    let most = c.requires.sizes.few_channels in
    elim full [ inl nets ↦ omega (arith, nets, begun, few, channels, most) | inr memory ↦ omega (arith, memory, memories) ]

pub drive_each-requires-clause-each : goal.drive_each-requires-clause-each
drive_each-requires-clause-each c =
    let g = gatherer c.args.channels c.args.symbols c.args.parts c.args.bits in
    let begun = ap (λ (n : Netlist). length n.lines) c.requires.started in
    let few = few_inputs 0 (gatherer_ports g) in
    let made : IsMadeOf g c.args.builder.now c.emit_gatherer.new.builder c.emit_gatherer.new.builder c.shape_of-shape.result c.word_at-from.result c.input-ready.result c.in_ok-made.made = record {
      name = ap (λ (n : Netlist). n.name) c.requires.started;
      ports = ap (λ (n : Netlist). n.ports) c.requires.started;
      few_inputs = omega (arith, begun, few);
      clocked = c.requires.clocked;
      written = c.requires.written;
      grows = c.in_ok-made.ensures.whole;
      word_is =
          subst (λ (h : EndPorts). IsWordAt c.args.builder.now 0 h.word (bits_for c.args.channels) c.word_at-from.result) c.requires.has
          (subst (λ n. IsWordAt c.args.builder.now 0 c.args.has.word n c.word_at-from.result) c.shape_of-shape.ensures.channel c.word_at-from.ensures);
      ready_is = is_input_at c.args.builder.now 4 1 c.input-ready.result (ready_input (gatherer c.args.channels c.args.symbols c.args.parts c.args.bits) c.args.builder.now (ap (λ (n : Netlist). n.ports) c.requires.started)) c.input-ready.ensures.net c.input-ready.ensures.number c.input-ready.ensures.width 4 refl;
      ready_bit = c.in_ok-made.ensures.ready;
      valid_bit = c.in_ok-made.ensures.valid;
      beat = c.in_ok-made.ensures.word;
      shape_is = c.shape_of-shape.ensures.has;
      law = c.in_ok-made.ensures.gathers;
    } in
    each_drives g _ _ _ _ _ _ _ made

pub returns-clause-whole : goal.returns-clause-whole
returns-clause-whole c =
    let g = gatherer c.args.channels c.args.symbols c.args.parts c.args.bits in
    let begun = ap (λ (n : Netlist). length n.lines) c.requires.started in
    let few = few_inputs 0 (gatherer_ports g) in
    let made : IsMadeOf g c.args.builder.now c.emit_gatherer.new.builder c.drive_each.new.builder c.shape_of-shape.result c.word_at-from.result c.input-ready.result c.in_ok-made.made = record {
      name = ap (λ (n : Netlist). n.name) c.requires.started;
      ports = ap (λ (n : Netlist). n.ports) c.requires.started;
      few_inputs = omega (arith, begun, few);
      clocked = c.requires.clocked;
      written = c.requires.written;
      grows = c.in_ok-made.ensures.whole;
      word_is =
          subst (λ (h : EndPorts). IsWordAt c.args.builder.now 0 h.word (bits_for c.args.channels) c.word_at-from.result) c.requires.has
          (subst (λ n. IsWordAt c.args.builder.now 0 c.args.has.word n c.word_at-from.result) c.shape_of-shape.ensures.channel c.word_at-from.ensures);
      ready_is = is_input_at c.args.builder.now 4 1 c.input-ready.result (ready_input (gatherer c.args.channels c.args.symbols c.args.parts c.args.bits) c.args.builder.now (ap (λ (n : Netlist). n.ports) c.requires.started)) c.input-ready.ensures.net c.input-ready.ensures.number c.input-ready.ensures.width 4 refl;
      ready_bit = c.in_ok-made.ensures.ready;
      valid_bit = c.in_ok-made.ensures.valid;
      beat = c.in_ok-made.ensures.word;
      shape_is = c.shape_of-shape.ensures.has;
      law = c.in_ok-made.ensures.gathers;
    } in
    is_whole g _ _ _ _ _ _ _ made c.requires.sizes c.drive_each.ensures.same c.drive_each.ensures.extends c.drive_each.ensures.driven c.drive_each.ensures.inputs
    c.drive_each.ensures.whole c.well_made.ensures c.signals.ensures.named c.same_beginnings.ensures.legal (c.goes_on.ensures c.drive_each.new.builder c.well_made.ensures)

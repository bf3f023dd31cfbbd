use Rattle.std.proofs.Common.{◌≡◌, ◌+◌, List, Option, length, slice_get, sym, subst, ap, ◌∙◌, arith}
use Rattle.std.specs.Option.{is_some}
use Rattle.histories.specs.History.{one_if}
use Rattle.netlist.specs.declared.line.PortLine.{PortLine}
use Rattle.netlist.specs.Nets.{NetValue}
use Rattle.netlist.specs.Netlists.{Netlist}
use Rattle.routed_modules.specs.declared.header.EndPorts.{EndPorts}
use Rattle.routed_modules.specs.Sizes.{empty_bits}
use Rattle.routed_modules.specs.Ends.{IsBeatAt, IsChannelAt, AreReadies}
use Rattle.routed_modules.specs.Drivers.{MayDriveEach, AreDriven}
use Rattle.routed_modules.specs.Demultiplexers.{demultiplexer, demultiplexer_ports, demultiplexer_drivers}
use Rattle.net_parts.specs.Refusing.{handed_on}
use Rattle.routed_modules.proofs.Driving.{aligned_length}
use Rattle.routed_modules.proofs.Headers.{few_inputs, few_demux_ports}
use Rattle.routed_modules.proofs.DemuxModule.{extra, input_end, have_readies, IsMadeOf, each_drives, is_filled}
use Rattle.routed_modules.proofs.demux.fill.Goals as goal

pub beat_at-requires-clause-stands : goal.beat_at-requires-clause-stands
beat_at-requires-clause-stands c =
    let demux = demultiplexer c.args.outputs c.args.symbols c.args.bits in
    let ports : c.args.builder.now.ports ≡ demultiplexer_ports demux = ap (λ (n : Netlist). n.ports) c.requires.started in
    input_end demux c.args.builder.now c.args.has ports c.requires.has

pub channel_at-channel-requires-clause-stands : goal.channel_at-channel-requires-clause-stands
channel_at-channel-requires-clause-stands c =
    let demux = demultiplexer c.args.outputs c.args.symbols c.args.bits in
    let ports : c.args.builder.now.ports ≡ demultiplexer_ports demux = ap (λ (n : Netlist). n.ports) c.requires.started in
    let now : c.beat_at.new.builder.ports ≡ demultiplexer_ports demux = c.beat_at.ensures.adds.grows.extends.keeps.ports ∙ ports in
    input_end demux c.beat_at.new.builder c.args.has now c.requires.has

pub readies_at-requires-clause-readies : goal.readies_at-requires-clause-readies
readies_at-requires-clause-readies c =
    let demux = demultiplexer c.args.outputs c.args.symbols c.args.bits in
    let ports : c.args.builder.now.ports ≡ demultiplexer_ports demux = ap (λ (n : Netlist). n.ports) c.requires.started in
    let now : c.beat_at.new.builder.ports ≡ demultiplexer_ports demux = c.beat_at.ensures.adds.grows.extends.keeps.ports ∙ ports in
    let more : c.one_if-extra.result ≡ extra demux =
    c.one_if-extra.ensures.value ∙ ap (λ b. one_if b) (c.is_some.ensures ∙ ap (λ (h : EndPorts). is_some h.empty) c.requires.has) in
    have_readies demux c.beat_at.new.builder c.one_if-extra.result now more

pub returns-in_err-from-clause-full : goal.returns-in_err-from-clause-full
returns-in_err-from-clause-full c e =
    let demux = demultiplexer c.args.outputs c.args.symbols c.args.bits in
    let full = c.beat_at.ensures.full (handed_on _ _ _ _ c.in_err-from.was c.from_residual.ensures.1 e) in
    let begun = ap (λ (n : Netlist). length n.lines) c.requires.started in
    let few = few_inputs 0 (demultiplexer_ports demux) in
    let less = few_demux_ports demux c.requires.sizes in
    omega (arith, full, begun, few, less)

pub returns-in_err-made-clause-full : goal.returns-in_err-made-clause-full
returns-in_err-made-clause-full c e =
    let demux = demultiplexer c.args.outputs c.args.symbols c.args.bits in
    let full = c.emit_demultiplexer.ensures.full (handed_on _ _ _ _ c.in_err-made.was c.from_residual-in_err-made.ensures.1 e) in
    let begun = ap (λ (n : Netlist). length n.lines) c.requires.started in
    let few = few_inputs 0 (demultiplexer_ports demux) in
    let less = few_demux_ports demux c.requires.sizes in
    let one = c.beat_at.ensures.adds.most in
    let same = ap (λ (nets : List NetValue). length nets) c.as_slice.ensures.value in
    let outputs = c.in_ok-readies.ensures.readies.lengths in
    let most = c.requires.sizes.few_ends in
    omega (arith, full, begun, few, less, one, same, outputs, most)

pub drive_each-requires-clause-each : goal.drive_each-requires-clause-each
drive_each-requires-clause-each c =
    let demux = demultiplexer c.args.outputs c.args.symbols c.args.bits in
    let ports : c.args.builder.now.ports ≡ demultiplexer_ports demux = ap (λ (n : Netlist). n.ports) c.requires.started in
    let more : c.one_if-extra.result ≡ extra demux =
    c.one_if-extra.ensures.value ∙ ap (λ b. one_if b) (c.is_some.ensures ∙ ap (λ (h : EndPorts). is_some h.empty) c.requires.has) in
    let begun = ap (λ (n : Netlist). length n.lines) c.requires.started in
    let few = few_inputs 0 (demultiplexer_ports demux) in
    let made : IsMadeOf demux c.args.builder.now c.beat_at.new.builder c.emit_demultiplexer.new.builder c.emit_demultiplexer.new.builder c.in_ok-from.from c.channel_at-channel.result c.in_ok-made.made.ready c.in_ok-made.made.valids.items c.as_slice.result.now = record {
      name = ap (λ (n : Netlist). n.name) c.requires.started;
      ports = ports;
      few_inputs = omega (arith, begun, few);
      clocked = c.requires.clocked;
      written = c.requires.written;
      one = c.beat_at.ensures.adds;
      more = c.emit_demultiplexer.ensures.adds;
      beat = subst (λ (h : EndPorts). IsBeatAt c.beat_at.new.builder 0 h c.in_ok-from.from) c.requires.has c.in_ok-from.ensures.at;
      channel_is = subst (λ n. IsChannelAt c.beat_at.new.builder 0 n c.channel_at-channel.result) c.bits_for-channel_bits.ensures.value c.channel_at-channel.ensures;
      are_readies =
          subst (λ (nets : List NetValue). AreReadies c.beat_at.new.builder (6 + extra demux) (5 + extra demux) c.args.outputs nets) (sym c.as_slice.ensures.value)
          (subst (λ n. AreReadies c.beat_at.new.builder (6 + n) (5 + n) c.args.outputs c.in_ok-readies.readies.items) more c.in_ok-readies.ensures.readies);
      ready_is = c.in_ok-made.ensures.ready;
      valids_are = c.in_ok-made.ensures.valids;
      count = c.in_ok-made.ensures.count;
      law = c.in_ok-made.ensures.demultiplexes;
    } in
    let drivers : c.as_slice-2.result.now ≡ demultiplexer_drivers c.in_ok-from.from c.in_ok-made.made.ready c.in_ok-made.made.valids.items (is_some (empty_bits c.args.symbols)) =
    c.as_slice-2.ensures.value ∙ c.in_ok-drivers.ensures.drivers
    ∙ ap (λ b. demultiplexer_drivers c.in_ok-from.from c.in_ok-made.made.ready c.in_ok-made.made.valids.items b) (c.is_some-2.ensures ∙ ap (λ (h : EndPorts). is_some h.empty) c.requires.has) in
    subst (λ (list : List (Option NetValue)). MayDriveEach c.emit_demultiplexer.new.builder c.emit_demultiplexer.new.builder.ports list) (sym drivers)
    (each_drives demux _ _ _ _ _ _ _ _ _ made)

pub drive_each-requires-clause-few : goal.drive_each-requires-clause-few
drive_each-requires-clause-few c =
    let demux = demultiplexer c.args.outputs c.args.symbols c.args.bits in
    let same = aligned_length c.emit_demultiplexer.new.builder c.emit_demultiplexer.new.builder.ports c.as_slice-2.result.now (drive_each-requires-clause-each c) in
    let ports = ap (λ (ports : List PortLine). length ports)
    (c.emit_demultiplexer.ensures.adds.grows.extends.keeps.ports ∙ c.beat_at.ensures.adds.grows.extends.keeps.ports ∙ ap (λ (n : Netlist). n.ports) c.requires.started) in
    let less = few_demux_ports demux c.requires.sizes in
    omega (arith, same, ports, less)

pub returns-clause-filled : goal.returns-clause-filled
returns-clause-filled c =
    let demux = demultiplexer c.args.outputs c.args.symbols c.args.bits in
    let ports : c.args.builder.now.ports ≡ demultiplexer_ports demux = ap (λ (n : Netlist). n.ports) c.requires.started in
    let more : c.one_if-extra.result ≡ extra demux =
    c.one_if-extra.ensures.value ∙ ap (λ b. one_if b) (c.is_some.ensures ∙ ap (λ (h : EndPorts). is_some h.empty) c.requires.has) in
    let begun = ap (λ (n : Netlist). length n.lines) c.requires.started in
    let few = few_inputs 0 (demultiplexer_ports demux) in
    let made : IsMadeOf demux c.args.builder.now c.beat_at.new.builder c.emit_demultiplexer.new.builder c.drive_each.new.builder c.in_ok-from.from c.channel_at-channel.result c.in_ok-made.made.ready c.in_ok-made.made.valids.items c.as_slice.result.now = record {
      name = ap (λ (n : Netlist). n.name) c.requires.started;
      ports = ports;
      few_inputs = omega (arith, begun, few);
      clocked = c.requires.clocked;
      written = c.requires.written;
      one = c.beat_at.ensures.adds;
      more = c.emit_demultiplexer.ensures.adds;
      beat = subst (λ (h : EndPorts). IsBeatAt c.beat_at.new.builder 0 h c.in_ok-from.from) c.requires.has c.in_ok-from.ensures.at;
      channel_is = subst (λ n. IsChannelAt c.beat_at.new.builder 0 n c.channel_at-channel.result) c.bits_for-channel_bits.ensures.value c.channel_at-channel.ensures;
      are_readies =
          subst (λ (nets : List NetValue). AreReadies c.beat_at.new.builder (6 + extra demux) (5 + extra demux) c.args.outputs nets) (sym c.as_slice.ensures.value)
          (subst (λ n. AreReadies c.beat_at.new.builder (6 + n) (5 + n) c.args.outputs c.in_ok-readies.readies.items) more c.in_ok-readies.ensures.readies);
      ready_is = c.in_ok-made.ensures.ready;
      valids_are = c.in_ok-made.ensures.valids;
      count = c.in_ok-made.ensures.count;
      law = c.in_ok-made.ensures.demultiplexes;
    } in
    let drivers : c.as_slice-2.result.now ≡ demultiplexer_drivers c.in_ok-from.from c.in_ok-made.made.ready c.in_ok-made.made.valids.items (is_some (empty_bits c.args.symbols)) =
    c.as_slice-2.ensures.value ∙ c.in_ok-drivers.ensures.drivers
    ∙ ap (λ b. demultiplexer_drivers c.in_ok-from.from c.in_ok-made.made.ready c.in_ok-made.made.valids.items b) (c.is_some-2.ensures ∙ ap (λ (h : EndPorts). is_some h.empty) c.requires.has) in
    is_filled demux _ _ _ _ _ _ _ _ _ made c.requires.sizes c.drive_each.ensures.same c.drive_each.ensures.extends
    (subst (λ (list : List (Option NetValue)). AreDriven c.drive_each.new.builder list) drivers c.drive_each.ensures.driven)
    (λ k is. c.drive_each.ensures.inputs k (ap (λ (list : List (Option NetValue)). slice_get list k) drivers ∙ is))
    c.drive_each.ensures.whole c.well_made.ensures c.signals.ensures.named c.same_beginnings.ensures.legal (c.goes_on.ensures c.drive_each.new.builder c.well_made.ensures)

use Rattle.std.proofs.Common.{◌≡◌, ◌+◌, ◌*◌, ◌^◌, List, Option, length, slice_get, sym, subst, ap, ◌∙◌, arith}
use Rattle.std.specs.Option.{is_some}
use Rattle.histories.specs.History.{one_if}
use Rattle.netlist.specs.declared.line.PortLine.{PortLine}
use Rattle.netlist.specs.Nets.{NetValue}
use Rattle.netlist.specs.Netlists.{Netlist}
use Rattle.net_parts.specs.Nets.{IsNetOfWidth}
use Rattle.net_parts.specs.Growth.{GrowsBy}
use Rattle.net_parts.specs.Refusing.{handed_on}
use Rattle.st_mux.specs.declared.packet.PacketNets.{PacketNets}
use Rattle.st_mux.specs.PacketChoices.{AreAlike, IsLike}
use Rattle.st_mux.specs.MultiplexerNets.{ShowsSomeInput, MultiplexesInLonger}
use Rattle.routed_modules.specs.declared.header.EndPorts.{EndPorts}
use Rattle.routed_modules.specs.Sizes.{empty_bits}
use Rattle.routed_modules.specs.Ends.{IsInputAt, AreBeats}
use Rattle.routed_modules.specs.Drivers.{MayDriveEach, AreDriven}
use Rattle.routed_modules.specs.Multiplexers.{multiplexer, coming, multiplexer_ports, multiplexer_drivers}
use Rattle.routed_modules.proofs.Driving.{aligned_length}
use Rattle.routed_modules.proofs.Headers.{few_inputs}
use Rattle.routed_modules.proofs.MuxHeaders.{few_mux_ports, few_numbers}
use Rattle.routed_modules.proofs.InputBeats.{beats_alike}
use Rattle.routed_modules.proofs.MuxModule.{stride, drivers_of, have_ends, ready_port_of, IsMadeOf, each_drives, is_filled}
use Rattle.routed_modules.proofs.mux.fill.Goals as goal

pub beats_at-requires-clause-ends : goal.beats_at-requires-clause-ends
beats_at-requires-clause-ends c =
    let mux = multiplexer c.args.inputs c.args.symbols c.args.bits in
    let ports : c.args.builder.now.ports ≡ multiplexer_ports mux = ap (λ (n : Netlist). n.ports) c.requires.started in
    let more : c.one_if-stride.result ≡ one_if (is_some (empty_bits c.args.symbols)) = c.one_if-stride.ensures.value ∙ ap (λ b. one_if b) (c.is_some.ensures ∙ ap (λ (h : EndPorts). is_some h.empty) c.requires.has) in
    have_ends mux c.args.builder.now c.args.has _ ports c.requires.has (omega (arith, more))

pub ready_at-ready-requires : goal.ready_at-ready-requires
ready_at-ready-requires c =
    let mux = multiplexer c.args.inputs c.args.symbols c.args.bits in
    let ports : c.args.builder.now.ports ≡ multiplexer_ports mux = ap (λ (n : Netlist). n.ports) c.requires.started in
    let now : c.beats_at.new.builder.ports ≡ multiplexer_ports mux = c.beats_at.ensures.adds.grows.extends.keeps.ports ∙ ports in
    let more : c.one_if-stride.result ≡ one_if (is_some (empty_bits c.args.symbols)) = c.one_if-stride.ensures.value ∙ ap (λ b. one_if b) (c.is_some.ensures ∙ ap (λ (h : EndPorts). is_some h.empty) c.requires.has) in
    ready_port_of mux c.beats_at.new.builder _ now (ap (λ n. (5 + n) * c.from.result) more ∙ ap (λ n. stride mux * n) c.from.ensures)

pub emit_multiplexer-requires-clause-inputs : goal.emit_multiplexer-requires-clause-inputs
emit_multiplexer-requires-clause-inputs c =
    subst (AreAlike c.beats_at.new.builder) (sym c.as_slice.ensures.value) (beats_alike c.beats_at.new.builder _ c.args.has c.args.inputs c.in_ok-beats.beats.items c.in_ok-beats.ensures.beats)

pub emit_multiplexer-requires-clause-few : goal.emit_multiplexer-requires-clause-few
emit_multiplexer-requires-clause-few c =
    let size = ap (λ (inputs : List PacketNets). length inputs) c.as_slice.ensures.value in
    let count = c.in_ok-beats.ensures.beats.lengths in
    let enough = c.bits_for.ensures.enough in
    omega (arith, size, count, enough)

pub returns-in_err-beats-clause-full : goal.returns-in_err-beats-clause-full
returns-in_err-beats-clause-full c e =
    let mux = multiplexer c.args.inputs c.args.symbols c.args.bits in
    let full = c.beats_at.ensures.full (handed_on _ _ _ _ c.in_err-beats.was c.from_residual.ensures.1 e) in
    let begun = ap (λ (n : Netlist). length n.lines) c.requires.started in
    let few = few_inputs 0 (multiplexer_ports mux) in
    let less = few_mux_ports mux c.requires.sizes in
    let most = c.requires.sizes.few_ends in
    omega (arith, full, begun, few, less, most)

pub returns-in_err-made-clause-full : goal.returns-in_err-made-clause-full
returns-in_err-made-clause-full c e =
    let mux = multiplexer c.args.inputs c.args.symbols c.args.bits in
    let full = c.emit_multiplexer.ensures.full (handed_on _ _ _ _ c.in_err-made.was c.from_residual-in_err-made.ensures.1 e) in
    let begun = ap (λ (n : Netlist). length n.lines) c.requires.started in
    let few = few_inputs 0 (multiplexer_ports mux) in
    let less = few_mux_ports mux c.requires.sizes in
    let one = c.beats_at.ensures.adds.most in
    let size = ap (λ (inputs : List PacketNets). length inputs) c.as_slice.ensures.value in
    let count = c.in_ok-beats.ensures.beats.lengths in
    let most = c.requires.sizes.few_ends in
    let bits = ap (λ n. 2 ^ n) c.bits_for.ensures.value in
    let numbers = few_numbers c.args.inputs in
    omega (arith, full, begun, few, less, one, size, count, most, bits, numbers)

pub drive_each-requires-clause-each : goal.drive_each-requires-clause-each
drive_each-requires-clause-each c =
    let mux = multiplexer c.args.inputs c.args.symbols c.args.bits in
    let ports : c.args.builder.now.ports ≡ multiplexer_ports mux = ap (λ (n : Netlist). n.ports) c.requires.started in
    let more : c.one_if-stride.result ≡ one_if (is_some (empty_bits c.args.symbols)) = c.one_if-stride.ensures.value ∙ ap (λ b. one_if b) (c.is_some.ensures ∙ ap (λ (h : EndPorts). is_some h.empty) c.requires.has) in
    let begun = ap (λ (n : Netlist). length n.lines) c.requires.started in
    let few = few_inputs 0 (multiplexer_ports mux) in
    let list = c.as_slice.ensures.value in
    let made : IsMadeOf mux c.args.builder.now c.beats_at.new.builder c.emit_multiplexer.new.builder c.in_ok-beats.beats.items c.in_ok-made.made c.ready_at-ready.result = record {
      name = ap (λ (n : Netlist). n.name) c.requires.started;
      ports = ports;
      few_inputs = omega (arith, begun, few);
      clocked = c.requires.clocked;
      written = c.requires.written;
      one = c.beats_at.ensures.adds;
      more =
          subst (λ n. GrowsBy (14 * length c.in_ok-beats.beats.items + 4 * 2 ^ n) c.beats_at.new.builder c.emit_multiplexer.new.builder) c.bits_for.ensures.value
          (subst (λ (inputs : List PacketNets). GrowsBy (14 * length inputs + 4 * 2 ^ c.bits_for.result) c.beats_at.new.builder c.emit_multiplexer.new.builder) list c.emit_multiplexer.ensures.grows);
      no_more_wait = c.in_ok-made.ensures.no_more_wait;
      beats =
          subst (λ n. AreBeats c.beats_at.new.builder (5 + n) (coming mux) c.args.inputs c.in_ok-beats.beats.items) more
          (subst (λ (h : EndPorts). AreBeats c.beats_at.new.builder (5 + c.one_if-stride.result) h c.args.inputs c.in_ok-beats.beats.items) c.requires.has c.in_ok-beats.ensures.beats);
      ready_is = subst (λ n. IsInputAt c.beats_at.new.builder n 1 c.ready_at-ready.result) (ap (λ n. (5 + n) * c.from.result) more ∙ ap (λ n. stride mux * n) c.from.ensures) c.ready_at-ready.ensures;
      beat = c.in_ok-made.ensures.beat;
      like = subst (IsLike c.in_ok-made.made.beat) list c.in_ok-made.ensures.like;
      channel = subst (λ n. IsNetOfWidth c.emit_multiplexer.new.builder c.in_ok-made.made.channel n) c.bits_for.ensures.value c.in_ok-made.ensures.channel;
      readies_are = c.in_ok-made.ensures.readies;
      count = c.in_ok-made.ensures.count ∙ ap (λ (inputs : List PacketNets). length inputs) list;
      shows = subst (λ (inputs : List PacketNets). ShowsSomeInput c.emit_multiplexer.new.builder inputs c.in_ok-made.made.beat) list c.in_ok-made.ensures.shows;
      law = subst (λ (inputs : List PacketNets). MultiplexesInLonger c.emit_multiplexer.new.builder inputs c.in_ok-made.made c.ready_at-ready.result) list c.in_ok-made.ensures.multiplexes;
    } in
    let drivers : c.as_slice-2.result.now ≡ drivers_of mux c.in_ok-made.made =
    c.as_slice-2.ensures.value ∙ c.in_ok-drivers.ensures.drivers
    ∙ ap (λ b. multiplexer_drivers c.in_ok-made.made.readies.items c.in_ok-made.made.beat c.in_ok-made.made.channel b) (c.is_some-2.ensures ∙ ap (λ (h : EndPorts). is_some h.empty) c.requires.has) in
    subst (λ (list : List (Option NetValue)). MayDriveEach c.emit_multiplexer.new.builder c.emit_multiplexer.new.builder.ports list) (sym drivers)
    (each_drives mux _ _ _ _ _ _ made c.requires.sizes)

pub drive_each-requires-clause-few : goal.drive_each-requires-clause-few
drive_each-requires-clause-few c =
    let mux = multiplexer c.args.inputs c.args.symbols c.args.bits in
    let same = aligned_length c.emit_multiplexer.new.builder c.emit_multiplexer.new.builder.ports c.as_slice-2.result.now (drive_each-requires-clause-each c) in
    let ports = ap (λ (ports : List PortLine). length ports)
    (c.emit_multiplexer.ensures.grows.extends.keeps.ports ∙ c.beats_at.ensures.adds.grows.extends.keeps.ports ∙ ap (λ (n : Netlist). n.ports) c.requires.started) in
    let less = few_mux_ports mux c.requires.sizes in
    omega (arith, same, ports, less)

pub returns-clause-filled : goal.returns-clause-filled
returns-clause-filled c =
    let mux = multiplexer c.args.inputs c.args.symbols c.args.bits in
    let ports : c.args.builder.now.ports ≡ multiplexer_ports mux = ap (λ (n : Netlist). n.ports) c.requires.started in
    let more : c.one_if-stride.result ≡ one_if (is_some (empty_bits c.args.symbols)) = c.one_if-stride.ensures.value ∙ ap (λ b. one_if b) (c.is_some.ensures ∙ ap (λ (h : EndPorts). is_some h.empty) c.requires.has) in
    let begun = ap (λ (n : Netlist). length n.lines) c.requires.started in
    let few = few_inputs 0 (multiplexer_ports mux) in
    let list = c.as_slice.ensures.value in
    let made : IsMadeOf mux c.args.builder.now c.beats_at.new.builder c.emit_multiplexer.new.builder c.in_ok-beats.beats.items c.in_ok-made.made c.ready_at-ready.result = record {
      name = ap (λ (n : Netlist). n.name) c.requires.started;
      ports = ports;
      few_inputs = omega (arith, begun, few);
      clocked = c.requires.clocked;
      written = c.requires.written;
      one = c.beats_at.ensures.adds;
      more =
          subst (λ n. GrowsBy (14 * length c.in_ok-beats.beats.items + 4 * 2 ^ n) c.beats_at.new.builder c.emit_multiplexer.new.builder) c.bits_for.ensures.value
          (subst (λ (inputs : List PacketNets). GrowsBy (14 * length inputs + 4 * 2 ^ c.bits_for.result) c.beats_at.new.builder c.emit_multiplexer.new.builder) list c.emit_multiplexer.ensures.grows);
      no_more_wait = c.in_ok-made.ensures.no_more_wait;
      beats =
          subst (λ n. AreBeats c.beats_at.new.builder (5 + n) (coming mux) c.args.inputs c.in_ok-beats.beats.items) more
          (subst (λ (h : EndPorts). AreBeats c.beats_at.new.builder (5 + c.one_if-stride.result) h c.args.inputs c.in_ok-beats.beats.items) c.requires.has c.in_ok-beats.ensures.beats);
      ready_is = subst (λ n. IsInputAt c.beats_at.new.builder n 1 c.ready_at-ready.result) (ap (λ n. (5 + n) * c.from.result) more ∙ ap (λ n. stride mux * n) c.from.ensures) c.ready_at-ready.ensures;
      beat = c.in_ok-made.ensures.beat;
      like = subst (IsLike c.in_ok-made.made.beat) list c.in_ok-made.ensures.like;
      channel = subst (λ n. IsNetOfWidth c.emit_multiplexer.new.builder c.in_ok-made.made.channel n) c.bits_for.ensures.value c.in_ok-made.ensures.channel;
      readies_are = c.in_ok-made.ensures.readies;
      count = c.in_ok-made.ensures.count ∙ ap (λ (inputs : List PacketNets). length inputs) list;
      shows = subst (λ (inputs : List PacketNets). ShowsSomeInput c.emit_multiplexer.new.builder inputs c.in_ok-made.made.beat) list c.in_ok-made.ensures.shows;
      law = subst (λ (inputs : List PacketNets). MultiplexesInLonger c.emit_multiplexer.new.builder inputs c.in_ok-made.made c.ready_at-ready.result) list c.in_ok-made.ensures.multiplexes;
    } in
    let drivers : c.as_slice-2.result.now ≡ drivers_of mux c.in_ok-made.made =
    c.as_slice-2.ensures.value ∙ c.in_ok-drivers.ensures.drivers
    ∙ ap (λ b. multiplexer_drivers c.in_ok-made.made.readies.items c.in_ok-made.made.beat c.in_ok-made.made.channel b) (c.is_some-2.ensures ∙ ap (λ (h : EndPorts). is_some h.empty) c.requires.has) in
    is_filled mux _ _ _ _ _ _ made c.requires.sizes c.drive_each.new.builder c.drive_each.ensures.same c.drive_each.ensures.extends
    (subst (λ (list : List (Option NetValue)). AreDriven c.drive_each.new.builder list) drivers c.drive_each.ensures.driven)
    (λ k is. c.drive_each.ensures.inputs k (ap (λ (list : List (Option NetValue)). slice_get list k) drivers ∙ is))
    c.drive_each.ensures.whole c.well_made.ensures c.signals.ensures.named c.same_beginnings.ensures.legal (c.goes_on.ensures c.drive_each.new.builder c.well_made.ensures)

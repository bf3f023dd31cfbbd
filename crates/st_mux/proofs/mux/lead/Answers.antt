use Rattle.std.proofs.Common.{◌≡◌, ◌==◌, ◌^◌, ◌≤◌, List, length, ap, sym, subst, ◌∙◌, arith}
use Rattle.std.proofs.lemmas.List.{length-map}
use Rattle.std.proofs.lemmas.Nat.{pow_pos}
use Rattle.netlist.specs.Nets.{NetValue}
use Rattle.net_parts.specs.Laws.{net_lasts, extends_twice, adds_fewer, adds_twice}
use Rattle.st_mux.specs.declared.packet.PacketNets.{PacketNets}
use Rattle.st_mux.specs.PacketChoices.{packet_lasts}
use Rattle.st_mux.specs.Selecting.{AreBits}
use Rattle.st_mux.specs.Choosing.{is_set}
use Rattle.st_mux.specs.Chosen.{IsChosen}
use Rattle.st_mux.specs.MultiplexerNets.{valid_nets, valids_are_bits}
use Rattle.st_mux.proofs.mux.lead.Goals as goal

pub choose_input-requires-clause-asks : goal.choose_input-requires-clause-asks
choose_input-requires-clause-asks c = subst (AreBits c.args.builder.now) (sym (c.as_slice.ensures.value ∙ c.in_ok-asks.ensures.valids)) (valids_are_bits c.args.builder.now c.args.inputs.now c.requires.inputs)

pub returns-in_err-beat-clause-adds : goal.returns-in_err-beat-clause-adds
returns-in_err-beat-clause-adds c =
    let least : 1 ≤ 2 ^ c.args.bits = pow_pos c.args.bits in
    let size : length c.as_slice.result.now ≡ length c.args.inputs.now = ap (λ (nets : List NetValue). length nets) (c.as_slice.ensures.value ∙ c.in_ok-asks.ensures.valids) ∙ length-map c.args.inputs.now (λ (input : PacketNets). input.valid) in
    adds_fewer _ _ _ _ (omega (arith, size, c.requires.some, least)) (adds_twice _ _ _ _ _ c.choose_input.ensures.adds c.select_packet.ensures.adds)

pub returns-in_err-readies-clause-adds : goal.returns-in_err-readies-clause-adds
returns-in_err-readies-clause-adds c =
    let least : 1 ≤ 2 ^ c.args.bits = pow_pos c.args.bits in
    let size : length c.as_slice.result.now ≡ length c.args.inputs.now = ap (λ (nets : List NetValue). length nets) (c.as_slice.ensures.value ∙ c.in_ok-asks.ensures.valids) ∙ length-map c.args.inputs.now (λ (input : PacketNets). input.valid) in
    adds_fewer _ _ _ _ (omega (arith, size, c.requires.some, least)) (adds_twice _ _ _ _ _ (adds_twice _ _ _ _ _ c.choose_input.ensures.adds c.select_packet.ensures.adds) c.lead_bit.ensures.adds)

pub returns-clause-adds : goal.returns-clause-adds
returns-clause-adds c =
    let least : 1 ≤ 2 ^ c.args.bits = pow_pos c.args.bits in
    let size : length c.as_slice.result.now ≡ length c.args.inputs.now = ap (λ (nets : List NetValue). length nets) (c.as_slice.ensures.value ∙ c.in_ok-asks.ensures.valids) ∙ length-map c.args.inputs.now (λ (input : PacketNets). input.valid) in
    adds_fewer _ _ _ _ (omega (arith, size, c.requires.some, least)) (adds_twice _ _ _ _ _ (adds_twice _ _ _ _ _ c.choose_input.ensures.adds c.select_packet.ensures.adds) c.lead_bit.ensures.adds)

pub returns-clause-leads : goal.returns-clause-leads
returns-clause-leads c =
    let list : c.as_slice.result.now ≡ valid_nets c.args.inputs.now = c.as_slice.ensures.value ∙ c.in_ok-asks.ensures.valids in
    let last = c.lead_bit.ensures.adds.grows.extends in
    record {
      beat = packet_lasts _ _ c.in_ok-beat.beat last c.in_ok-beat.ensures.packet;
      like = c.in_ok-beat.ensures.widths;
      channel = net_lasts _ _ c.in_ok-channel.channel c.args.bits (extends_twice _ _ _ c.select_packet.ensures.adds.grows.extends last) c.in_ok-channel.ensures.net;
      readies = c.in_ok-readies.ensures.each.are_bits;
      count = c.in_ok-readies.ensures.each.lengths;
      chosen = λ cycle v.
          subst (λ n. IsChosen n (cycle.net c.args.turns.now.holder.number) (is_set cycle (valid_nets c.args.inputs.now)) (cycle.net c.args.turns.now.locked.number == 1) (cycle.net c.in_ok-channel.channel.number))
          (length-map c.args.inputs.now (λ (input : PacketNets). input.valid))
          (subst (λ (nets : List NetValue). IsChosen (length nets) (cycle.net c.args.turns.now.holder.number) (is_set cycle nets) (cycle.net c.args.turns.now.locked.number == 1) (cycle.net c.in_ok-channel.channel.number)) list
          (c.in_ok-channel.ensures.value cycle (c.select_packet.ensures.adds.grows.extends.valuations cycle (last.valuations cycle v))));
      led = λ cycle v. c.in_ok-beat.ensures.value cycle (last.valuations cycle v);
      shown = c.in_ok-readies.ensures.each.value;
    }

use Rattle.std.proofs.Common.{◌*◌, ◌^◌, ◌<◌, ◌≤◌, ◌∙◌, List, length, refl, sym, ap, subst, inl, inr, arith}
use Rattle.std.proofs.Math.Nat.{mul_comm}
use Rattle.histories.specs.History.{is_raised}
use Rattle.netlist.specs.declared.line.Memory.{Memory}
use Rattle.net_parts.specs.Laws.{net_lasts, extends_twice}
use Rattle.net_parts.specs.Memories.{waits_where_same}
use Rattle.item_queues.specs.Laws.{queue_lasts, starts_last}
use Rattle.command_nets.specs.Nets.{raw_in}
use Rattle.command_nets.specs.Groups.{command_lasts}
use Rattle.memory_links.specs.Selects.{repeated}
use Rattle.mm_select.specs.Laws.{lanes_order, lanes_reach, ratio_is, place_is, address_is, many_is, levels_is, sizes_times, word_size_few, widths_are}
use Rattle.mm_select.proofs.select.SelectLink.emit_command.Goals as goal

pub returns-clause-command : goal.returns-clause-command
returns-clause-command c = c.in_ok-to.ensures.command

pub returns-clause-widths : goal.returns-clause-widths
returns-clause-widths c =
    let takes = c.requires.widths in
    let less = lanes_order _ _ _ _ c.lane_bits-first.ensures.power c.lane_bits-lanes.ensures.power takes.is.smaller in
    let sent = c.in_ok-to.ensures.sent in
    let ratio = ratio_is _ _ _ _ c.in_ok-place.place.width c.lane_bits-first.ensures.power c.lane_bits-lanes.ensures.power less c.in_ok-place.ensures.net.1 in
    widths_are _ _ _ _ _ _ _ _ _ _ sent.address_width (sent.word_width ∙ ap (λ k. k * 2 ^ c.in_ok-place.place.width) takes.word ∙ sizes_times _ _ _ ratio) (sent.enables_width ∙ ap (λ k. k * 2 ^ c.in_ok-place.place.width) takes.enables ∙ sym ratio) sent.count_width (ap (λ n. n.width) sent.tag)

pub returns-clause-kept : goal.returns-clause-kept
returns-clause-kept c =
    let takes = c.requires.widths in
    let less = lanes_order _ _ _ _ c.lane_bits-first.ensures.power c.lane_bits-lanes.ensures.power takes.is.smaller in
    let width = c.in_ok-place.ensures.net.1 in
    let few = c.lane_bits-lanes.ensures.few in
    let last = c.sent_command.ensures.adds.grows.extends in
    let two = extends_twice _ _ _ c.shut_bit.ensures.adds.grows.extends last in
    let three = extends_twice _ _ _ c.make_queue.ensures.grows.extends two in
    record {
      is = takes.is;
      ratio = ratio_is _ _ _ _ c.in_ok-place.place.width c.lane_bits-first.ensures.power c.lane_bits-lanes.ensures.power less width;
      few = omega (arith, width, few, less);
      queue = queue_lasts _ _ _ _ c.in_ok-queue.ensures.made two;
      waits = λ n o. c.sent_command.ensures.adds.grows.waits n (c.shut_bit.ensures.adds.grows.waits n (c.in_ok-queue.ensures.own_wait n o));
      waits_for_write = λ m o. waits_where_same _ _ (c.sent_command.ensures.adds.grows.memories ∙ c.shut_bit.ensures.adds.grows.memories) m (c.in_ok-queue.ensures.own_wait_for_write m o);
      read = c.in_ok-to.ensures.command.read;
      write = (command_lasts _ _ _ (extends_twice _ _ _ c.slice.ensures.extends three) c.requires.from).write;
      shut = net_lasts _ _ _ _ last c.in_ok-shut.ensures.net;
      place = three.nets _ _ c.in_ok-place.ensures.net.0;
    }

pub returns-clause-made : goal.returns-clause-made
returns-clause-made c =
    let takes = c.requires.widths in
    let n = c.args.self.now.narrow_bytes in
    let w = c.args.self.now.wide_bytes in
    let e = c.lane_bits-first.ensures.power in
    let f = c.lane_bits-lanes.ensures.power in
    let less = lanes_order _ _ _ _ e f takes.is.smaller in
    let width = c.in_ok-place.ensures.net.1 in
    let last = c.sent_command.ensures.adds.grows.extends in
    let two = extends_twice _ _ _ c.shut_bit.ensures.adds.grows.extends last in
    let three = extends_twice _ _ _ c.make_queue.ensures.grows.extends two in
    let whole = extends_twice _ _ _ c.slice.ensures.extends three in
    let sent = c.in_ok-to.ensures.sent in
    record {
      is = takes.is;
      ratio = ratio_is _ _ _ _ c.in_ok-place.place.width e f less width;
      from_nets = command_lasts _ _ _ whole c.requires.from;
      enables_width = takes.enables;
      place_net = three.nets _ _ c.in_ok-place.ensures.net.0;
      read_is = refl;
      write_is = refl;
      more_is = sent.more;
      tag_is = sent.tag;
      shut = λ cycle v. c.in_ok-shut.ensures.value cycle (last.valuations cycle v);
      levels = λ cycle v. (
          let a = cycle.net c.args.from.address.number in
          let place = place_is n w c.lane_bits-first.result c.lane_bits-lanes.result c.in_ok-place.place.width a e f less width (cycle.net c.in_ok-place.place.number) (c.in_ok-place.ensures.value cycle (three.valuations cycle v)).1 in
          levels_is (raw_in cycle c.in_ok-to.to).levels (raw_in cycle c.args.from).levels n w (is_raised (cycle.net c.in_ok-shut.shut.number)) (sent.read cycle v) (ap (λ k. cycle.net k.number) sent.write)
          (sent.address cycle v ∙ address_is n w c.lane_bits-first.result c.lane_bits-lanes.result c.in_ok-place.place.width a e f less width)
          (sent.word n takes.word cycle v ∙ ap (λ k. repeated n k (cycle.net c.args.from.word.number)) (sym (many_is n w c.lane_bits-first.result c.lane_bits-lanes.result c.in_ok-place.place.width a e f less width)))
          (sent.enables cycle v ∙ ap (λ k. cycle.net c.args.from.enables.number * 2 ^ k) (ap (λ k. k * cycle.net c.in_ok-place.place.number) takes.enables ∙ mul_comm n (cycle.net c.in_ok-place.place.number) ∙ place))
          (sent.count cycle v));
      place = λ cycle v. place_is n w c.lane_bits-first.result c.lane_bits-lanes.result c.in_ok-place.place.width (cycle.net c.args.from.address.number) e f less width (cycle.net c.in_ok-place.place.number) (c.in_ok-place.ensures.value cycle (three.valuations cycle v)).1;
      bound = c.in_ok-queue.ensures.bound;
      none = starts_last _ _ _ c.in_ok-queue.ensures.starts two;
    }

-- ---- what grows and what waits

pub returns-clause-owned : goal.returns-clause-owned
returns-clause-owned c n o =
    let own = c.in_ok-queue.ensures.owned n o in
    let before = c.slice.ensures.extends.count in
    let later = c.shut_bit.ensures.adds.grows.extends.count in
    let last = c.sent_command.ensures.adds.grows.extends.count in
    (omega (arith, own.0, before), omega (arith, own.1, later, last))

pub returns-clause-waits : goal.returns-clause-waits
returns-clause-waits c n w = c.sent_command.ensures.adds.grows.waits n (c.shut_bit.ensures.adds.grows.waits n (c.make_queue.ensures.still_wait n (c.slice.ensures.grows.waits n w)))

pub returns-clause-own_wait : goal.returns-clause-own_wait
returns-clause-own_wait c n o = c.sent_command.ensures.adds.grows.waits n (c.shut_bit.ensures.adds.grows.waits n (c.in_ok-queue.ensures.own_wait n o))

pub returns-clause-newly : goal.returns-clause-newly
returns-clause-newly c n w =
    elim (c.in_ok-queue.ensures.newly n (c.shut_bit.ensures.adds.grows.no_more_wait n (c.sent_command.ensures.adds.grows.no_more_wait n w))) [
      | inl before ↦ inl (c.slice.ensures.grows.no_more_wait n before)
      | inr own ↦ inr own
    ]

pub returns-clause-written : goal.returns-clause-written
returns-clause-written c =
    let before = c.slice.ensures.grows.memories in
    let later = c.sent_command.ensures.adds.grows.memories ∙ c.shut_bit.ensures.adds.grows.memories in
    record {
      between = λ m o. (let own = c.in_ok-queue.ensures.owned_memories m o in
          (subst (λ (l : List Memory). length l ≤ m) before own.0, subst (λ (l : List Memory). m < length l) (sym later) own.1));
      own = λ m o. waits_where_same _ _ later m (c.in_ok-queue.ensures.own_wait_for_write m o);
      still = λ m w. waits_where_same _ _ later m (c.make_queue.ensures.still_wait_for_write m (waits_where_same _ _ before m w));
      newly = λ m w. elim (c.in_ok-queue.ensures.newly_written m (waits_where_same _ _ (sym later) m w)) [
        | inl old ↦ inl (waits_where_same _ _ (sym before) m old)
        | inr own ↦ inr own
      ];
    }

pub slice-requires-clause-a_is : goal.slice-requires-clause-a_is
slice-requires-clause-a_is c = c.requires.from.address

pub slice-requires-clause-order : goal.slice-requires-clause-order
slice-requires-clause-order c = let less = lanes_order _ _ _ _ c.lane_bits-first.ensures.power c.lane_bits-lanes.ensures.power c.requires.widths.is.smaller in omega (arith, less)

pub slice-requires-clause-inside : goal.slice-requires-clause-inside
slice-requires-clause-inside c =
    let less = lanes_order _ _ _ _ c.lane_bits-first.ensures.power c.lane_bits-lanes.ensures.power c.requires.widths.is.smaller in
    let reach = lanes_reach _ _ c.args.from.address.width c.lane_bits-lanes.ensures.power c.requires.widths.reach in
    omega (arith, less, reach)

pub sent_command-requires-clause-from : goal.sent_command-requires-clause-from
sent_command-requires-clause-from c = command_lasts _ _ _ (extends_twice _ _ _ (extends_twice _ _ _ c.slice.ensures.extends c.make_queue.ensures.grows.extends) c.shut_bit.ensures.adds.grows.extends) c.requires.from

pub sent_command-requires-clause-reach : goal.sent_command-requires-clause-reach
sent_command-requires-clause-reach c = lanes_reach _ _ c.args.from.address.width c.lane_bits-lanes.ensures.power c.requires.widths.reach

pub sent_command-requires-clause-word : goal.sent_command-requires-clause-word
sent_command-requires-clause-word c =
    let takes = c.requires.widths in
    let less = lanes_order _ _ _ _ c.lane_bits-first.ensures.power c.lane_bits-lanes.ensures.power takes.is.smaller in
    let ratio = ratio_is _ _ _ _ c.in_ok-place.place.width c.lane_bits-first.ensures.power c.lane_bits-lanes.ensures.power less c.in_ok-place.ensures.net.1 in
    let size = ap (λ k. k * 2 ^ c.in_ok-place.place.width) takes.word ∙ sizes_times _ _ _ ratio in
    let few = word_size_few _ takes.is.wide in
    omega (arith, size, few)

pub sent_command-requires-clause-enables : goal.sent_command-requires-clause-enables
sent_command-requires-clause-enables c =
    let takes = c.requires.widths in
    let less = lanes_order _ _ _ _ c.lane_bits-first.ensures.power c.lane_bits-lanes.ensures.power takes.is.smaller in
    let ratio = ratio_is _ _ _ _ c.in_ok-place.place.width c.lane_bits-first.ensures.power c.lane_bits-lanes.ensures.power less c.in_ok-place.ensures.net.1 in
    let size = ap (λ k. k * 2 ^ c.in_ok-place.place.width) takes.enables in
    let few = word_size_few _ takes.is.wide in
    omega (arith, size, ratio, few)

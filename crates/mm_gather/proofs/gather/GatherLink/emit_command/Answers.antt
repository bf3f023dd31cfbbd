use Rattle.std.proofs.Common.{◌*◌, ◌%◌, ◌^◌, ◌<◌, ◌≤◌, inl, inr, List, length, subst, ◌∙◌, not, ◌&&◌, nat_lt, refl, sym, ap, ap₂, arith}
use Rattle.std.proofs.Math.Nat.{mul_comm}
use Rattle.histories.specs.History.{is_raised}
use Rattle.net_parts.specs.Laws.{net_lasts, extends_twice}
use Rattle.netlist.specs.declared.line.Memory.{Memory}
use Rattle.net_parts.specs.Memories.{waits_where_same}
use Rattle.command_nets.specs.Nets.{raw_in}
use Rattle.command_nets.specs.Groups.{command_lasts}
use Rattle.memory_links.specs.Selects.{repeated, silenced}
use Rattle.memory_links.specs.Gathers.{gathered, spread}
use Rattle.mm_select.specs.SelectNets.{bytes_shape}
use Rattle.mm_select.specs.Laws.{lanes_order, lanes_reach, ratio_is, place_is, address_is, many_is, sizes_times, word_size_few, word_size_some, widths_are}
use Rattle.mm_gather.specs.Reads.{reads_last, no_reads_last}
use Rattle.mm_gather.proofs.GatherLaws.{levels_same, some_place, count_wider, twice_lanes, few_bits}
use Rattle.mm_gather.proofs.gather.GatherLink.emit_command.Goals as goal

pub slice-requires-clause-order : goal.slice-requires-clause-order
slice-requires-clause-order c = let less = lanes_order _ _ _ _ c.lane_bits-first.ensures.power c.lane_bits-lanes.ensures.power c.requires.widths.is.smaller in omega (arith, less)

pub slice-requires-clause-inside : goal.slice-requires-clause-inside
slice-requires-clause-inside c =
    let less = lanes_order _ _ _ _ c.lane_bits-first.ensures.power c.lane_bits-lanes.ensures.power c.requires.widths.is.smaller in
    let reach = lanes_reach _ _ c.args.from.address.width c.lane_bits-lanes.ensures.power c.requires.widths.reach in
    omega (arith, less, reach)

pub overflow_mul-self : goal.overflow_mul-self
overflow_mul-self c = let few = word_size_few _ c.requires.widths.is.wide in omega (arith, few)

pub hold_reads-requires-clause-few_bits : goal.hold_reads-requires-clause-few_bits
hold_reads-requires-clause-few_bits c = few_bits _ (word_size_few _ c.requires.widths.is.wide)

pub shut_bit-requires-clause-write : goal.shut_bit-requires-clause-write
shut_bit-requires-clause-write c = net_lasts _ _ _ _ (extends_twice _ _ _ c.slice.ensures.extends c.hold_reads.ensures.grows.extends) c.requires.from.write

pub sent_beat-requires-clause-from : goal.sent_beat-requires-clause-from
sent_beat-requires-clause-from c = command_lasts _ _ _ (extends_twice _ _ _ (extends_twice _ _ _ c.slice.ensures.extends c.hold_reads.ensures.grows.extends) c.shut_bit.ensures.adds.grows.extends) c.requires.from

pub sent_beat-requires-clause-place : goal.sent_beat-requires-clause-place
sent_beat-requires-clause-place c = (extends_twice _ _ _ c.hold_reads.ensures.grows.extends c.shut_bit.ensures.adds.grows.extends).nets _ _ c.in_ok-place.ensures.net.0

pub sent_beat-requires-clause-count : goal.sent_beat-requires-clause-count
sent_beat-requires-clause-count c =
    let takes = c.requires.widths in
    let less = lanes_order _ _ _ _ c.lane_bits-first.ensures.power c.lane_bits-lanes.ensures.power c.requires.widths.is.smaller in
    let ratio = ratio_is _ _ _ _ c.in_ok-place.place.width c.lane_bits-first.ensures.power c.lane_bits-lanes.ensures.power less c.in_ok-place.ensures.net.1 in
    count_wider _ _ _ _ (word_size_some _ takes.is.narrow) takes.is.smaller takes.count ratio

pub sent_beat-requires-clause-reach : goal.sent_beat-requires-clause-reach
sent_beat-requires-clause-reach c = lanes_reach _ _ c.args.from.address.width c.lane_bits-lanes.ensures.power c.requires.widths.reach

pub sent_beat-requires-clause-word : goal.sent_beat-requires-clause-word
sent_beat-requires-clause-word c =
    let takes = c.requires.widths in
    let less = lanes_order _ _ _ _ c.lane_bits-first.ensures.power c.lane_bits-lanes.ensures.power c.requires.widths.is.smaller in
    let ratio = ratio_is _ _ _ _ c.in_ok-place.place.width c.lane_bits-first.ensures.power c.lane_bits-lanes.ensures.power less c.in_ok-place.ensures.net.1 in
    let size = ap (λ k. k * 2 ^ c.in_ok-place.place.width) takes.word ∙ sizes_times _ _ _ ratio in
    let few = word_size_few _ takes.is.wide in
    omega (arith, size, few)

pub sent_beat-requires-clause-enables : goal.sent_beat-requires-clause-enables
sent_beat-requires-clause-enables c =
    let takes = c.requires.widths in
    let less = lanes_order _ _ _ _ c.lane_bits-first.ensures.power c.lane_bits-lanes.ensures.power c.requires.widths.is.smaller in
    let ratio = ratio_is _ _ _ _ c.in_ok-place.place.width c.lane_bits-first.ensures.power c.lane_bits-lanes.ensures.power less c.in_ok-place.ensures.net.1 in
    let is = takes.enables in
    twice_lanes _ _ _ (ratio ∙ ap (λ k. k * 2 ^ c.in_ok-place.place.width) (sym is)) (word_size_few _ takes.is.wide)

pub returns-clause-widths : goal.returns-clause-widths
returns-clause-widths c =
    let takes = c.requires.widths in
    let less = lanes_order _ _ _ _ c.lane_bits-first.ensures.power c.lane_bits-lanes.ensures.power c.requires.widths.is.smaller in
    let ratio = ratio_is _ _ _ _ c.in_ok-place.place.width c.lane_bits-first.ensures.power c.lane_bits-lanes.ensures.power less c.in_ok-place.ensures.net.1 in
    let sent = c.in_ok-to.ensures.sent in
    widths_are _ _ _ _ _ _ _ _ _ _ sent.address_width
    (sent.word_width ∙ ap (λ k. k * 2 ^ c.in_ok-place.place.width) takes.word ∙ sizes_times _ _ _ ratio)
    (sent.enables_width ∙ ap (λ k. k * 2 ^ c.in_ok-place.place.width) takes.enables ∙ sym ratio)
    sent.count_width (ap (λ n. n.width) sent.tag)

pub returns-clause-kept : goal.returns-clause-kept
returns-clause-kept c =
    let takes = c.requires.widths in
    let less = lanes_order _ _ _ _ c.lane_bits-first.ensures.power c.lane_bits-lanes.ensures.power c.requires.widths.is.smaller in
    let ratio = ratio_is _ _ _ _ c.in_ok-place.place.width c.lane_bits-first.ensures.power c.lane_bits-lanes.ensures.power less c.in_ok-place.ensures.net.1 in
    let some = some_place _ _ _ takes.is.smaller ratio in
    let small = c.lane_bits-lanes.ensures.few in
    let width = c.in_ok-place.ensures.net.1 in
    let last = c.sent_beat.ensures.adds.grows.extends in
    let two = extends_twice _ _ _ c.shut_bit.ensures.adds.grows.extends last in
    let one = extends_twice _ _ _ c.hold_reads.ensures.grows.extends two in
    let all = extends_twice _ _ _ c.slice.ensures.extends one in
    record {
      is = takes.is;
      ratio = ratio;
      some = some;
      few = omega (arith, width, small, some, less);
      place = one.nets _ _ c.in_ok-place.ensures.net.0;
      count = record { is_net = all.nets _ _ c.requires.from.count; has_width = count_wider _ _ _ _ (word_size_some _ takes.is.narrow) takes.is.smaller takes.count ratio };
      read = c.in_ok-to.ensures.command.read;
      write = net_lasts _ _ _ _ all c.requires.from.write;
      shut = net_lasts _ _ _ _ last c.in_ok-shut.ensures.net;
      held = reads_last _ _ _ _ _ _ _ c.in_ok-held.ensures.held two;
      waits = λ n o. c.sent_beat.ensures.adds.grows.waits n (c.shut_bit.ensures.adds.grows.waits n (c.in_ok-held.ensures.own_wait n o));
      waits_for_write = λ m o. waits_where_same _ _ (c.sent_beat.ensures.adds.grows.memories ∙ c.shut_bit.ensures.adds.grows.memories) m (c.in_ok-held.ensures.own_wait_for_write m o);
    }

pub returns-clause-made : goal.returns-clause-made
returns-clause-made c =
    let takes = c.requires.widths in
    let n = c.args.self.now.narrow_bytes in
    let w = c.args.self.now.wide_bytes in
    let e = c.lane_bits-first.ensures.power in
    let f = c.lane_bits-lanes.ensures.power in
    let less = lanes_order _ _ _ _ e f takes.is.smaller in
    let width = c.in_ok-place.ensures.net.1 in
    let ratio = ratio_is _ _ _ _ c.in_ok-place.place.width e f less width in
    let last = c.sent_beat.ensures.adds.grows.extends in
    let two = extends_twice _ _ _ c.shut_bit.ensures.adds.grows.extends last in
    let one = extends_twice _ _ _ c.hold_reads.ensures.grows.extends two in
    let all = extends_twice _ _ _ c.slice.ensures.extends one in
    let sent = c.in_ok-to.ensures.sent in
    record {
      is = takes.is;
      ratio = ratio;
      from_nets = command_lasts _ _ _ all c.requires.from;
      enables_width = takes.enables;
      place_net = one.nets _ _ c.in_ok-place.ensures.net.0;
      count_width = count_wider _ _ _ _ (word_size_some _ takes.is.narrow) takes.is.smaller takes.count ratio;
      read_is = refl;
      write_is = refl;
      count_is = refl;
      more_is = sent.more;
      tag_is = sent.tag;
      shut = λ cycle v. c.in_ok-shut.ensures.value cycle (last.valuations cycle v) ∙ ap (λ k. not (is_raised (cycle.net c.args.from.write.number)) && not (nat_lt (cycle.net c.in_ok-held.held.entries.count.number) k)) c.in_ok-held.ensures.held.entries_bound;
      levels = λ cycle v. (
          let a = cycle.net c.args.from.address.number in
          let p = cycle.net c.in_ok-place.place.number in
          let count = cycle.net c.args.from.count.number in
          let enables = cycle.net c.args.from.enables.number in
          let place = place_is n w c.lane_bits-first.result c.lane_bits-lanes.result c.in_ok-place.place.width a e f less width p (c.in_ok-place.ensures.value cycle (one.valuations cycle v)).1 in
          levels_same (raw_in cycle c.in_ok-to.to).levels (silenced (is_raised (cycle.net c.in_ok-shut.shut.number)) (gathered (bytes_shape n) (bytes_shape w) (raw_in cycle c.args.from).levels))
          (sent.read cycle v) (ap (λ k. cycle.net k.number) sent.write)
          (sent.address cycle v ∙ address_is n w c.lane_bits-first.result c.lane_bits-lanes.result c.in_ok-place.place.width a e f less width)
          (sent.word n takes.word cycle v ∙ ap (λ k. repeated n k (cycle.net c.args.from.word.number)) (sym (many_is n w c.lane_bits-first.result c.lane_bits-lanes.result c.in_ok-place.place.width a e f less width)))
          (sent.enables cycle v ∙ ap (λ k. (spread k count enables * 2 ^ (k * p)) % 2 ^ (k * 2 ^ c.in_ok-place.place.width)) takes.enables
          ∙ ap₂ (λ x y. (spread n count enables * 2 ^ x) % 2 ^ y) (mul_comm n p ∙ place) (sym ratio))
          (sent.count cycle v));
      place = λ cycle v. place_is n w c.lane_bits-first.result c.lane_bits-lanes.result c.in_ok-place.place.width (cycle.net c.args.from.address.number) e f less width (cycle.net c.in_ok-place.place.number) (c.in_ok-place.ensures.value cycle (one.valuations cycle v)).1;
      held = reads_last _ _ _ _ _ _ _ c.in_ok-held.ensures.held two;
      begins = no_reads_last _ _ _ c.in_ok-held.ensures.begins two;
    }

-- ---- what grows and what waits

pub returns-clause-owned : goal.returns-clause-owned
returns-clause-owned c n o =
    let own = c.in_ok-held.ensures.owned n o in
    let before = c.slice.ensures.extends.count in
    let later = c.shut_bit.ensures.adds.grows.extends.count in
    let last = c.sent_beat.ensures.adds.grows.extends.count in
    (omega (arith, own.0, before), omega (arith, own.1, later, last))

pub returns-clause-waits : goal.returns-clause-waits
returns-clause-waits c n w = c.sent_beat.ensures.adds.grows.waits n (c.shut_bit.ensures.adds.grows.waits n (c.hold_reads.ensures.still_wait n (c.slice.ensures.grows.waits n w)))

pub returns-clause-own_wait : goal.returns-clause-own_wait
returns-clause-own_wait c n o = c.sent_beat.ensures.adds.grows.waits n (c.shut_bit.ensures.adds.grows.waits n (c.in_ok-held.ensures.own_wait n o))

pub returns-clause-newly : goal.returns-clause-newly
returns-clause-newly c n w =
    elim (c.in_ok-held.ensures.newly n (c.shut_bit.ensures.adds.grows.no_more_wait n (c.sent_beat.ensures.adds.grows.no_more_wait n w))) [
      | inl before ↦ inl (c.slice.ensures.grows.no_more_wait n before)
      | inr own ↦ inr own
    ]

pub returns-clause-written : goal.returns-clause-written
returns-clause-written c =
    let before = c.slice.ensures.grows.memories in
    let later = c.sent_beat.ensures.adds.grows.memories ∙ c.shut_bit.ensures.adds.grows.memories in
    record {
      between = λ m o. (let own = c.in_ok-held.ensures.owned_memories m o in
          (subst (λ (l : List Memory). length l ≤ m) before own.0, subst (λ (l : List Memory). m < length l) (sym later) own.1));
      own = λ m o. waits_where_same _ _ later m (c.in_ok-held.ensures.own_wait_for_write m o);
      still = λ m w. waits_where_same _ _ later m (c.hold_reads.ensures.still_wait_for_write m (waits_where_same _ _ before m w));
      newly = λ m w. elim (c.in_ok-held.ensures.newly_written m (waits_where_same _ _ (sym later) m w)) [
        | inl old ↦ inl (waits_where_same _ _ (sym before) m old)
        | inr own ↦ inr own
      ];
    }

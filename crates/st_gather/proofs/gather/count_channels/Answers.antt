use Rattle.std.proofs.Common.{◌∙◌, arith, inl, inr}
use Rattle.net_parts.specs.Laws.{extends_twice, net_lasts}
use Rattle.st_gather.proofs.Growing.{unwritten_as}
use Rattle.st_gather.proofs.gather.count_channels.Goals as goal

pub returns-clause-nets : goal.returns-clause-nets
returns-clause-nets c =
    let e = extends_twice _ _ _ c.counts_then.ensures.adds.grows.extends c.set_next.ensures.extends in
    let is = c.in_ok-made.ensures.nets.is in
    record {
      last = net_lasts _ _ _ _ e is.last;
      room = net_lasts _ _ _ _ e is.room;
      valid = net_lasts _ _ _ _ e is.valid;
      moves = net_lasts _ _ _ _ e is.moves;
    }

pub returns-clause-counts : goal.returns-clause-counts
returns-clause-counts c =
    let set = c.set_next.ensures.extends in
    let then_set = extends_twice _ _ _ c.counts_then.ensures.adds.grows.extends set in
    let all = extends_twice _ _ _ c.flow.ensures.adds.grows.extends then_set in
    let flows = c.in_ok-made.ensures.flows in
    let later = c.in_ok-later.ensures.value in
    record {
      bits = c.count_bits-bits.result;
      fits = c.count_bits-bits.ensures.fits;
      counts = c.in_ok-counts.counts;
      starts = λ run cycles r. c.in_ok-counts.ensures.starts run cycles (all.runs run cycles r);
      flows = record {
        picks = λ cycle v. flows.picks cycle (then_set.valuations cycle v);
        last_is = λ cycle v. flows.last_is cycle (then_set.valuations cycle v);
        room_is = λ cycle v. flows.room_is cycle (then_set.valuations cycle v);
        valid_is = λ cycle v. flows.valid_is cycle (then_set.valuations cycle v);
        moves_is = λ cycle v. flows.moves_is cycle (then_set.valuations cycle v);
      };
      later = c.in_ok-later.later;
      goes_on = record {
        next = later.next;
        next_is = λ cycle v. later.next_is cycle (set.valuations cycle v);
        later_is = λ cycle v. later.later_is cycle (set.valuations cycle v);
      };
      takes = c.set_next.ensures.value;
    }

pub returns-clause-whole : goal.returns-clause-whole
returns-clause-whole c =
    let held = c.hold_counts.ensures.grows.most in
    let flow = c.flow.ensures.adds.most in
    let then_is = c.counts_then.ensures.adds.most in
    let set = c.set_next.ensures.same_count in
    record {
      extends = extends_twice _ _ _ c.hold_counts.ensures.grows.extends (extends_twice _ _ _ c.flow.ensures.adds.grows.extends (extends_twice _ _ _ c.counts_then.ensures.adds.grows.extends c.set_next.ensures.extends));
      most = omega (arith, held, flow, then_is, set);
      drivers = c.set_next.ensures.drivers ∙ c.counts_then.ensures.adds.grows.drivers ∙ c.flow.ensures.adds.grows.drivers ∙ c.hold_counts.ensures.grows.drivers;
      waits = λ n w. (
          let later = c.set_next.ensures.no_more_wait n w in
          let before = c.flow.ensures.adds.grows.no_more_wait n (c.counts_then.ensures.adds.grows.no_more_wait n later.0) in
          elim (c.in_ok-counts.ensures.newly n before) [ inl old ↦ old | inr same ↦ absurd (later.1 same) ]);
      waits_for_write = unwritten_as _ _ (c.set_next.ensures.memories ∙ c.counts_then.ensures.adds.grows.memories ∙ c.flow.ensures.adds.grows.memories ∙ c.hold_counts.ensures.grows.memories);
    }

pub returns-clause-memories : goal.returns-clause-memories
returns-clause-memories c = c.set_next.ensures.memories ∙ c.counts_then.ensures.adds.grows.memories ∙ c.flow.ensures.adds.grows.memories ∙ c.hold_counts.ensures.grows.memories

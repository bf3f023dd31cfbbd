use Rattle.std.proofs.Common.{ap, sym, ◌∙◌, inl, inr, arith}
use Rattle.stage_core.specs.declared.beat.BeatNets.{BeatNets}
use Rattle.stage_core.specs.Beats.{beat_in}
use Rattle.stage_core.specs.Lasting.{beat_lasts}
use Rattle.net_parts.specs.Laws.{net_lasts, extends_twice, grows_twice, grows_fewer, adds_grow, waiting_within}
use Rattle.st_timing.proofs.delay.ReadyDelayStage.emit_forward.Goals as goal

pub returns-clause-owned : goal.returns-clause-owned
returns-clause-owned c n o =
    let number = c.in_ok-history.ensures.number in
    let within = waiting_within _ _ c.in_ok-history.ensures.history.waits in
    let one = c.bit_before.ensures.adds.grows.extends.count in
    let two = c.transfers.ensures.adds.grows.extends.count in
    (omega (arith, o, number), omega (arith, o, within, one, two))

pub returns-clause-beat : goal.returns-clause-beat
returns-clause-beat c =
    let more = extends_twice _ _ _ c.make_history.ensures.grows.extends (extends_twice _ _ _ c.bit_before.ensures.adds.grows.extends c.transfers.ensures.adds.grows.extends) in
    let from = beat_lasts _ _ _ more c.requires.from in
    rw c.copied.ensures (record { valid = c.in_ok-valid.ensures.net; word = from.word; channel = from.channel; error = from.error; first = from.first; last = from.last; empty = from.empty })

pub returns-clause-made : goal.returns-clause-made
returns-clause-made c =
    let more = extends_twice _ _ _ c.bit_before.ensures.adds.grows.extends c.transfers.ensures.adds.grows.extends in
    let some = c.if-self-eq0.false in
    record {
      some = omega (arith, some);
      width = c.in_ok-history.ensures.history.net.has_width;
      starts = λ run count r. c.in_ok-history.ensures.starts run count (more.runs run count r);
      ready_is = λ cycle v. c.in_ok-ready.ensures.value cycle (c.transfers.ensures.adds.grows.extends.valuations cycle v);
      valid = c.in_ok-valid.ensures.value;
      beat = λ cycle v. ap (λ (b : BeatNets). beat_in cycle b) c.copied.ensures;
    }

pub bit_before-requires-clause-history : goal.bit_before-requires-clause-history
bit_before-requires-clause-history c = c.in_ok-history.ensures.history.net.is_net

pub transfers-requires-clause-valid : goal.transfers-requires-clause-valid
transfers-requires-clause-valid c = net_lasts _ _ _ _ (extends_twice _ _ _ c.make_history.ensures.grows.extends c.bit_before.ensures.adds.grows.extends) c.requires.from.valid

pub returns-in_err-history-clause-grows : goal.returns-in_err-history-clause-grows
returns-in_err-history-clause-grows c = grows_fewer _ _ _ _ (omega arith) c.make_history.ensures.grows

pub returns-in_err-ready-clause-grows : goal.returns-in_err-ready-clause-grows
returns-in_err-ready-clause-grows c = grows_fewer _ _ _ _ (omega arith) (grows_twice _ _ _ _ _ c.make_history.ensures.grows (adds_grow _ _ _ c.bit_before.ensures.adds))

pub returns-in_err-ready-clause-waits : goal.returns-in_err-ready-clause-waits
returns-in_err-ready-clause-waits c n w = c.bit_before.ensures.adds.grows.waits n (c.make_history.ensures.still_wait n w)

pub returns-in_err-valid-clause-grows : goal.returns-in_err-valid-clause-grows
returns-in_err-valid-clause-grows c = grows_fewer _ _ _ _ (omega arith) (grows_twice _ _ _ _ _ (grows_twice _ _ _ _ _ c.make_history.ensures.grows (adds_grow _ _ _ c.bit_before.ensures.adds)) (adds_grow _ _ _ c.transfers.ensures.adds))

pub returns-in_err-valid-clause-waits : goal.returns-in_err-valid-clause-waits
returns-in_err-valid-clause-waits c n w = c.transfers.ensures.adds.grows.waits n (c.bit_before.ensures.adds.grows.waits n (c.make_history.ensures.still_wait n w))

pub returns-clause-grows : goal.returns-clause-grows
returns-clause-grows c = grows_fewer _ _ _ _ (omega arith) (grows_twice _ _ _ _ _ (grows_twice _ _ _ _ _ c.make_history.ensures.grows (adds_grow _ _ _ c.bit_before.ensures.adds)) (adds_grow _ _ _ c.transfers.ensures.adds))

pub returns-clause-waits : goal.returns-clause-waits
returns-clause-waits c n w = c.transfers.ensures.adds.grows.waits n (c.bit_before.ensures.adds.grows.waits n (c.make_history.ensures.still_wait n w))

pub returns-clause-newly : goal.returns-clause-newly
returns-clause-newly c n w =
    elim (c.make_history.ensures.newly n (c.bit_before.ensures.adds.grows.no_more_wait n (c.transfers.ensures.adds.grows.no_more_wait n w))) [ inl old ↦ inl old | inr last ↦ inr (last ∙ sym c.in_ok-history.ensures.number) ]

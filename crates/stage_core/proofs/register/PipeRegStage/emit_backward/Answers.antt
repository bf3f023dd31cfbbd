use Rattle.net_parts.specs.Laws.{net_lasts, adds_grow, grows_fewer, grows_twice}
use Rattle.stage_core.specs.Lasting.{beat_lasts, registers_last}
use Rattle.std.proofs.Common.{arith}
use Rattle.stage_core.specs.BeatLaws.{widths_turned}
use Rattle.stage_core.proofs.register.PipeRegStage.emit_backward.Goals as goal

pub load_beat-requires-clause-registers : goal.load_beat-requires-clause-registers
load_beat-requires-clause-registers c = beat_lasts _ _ _ c.has_room.ensures.adds.grows.extends c.requires.kept.nets

pub load_beat-requires-clause-wait : goal.load_beat-requires-clause-wait
load_beat-requires-clause-wait c = registers_last _ _ _ _ (λ n o. c.has_room.ensures.adds.grows.waits n) c.requires.kept.registers

pub load_beat-requires-clause-next : goal.load_beat-requires-clause-next
load_beat-requires-clause-next c = beat_lasts _ _ _ c.has_room.ensures.adds.grows.extends c.requires.kept.from

pub load_beat-requires-clause-widths : goal.load_beat-requires-clause-widths
load_beat-requires-clause-widths c = widths_turned _ _ c.requires.kept.widths

pub returns-clause-net : goal.returns-clause-net
returns-clause-net c = net_lasts _ _ _ _ c.load_beat.ensures.grows.extends c.in_ok-room.ensures.net

pub returns-clause-made : goal.returns-clause-made
returns-clause-made c = record { asks = λ cycle v. c.in_ok-room.ensures.value cycle (c.load_beat.ensures.grows.extends.valuations cycle v); moves = c.in_ok-load_beat.ensures.value }

pub returns-clause-waits : goal.returns-clause-waits
returns-clause-waits c n apart w = c.load_beat.ensures.still_wait n apart (c.has_room.ensures.adds.grows.waits n w)

pub returns-clause-no_more_wait : goal.returns-clause-no_more_wait
returns-clause-no_more_wait c n w =
    let set = c.in_ok-load_beat.ensures.no_more_wait n w in
    (c.has_room.ensures.adds.grows.no_more_wait n set.0, set.1)

pub returns-in_err-room-clause-grows : goal.returns-in_err-room-clause-grows
returns-in_err-room-clause-grows c = grows_fewer _ _ _ _ (omega arith) (adds_grow _ _ _ c.has_room.ensures.adds)

pub returns-in_err-load_beat-clause-grows : goal.returns-in_err-load_beat-clause-grows
returns-in_err-load_beat-clause-grows c = grows_twice _ _ _ _ _ (adds_grow _ _ _ c.has_room.ensures.adds) c.load_beat.ensures.grows

pub returns-clause-grows : goal.returns-clause-grows
returns-clause-grows c = grows_twice _ _ _ _ _ (adds_grow _ _ _ c.has_room.ensures.adds) c.load_beat.ensures.grows

pub returns-in_err-room-clause-waits : goal.returns-in_err-room-clause-waits
returns-in_err-room-clause-waits c n apart w = c.has_room.ensures.adds.grows.waits n w

pub returns-in_err-load_beat-clause-waits : goal.returns-in_err-load_beat-clause-waits
returns-in_err-load_beat-clause-waits c n apart w = c.load_beat.ensures.still_wait n apart (c.has_room.ensures.adds.grows.waits n w)

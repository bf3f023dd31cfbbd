use Rattle.net_parts.specs.Laws.{adds_grow, grows_fewer}
use Rattle.std.proofs.Common.{arith, inl, sym, subst}
use Rattle.stage_core.specs.Beats.{AreBeatNets}
use Rattle.stage_core.specs.Lasting.{beat_lasts}
use Rattle.stage_core.specs.Refusing.{handed_on}
use Rattle.st_format.proofs.reorder.ReorderStage.emit_forward.Goals as goal

pub returns-in_err-word-clause-grows : goal.returns-in_err-word-clause-grows
returns-in_err-word-clause-grows c = grows_fewer _ _ _ _ (omega arith) (adds_grow _ _ _ c.turn_symbols.ensures.adds)

pub returns-clause-grows : goal.returns-clause-grows
returns-clause-grows c = grows_fewer _ _ _ _ (omega arith) (adds_grow _ _ _ c.turn_symbols.ensures.adds)

pub returns-in_err-word-clause-waits : goal.returns-in_err-word-clause-waits
returns-in_err-word-clause-waits c n w = c.turn_symbols.ensures.adds.grows.waits n w

pub returns-clause-waits : goal.returns-clause-waits
returns-clause-waits c n w = c.turn_symbols.ensures.adds.grows.waits n w

pub returns-clause-newly : goal.returns-clause-newly
returns-clause-newly c n w = inl (c.turn_symbols.ensures.adds.grows.no_more_wait n w)

pub turn_symbols-requires-clause-word : goal.turn_symbols-requires-clause-word
turn_symbols-requires-clause-word c = record { is_net = c.requires.from.word; has_width = c.requires.widths }

pub returns-clause-beat : goal.returns-clause-beat
returns-clause-beat c =
    let base = subst (AreBeatNets c.turn_symbols.new.builder) (sym c.copied.ensures) (beat_lasts _ _ _ c.turn_symbols.ensures.adds.grows.extends c.requires.from) in
    record { valid = base.valid; word = c.in_ok-word.ensures.net.is_net; channel = base.channel; error = base.error; first = base.first; last = base.last; empty = base.empty }

pub returns-in_err-word-clause-full : goal.returns-in_err-word-clause-full
returns-in_err-word-clause-full c room e = let full = c.turn_symbols.ensures.full (handed_on _ _ _ _ c.in_err-word.was c.from_residual.ensures.1 e) in omega (arith, full)

pub returns-clause-full : goal.returns-clause-full
returns-clause-full c room e = cc

use Rattle.std.proofs.Common.{◌==◌, ◌&&◌, if◌then◌else◌, ap, ◌∙◌, arith}
use Rattle.netlist.specs.Runs.{cycle_of}
use Rattle.stage_core.specs.Groups.{Shown, shown_in}
use Rattle.net_parts.specs.Laws.{net_lasts, extends_twice, grows_once, grows_twice, grows_fewer, bit_fits, adds_grow}
use Rattle.stage_core.specs.Lasting.{beat_lasts, registers_last}
use Rattle.stage_core.specs.BeatLaws.{widths_turned, widths_twice}
use Rattle.net_parts.specs.Bits.{high_and, high_room}
use Rattle.st_format.proofs.WidenLemmas.{with_word, next_shown}
use Rattle.stage_core.specs.Refusing.{handed_on}
use Rattle.st_format.proofs.widen.WidenStage.emit_backward.Goals as goal

pub or-requires-clause-widths : goal.or-requires-clause-widths
or-requires-clause-widths c = let low = c.in_ok-not_full.ensures.net.1 in let full = c.requires.kept.full.has_width in let ready = c.requires.ready.has_width in omega (arith, low, full, ready)

pub and-requires-clause-widths : goal.and-requires-clause-widths
and-requires-clause-widths c = let coming = c.requires.kept.coming.has_width in let up = c.in_ok-up.ensures.net.1 in let low = c.in_ok-not_full.ensures.net.1 in let full = c.requires.kept.full.has_width in let ready = c.requires.ready.has_width in omega (arith, coming, up, low, full, ready)

pub mux_beat-requires-clause-bit : goal.mux_beat-requires-clause-bit
mux_beat-requires-clause-bit c = net_lasts _ _ _ _ (extends_twice _ _ _ c.not.ensures.extends (extends_twice _ _ _ c.or.ensures.extends c.and.ensures.extends)) c.requires.kept.full

pub mux_beat-requires-clause-one : goal.mux_beat-requires-clause-one
mux_beat-requires-clause-one c = beat_lasts _ _ _ (extends_twice _ _ _ c.not.ensures.extends (extends_twice _ _ _ c.or.ensures.extends c.and.ensures.extends)) c.requires.kept.none

pub mux_beat-requires-clause-other : goal.mux_beat-requires-clause-other
mux_beat-requires-clause-other c = beat_lasts _ _ _ (extends_twice _ _ _ c.not.ensures.extends (extends_twice _ _ _ c.or.ensures.extends c.and.ensures.extends)) c.requires.kept.filled

pub mux_beat-requires-clause-widths : goal.mux_beat-requires-clause-widths
mux_beat-requires-clause-widths c = widths_twice _ _ _ c.requires.kept.none_widths (widths_turned _ _ c.requires.kept.filled_widths)

pub or-requires-clause-a_is : goal.or-requires-clause-a_is
or-requires-clause-a_is c = c.in_ok-not_full.ensures.net.0

pub or-requires-clause-b_is : goal.or-requires-clause-b_is
or-requires-clause-b_is c = c.not.ensures.extends.nets _ _ c.requires.ready.is_net

pub and-requires-clause-a_is : goal.and-requires-clause-a_is
and-requires-clause-a_is c = (extends_twice _ _ _ c.not.ensures.extends c.or.ensures.extends).nets _ _ c.requires.kept.coming.is_net

pub and-requires-clause-b_is : goal.and-requires-clause-b_is
and-requires-clause-b_is c = c.in_ok-up.ensures.net.0

pub returns-in_err-not_full-clause-grows : goal.returns-in_err-not_full-clause-grows
returns-in_err-not_full-clause-grows c = grows_fewer _ _ _ _ (omega arith) (adds_grow _ _ _ (grows_once _ _ c.not.ensures.extends c.not.ensures.grows))

pub returns-in_err-up-clause-grows : goal.returns-in_err-up-clause-grows
returns-in_err-up-clause-grows c = grows_fewer _ _ _ _ (omega arith) (grows_twice _ _ _ _ _ (adds_grow _ _ _ (grows_once _ _ c.not.ensures.extends c.not.ensures.grows)) (adds_grow _ _ _ (grows_once _ _ c.or.ensures.extends c.or.ensures.grows)))

pub returns-in_err-comes-clause-grows : goal.returns-in_err-comes-clause-grows
returns-in_err-comes-clause-grows c = grows_fewer _ _ _ _ (omega arith) (grows_twice _ _ _ _ _ (grows_twice _ _ _ _ _ (adds_grow _ _ _ (grows_once _ _ c.not.ensures.extends c.not.ensures.grows)) (adds_grow _ _ _ (grows_once _ _ c.or.ensures.extends c.or.ensures.grows))) (adds_grow _ _ _ (grows_once _ _ c.and.ensures.extends c.and.ensures.grows)))

pub returns-in_err-cleared-clause-grows : goal.returns-in_err-cleared-clause-grows
returns-in_err-cleared-clause-grows c = grows_fewer _ _ _ _ (omega arith) (grows_twice _ _ _ _ _ (grows_twice _ _ _ _ _ (grows_twice _ _ _ _ _ (adds_grow _ _ _ (grows_once _ _ c.not.ensures.extends c.not.ensures.grows)) (adds_grow _ _ _ (grows_once _ _ c.or.ensures.extends c.or.ensures.grows))) (adds_grow _ _ _ (grows_once _ _ c.and.ensures.extends c.and.ensures.grows))) (adds_grow _ _ _ c.mux_beat.ensures.adds))

pub returns-in_err-not_full-clause-waits : goal.returns-in_err-not_full-clause-waits
returns-in_err-not_full-clause-waits c n apart w = c.not.ensures.grows.waits n w

pub returns-in_err-up-clause-waits : goal.returns-in_err-up-clause-waits
returns-in_err-up-clause-waits c n apart w = c.or.ensures.grows.waits n (c.not.ensures.grows.waits n w)

pub returns-in_err-comes-clause-waits : goal.returns-in_err-comes-clause-waits
returns-in_err-comes-clause-waits c n apart w = c.and.ensures.grows.waits n (c.or.ensures.grows.waits n (c.not.ensures.grows.waits n w))

pub returns-in_err-cleared-clause-waits : goal.returns-in_err-cleared-clause-waits
returns-in_err-cleared-clause-waits c n apart w = c.mux_beat.ensures.adds.grows.waits n (c.and.ensures.grows.waits n (c.or.ensures.grows.waits n (c.not.ensures.grows.waits n w)))

pub returns-in_err-not_full-clause-full : goal.returns-in_err-not_full-clause-full
returns-in_err-not_full-clause-full c e = let full = c.not.ensures.full.0 (handed_on _ _ _ _ c.in_err-not_full.was c.from_residual.ensures.1 e) in omega (arith, full)

pub returns-in_err-up-clause-full : goal.returns-in_err-up-clause-full
returns-in_err-up-clause-full c e = let most0 = c.not.ensures.grows.most in let full = c.or.ensures.full.0 (handed_on _ _ _ _ c.in_err-up.was c.from_residual-in_err-up.ensures.1 e) in omega (arith, most0, full)

pub returns-in_err-comes-clause-full : goal.returns-in_err-comes-clause-full
returns-in_err-comes-clause-full c e = let most0 = c.not.ensures.grows.most in let most1 = c.or.ensures.grows.most in let full = c.and.ensures.full.0 (handed_on _ _ _ _ c.in_err-comes.was c.from_residual-in_err-comes.ensures.1 e) in omega (arith, most0, most1, full)

pub returns-in_err-cleared-clause-full : goal.returns-in_err-cleared-clause-full
returns-in_err-cleared-clause-full c e = let most0 = c.not.ensures.grows.most in let most1 = c.or.ensures.grows.most in let most2 = c.and.ensures.grows.most in let full = c.mux_beat.ensures.full (handed_on _ _ _ _ c.in_err-cleared.was c.from_residual-in_err-cleared.ensures.1 e) in omega (arith, most0, most1, most2, full)

pub load_beat-requires-clause-registers : goal.load_beat-requires-clause-registers
load_beat-requires-clause-registers c = beat_lasts _ _ _ (extends_twice _ _ _ c.not.ensures.extends (extends_twice _ _ _ c.or.ensures.extends (extends_twice _ _ _ c.and.ensures.extends c.mux_beat.ensures.adds.grows.extends))) c.requires.kept.held

pub load_beat-requires-clause-wait : goal.load_beat-requires-clause-wait
load_beat-requires-clause-wait c = registers_last _ _ _ _ (λ n o w. (c.mux_beat.ensures.adds.grows.waits n (c.and.ensures.grows.waits n (c.or.ensures.grows.waits n (c.not.ensures.grows.waits n w))))) c.requires.kept.registers

pub load_beat-requires-clause-loads : goal.load_beat-requires-clause-loads
load_beat-requires-clause-loads c = net_lasts _ _ _ _ c.mux_beat.ensures.adds.grows.extends (record { is_net = c.in_ok-comes.ensures.net.0; has_width = c.in_ok-comes.ensures.net.1 ∙ c.requires.kept.coming.has_width })

pub load_beat-requires-clause-next : goal.load_beat-requires-clause-next
load_beat-requires-clause-next c =
    let filled = beat_lasts _ _ _ (extends_twice _ _ _ c.not.ensures.extends (extends_twice _ _ _ c.or.ensures.extends (extends_twice _ _ _ c.and.ensures.extends c.mux_beat.ensures.adds.grows.extends))) c.requires.kept.filled in
    let cleared = c.in_ok-cleared.ensures.beat in
    record { valid = cleared.valid; word = filled.word; channel = cleared.channel; error = cleared.error; first = cleared.first; last = cleared.last; empty = cleared.empty }

pub load_beat-requires-clause-widths : goal.load_beat-requires-clause-widths
load_beat-requires-clause-widths c =
    let same = widths_twice _ _ _ c.in_ok-cleared.ensures.widths c.requires.kept.none_widths in
    record { valid = same.valid; word = c.requires.kept.filled_widths.word; channel = same.channel; error = same.error; first = same.first; last = same.last; empty = same.empty }

pub returns-clause-net : goal.returns-clause-net
returns-clause-net c = net_lasts _ _ _ _ (extends_twice _ _ _ c.and.ensures.extends (extends_twice _ _ _ c.mux_beat.ensures.adds.grows.extends c.load_beat.ensures.grows.extends)) (record { is_net = c.in_ok-up.ensures.net.0; has_width = (let up = c.in_ok-up.ensures.net.1 in let low = c.in_ok-not_full.ensures.net.1 in let full = c.requires.kept.full.has_width in let ready = c.requires.ready.has_width in omega (arith, up, low, full, ready)) })

pub returns-clause-made : goal.returns-clause-made
returns-clause-made c = record {
  asks = λ cycle v6. (
      let v3 = c.mux_beat.ensures.adds.grows.extends.valuations cycle (c.load_beat.ensures.grows.extends.valuations cycle v6) in
      let v2 = c.and.ensures.extends.valuations cycle v3 in
      let v1 = c.or.ensures.extends.valuations cycle v2 in
      let v0 = c.not.ensures.extends.valuations cycle v1 in
      high_room _ (cycle.net c.args.kept.full.number) _ (cycle.net c.args.ready.number) _ c.requires.kept.full.has_width (bit_fits _ _ c.requires.kept.full cycle v0) (bit_fits _ _ c.requires.ready cycle v0) (c.in_ok-not_full.ensures.value cycle v1).1 (c.in_ok-up.ensures.value cycle v2).1);
  moves = λ run cycles r n lt. (
      let v4 = c.load_beat.ensures.grows.extends.valuations (cycle_of run n) (r.valuations n (omega arith)) in
      let v3 = c.mux_beat.ensures.adds.grows.extends.valuations (cycle_of run n) v4 in
      let v2 = c.and.ensures.extends.valuations (cycle_of run n) v3 in
      let v1 = c.or.ensures.extends.valuations (cycle_of run n) v2 in
      let v0 = c.not.ensures.extends.valuations (cycle_of run n) v1 in
      let up = bit_fits _ _ (record { is_net = c.in_ok-up.ensures.net.0; has_width = (let up = c.in_ok-up.ensures.net.1 in let low = c.in_ok-not_full.ensures.net.1 in let full = c.requires.kept.full.has_width in let ready = c.requires.ready.has_width in omega (arith, up, low, full, ready)) }) (cycle_of run n) v2 in
      let comes = high_and (run.net n c.args.kept.coming.number) (run.net n c.in_ok-up.up.number) (run.net n c.in_ok-comes.comes.number) (bit_fits _ _ c.requires.kept.coming (cycle_of run n) v0) up (c.in_ok-comes.ensures.value (cycle_of run n) v3).1 in
      c.in_ok-load_beat.ensures.value run cycles r n lt
      ∙ ap (λ t. if t then with_word (shown_in (cycle_of run n) c.in_ok-cleared.cleared) (run.net n c.args.kept.filled.word.number) else shown_in (cycle_of run n) c.args.kept.held) comes
      ∙ ap (λ (x : Shown). if (run.net n c.args.kept.coming.number == 1) && (run.net n c.in_ok-up.up.number == 1) then x else shown_in (cycle_of run n) c.args.kept.held)
      (next_shown (shown_in (cycle_of run n) c.in_ok-cleared.cleared) (run.net n c.args.kept.full.number == 1) (shown_in (cycle_of run n) c.args.kept.none) (shown_in (cycle_of run n) c.args.kept.filled) (c.in_ok-cleared.ensures.value (cycle_of run n) v4)));
}

pub returns-clause-waits : goal.returns-clause-waits
returns-clause-waits c n apart w = c.load_beat.ensures.still_wait n apart (c.mux_beat.ensures.adds.grows.waits n (c.and.ensures.grows.waits n (c.or.ensures.grows.waits n (c.not.ensures.grows.waits n w))))

pub returns-in_err-load_beat-clause-waits : goal.returns-in_err-load_beat-clause-waits
returns-in_err-load_beat-clause-waits c n apart w = c.load_beat.ensures.still_wait n apart (c.mux_beat.ensures.adds.grows.waits n (c.and.ensures.grows.waits n (c.or.ensures.grows.waits n (c.not.ensures.grows.waits n w))))

pub returns-clause-no_more_wait : goal.returns-clause-no_more_wait
returns-clause-no_more_wait c n w =
    let set = c.in_ok-load_beat.ensures.no_more_wait n w in
    (c.not.ensures.grows.no_more_wait n (c.or.ensures.grows.no_more_wait n (c.and.ensures.grows.no_more_wait n (c.mux_beat.ensures.adds.grows.no_more_wait n set.0))), set.1)

pub returns-clause-grows : goal.returns-clause-grows
returns-clause-grows c = grows_fewer _ _ _ _ (omega arith) (grows_twice _ _ _ _ _ (grows_twice _ _ _ _ _ (grows_twice _ _ _ _ _ (grows_twice _ _ _ _ _ (adds_grow _ _ _ (grows_once _ _ c.not.ensures.extends c.not.ensures.grows)) (adds_grow _ _ _ (grows_once _ _ c.or.ensures.extends c.or.ensures.grows))) (adds_grow _ _ _ (grows_once _ _ c.and.ensures.extends c.and.ensures.grows))) (adds_grow _ _ _ c.mux_beat.ensures.adds)) c.load_beat.ensures.grows)

pub returns-in_err-load_beat-clause-grows : goal.returns-in_err-load_beat-clause-grows
returns-in_err-load_beat-clause-grows c = grows_fewer _ _ _ _ (omega arith) (grows_twice _ _ _ _ _ (grows_twice _ _ _ _ _ (grows_twice _ _ _ _ _ (grows_twice _ _ _ _ _ (adds_grow _ _ _ (grows_once _ _ c.not.ensures.extends c.not.ensures.grows)) (adds_grow _ _ _ (grows_once _ _ c.or.ensures.extends c.or.ensures.grows))) (adds_grow _ _ _ (grows_once _ _ c.and.ensures.extends c.and.ensures.grows))) (adds_grow _ _ _ c.mux_beat.ensures.adds)) c.load_beat.ensures.grows)

pub returns-in_err-load_beat-clause-full : goal.returns-in_err-load_beat-clause-full
returns-in_err-load_beat-clause-full c e = let most0 = c.not.ensures.grows.most in let most1 = c.or.ensures.grows.most in let most2 = c.and.ensures.grows.most in let most3 = c.mux_beat.ensures.adds.most in let full = c.load_beat.ensures.full (handed_on _ _ _ _ c.in_err-load_beat.was c.from_residual-in_err-load_beat.ensures.1 e) in omega (arith, most0, most1, most2, most3, full)

pub returns-clause-full : goal.returns-clause-full
returns-clause-full c e = cc

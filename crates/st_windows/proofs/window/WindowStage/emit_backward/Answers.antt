use Rattle.std.proofs.Common.{◌==◌, ◌&&◌, if◌then◌else◌, ◌∙◌, sym, ap, arith}
use Rattle.netlist.specs.Runs.{cycle_of}
use Rattle.net_parts.specs.Laws.{net_lasts, extends_twice, grows_once, grows_twice, grows_fewer, adds_grow, bit_fits}
use Rattle.net_parts.specs.Bits.{high_and, high_or}
use Rattle.net_parts.specs.Refusing.{handed_on}
use Rattle.stage_core.specs.Groups.{shown_in}
use Rattle.stage_core.specs.Lasting.{beat_lasts, registers_last}
use Rattle.stage_core.specs.BeatLaws.{widths_turned, widths_twice}
use Rattle.st_windows.proofs.CountNets.{loaded_shown}
use Rattle.st_windows.proofs.window.WindowStage.emit_backward.Goals as goal

pub and-requires-clause-a_is : goal.and-requires-clause-a_is
and-requires-clause-a_is c = c.asks_for.ensures.adds.grows.extends.nets _ _ c.requires.kept.coming.is_net

pub and-requires-clause-b_is : goal.and-requires-clause-b_is
and-requires-clause-b_is c = c.in_ok-up.ensures.net.is_net

pub and-requires-clause-widths : goal.and-requires-clause-widths
and-requires-clause-widths c = c.requires.kept.coming.has_width ∙ sym c.in_ok-up.ensures.net.has_width

pub and-requires-2-clause-a_is : goal.and-requires-2-clause-a_is
and-requires-2-clause-a_is c = (extends_twice _ _ _ c.asks_for.ensures.adds.grows.extends c.and.ensures.extends).nets _ _ c.requires.kept.full.is_net

pub and-requires-2-clause-b_is : goal.and-requires-2-clause-b_is
and-requires-2-clause-b_is c = (extends_twice _ _ _ c.asks_for.ensures.adds.grows.extends c.and.ensures.extends).nets _ _ c.requires.ready.is_net

pub and-requires-2-clause-widths : goal.and-requires-2-clause-widths
and-requires-2-clause-widths c = c.requires.kept.full.has_width ∙ sym c.requires.ready.has_width

pub or-requires-clause-a_is : goal.or-requires-clause-a_is
or-requires-clause-a_is c = c.in_ok-goes.ensures.net.0

pub or-requires-clause-b_is : goal.or-requires-clause-b_is
or-requires-clause-b_is c = c.and-2.ensures.extends.nets _ _ c.in_ok-comes.ensures.net.0

pub or-requires-clause-widths : goal.or-requires-clause-widths
or-requires-clause-widths c = c.in_ok-goes.ensures.net.1 ∙ c.requires.kept.full.has_width ∙ sym (c.in_ok-comes.ensures.net.1 ∙ c.requires.kept.coming.has_width)

pub mux_beat-requires-clause-bit : goal.mux_beat-requires-clause-bit
mux_beat-requires-clause-bit c = net_lasts _ _ _ _ c.or.ensures.extends (record { is_net = c.in_ok-goes.ensures.net.0; has_width = c.in_ok-goes.ensures.net.1 ∙ c.requires.kept.full.has_width })

pub mux_beat-requires-clause-one : goal.mux_beat-requires-clause-one
mux_beat-requires-clause-one c = beat_lasts _ _ _ (extends_twice _ _ _ c.asks_for.ensures.adds.grows.extends (extends_twice _ _ _ c.and.ensures.extends (extends_twice _ _ _ c.and-2.ensures.extends c.or.ensures.extends))) c.requires.kept.rest

pub mux_beat-requires-clause-other : goal.mux_beat-requires-clause-other
mux_beat-requires-clause-other c = beat_lasts _ _ _ (extends_twice _ _ _ c.asks_for.ensures.adds.grows.extends (extends_twice _ _ _ c.and.ensures.extends (extends_twice _ _ _ c.and-2.ensures.extends c.or.ensures.extends))) c.requires.kept.gathered

pub mux_beat-requires-clause-widths : goal.mux_beat-requires-clause-widths
mux_beat-requires-clause-widths c = widths_twice _ _ _ c.requires.kept.rest_widths (widths_turned _ _ c.requires.kept.gathered_widths)

pub load_beat-requires-clause-registers : goal.load_beat-requires-clause-registers
load_beat-requires-clause-registers c = beat_lasts _ _ _ (extends_twice _ _ _ c.asks_for.ensures.adds.grows.extends (extends_twice _ _ _ c.and.ensures.extends (extends_twice _ _ _ c.and-2.ensures.extends (extends_twice _ _ _ c.or.ensures.extends c.mux_beat.ensures.adds.grows.extends)))) c.requires.kept.held

pub load_beat-requires-clause-wait : goal.load_beat-requires-clause-wait
load_beat-requires-clause-wait c = registers_last _ _ _ _ (λ n o w. c.mux_beat.ensures.adds.grows.waits n (c.or.ensures.grows.waits n (c.and-2.ensures.grows.waits n (c.and.ensures.grows.waits n (c.asks_for.ensures.adds.grows.waits n w))))) c.requires.kept.registers

pub load_beat-requires-clause-loads : goal.load_beat-requires-clause-loads
load_beat-requires-clause-loads c = net_lasts _ _ _ _ c.mux_beat.ensures.adds.grows.extends (record { is_net = c.in_ok-loads.ensures.net.0; has_width = c.in_ok-loads.ensures.net.1 ∙ c.in_ok-goes.ensures.net.1 ∙ c.requires.kept.full.has_width })

pub load_beat-requires-clause-next : goal.load_beat-requires-clause-next
load_beat-requires-clause-next c = c.in_ok-next.ensures.beat

pub load_beat-requires-clause-widths : goal.load_beat-requires-clause-widths
load_beat-requires-clause-widths c = widths_twice _ _ _ c.in_ok-next.ensures.widths c.requires.kept.rest_widths

pub returns-clause-net : goal.returns-clause-net
returns-clause-net c = net_lasts _ _ _ _ (extends_twice _ _ _ c.and.ensures.extends (extends_twice _ _ _ c.and-2.ensures.extends (extends_twice _ _ _ c.or.ensures.extends (extends_twice _ _ _ c.mux_beat.ensures.adds.grows.extends c.load_beat.ensures.grows.extends)))) c.in_ok-up.ensures.net

pub returns-clause-made : goal.returns-clause-made
returns-clause-made c =
    record {
      asks = λ cycle v. c.in_ok-up.ensures.value cycle ((extends_twice _ _ _ c.and.ensures.extends (extends_twice _ _ _ c.and-2.ensures.extends (extends_twice _ _ _ c.or.ensures.extends (extends_twice _ _ _ c.mux_beat.ensures.adds.grows.extends c.load_beat.ensures.grows.extends)))).valuations cycle v);
      moves = λ run cycles r n lt.
          (let v6 = r.valuations n (omega arith) in
          let v5 = c.load_beat.ensures.grows.extends.valuations (cycle_of run n) v6 in
          let v4 = c.mux_beat.ensures.adds.grows.extends.valuations (cycle_of run n) v5 in
          let v3 = c.or.ensures.extends.valuations (cycle_of run n) v4 in
          let v2 = c.and-2.ensures.extends.valuations (cycle_of run n) v3 in
          let v1 = c.and.ensures.extends.valuations (cycle_of run n) v2 in
          let v0 = c.asks_for.ensures.adds.grows.extends.valuations (cycle_of run n) v1 in
          let comes = high_and (run.net n c.args.kept.coming.number) (run.net n c.in_ok-up.up.number) (run.net n c.in_ok-comes.comes.number) (bit_fits _ _ c.requires.kept.coming (cycle_of run n) v0) (bit_fits _ _ c.in_ok-up.ensures.net (cycle_of run n) v1) (c.in_ok-comes.ensures.value (cycle_of run n) v2).1 in
          let goes = high_and (run.net n c.args.kept.full.number) (run.net n c.args.ready.number) (run.net n c.in_ok-goes.goes.number) (bit_fits _ _ c.requires.kept.full (cycle_of run n) v0) (bit_fits _ _ c.requires.ready (cycle_of run n) v0) (c.in_ok-goes.ensures.value (cycle_of run n) v3).1 in
          let loads = high_or (run.net n c.in_ok-goes.goes.number) (run.net n c.in_ok-comes.comes.number) (run.net n c.in_ok-loads.loads.number) (bit_fits _ _ (record { is_net = c.in_ok-goes.ensures.net.0; has_width = c.in_ok-goes.ensures.net.1 ∙ c.requires.kept.full.has_width }) (cycle_of run n) v3) (bit_fits _ _ (record { is_net = c.in_ok-comes.ensures.net.0; has_width = c.in_ok-comes.ensures.net.1 ∙ c.requires.kept.coming.has_width }) (cycle_of run n) v2) (c.in_ok-loads.ensures.value (cycle_of run n) v4).1 in
          loaded_shown (run.net n c.in_ok-loads.loads.number == 1) (run.net n c.in_ok-goes.goes.number == 1) (run.net n c.in_ok-comes.comes.number == 1) _ (shown_in (cycle_of run n) c.args.kept.rest) (shown_in (cycle_of run n) c.args.kept.gathered) (shown_in (cycle_of run n) c.args.kept.held) _
          loads (c.in_ok-next.ensures.value (cycle_of run n) v5) (c.in_ok-load_beat.ensures.value run cycles r n lt)
          ∙ ap (λ t. if t then shown_in (cycle_of run n) c.args.kept.rest else (if run.net n c.in_ok-comes.comes.number == 1 then shown_in (cycle_of run n) c.args.kept.gathered else shown_in (cycle_of run n) c.args.kept.held)) goes
          ∙ ap (λ t. if (run.net n c.args.kept.full.number == 1) && (run.net n c.args.ready.number == 1) then shown_in (cycle_of run n) c.args.kept.rest else (if t then shown_in (cycle_of run n) c.args.kept.gathered else shown_in (cycle_of run n) c.args.kept.held)) comes);
    }

pub returns-in_err-up-clause-grows : goal.returns-in_err-up-clause-grows
returns-in_err-up-clause-grows c = grows_fewer _ _ _ _ (omega arith) (adds_grow _ _ _ c.asks_for.ensures.adds)

pub returns-in_err-comes-clause-grows : goal.returns-in_err-comes-clause-grows
returns-in_err-comes-clause-grows c = grows_fewer _ _ _ _ (omega arith) (grows_twice _ _ _ _ _ (adds_grow _ _ _ c.asks_for.ensures.adds) (adds_grow _ _ _ (grows_once _ _ c.and.ensures.extends c.and.ensures.grows)))

pub returns-in_err-goes-clause-grows : goal.returns-in_err-goes-clause-grows
returns-in_err-goes-clause-grows c = grows_fewer _ _ _ _ (omega arith) (grows_twice _ _ _ _ _ (grows_twice _ _ _ _ _ (adds_grow _ _ _ c.asks_for.ensures.adds) (adds_grow _ _ _ (grows_once _ _ c.and.ensures.extends c.and.ensures.grows))) (adds_grow _ _ _ (grows_once _ _ c.and-2.ensures.extends c.and-2.ensures.grows)))

pub returns-in_err-loads-clause-grows : goal.returns-in_err-loads-clause-grows
returns-in_err-loads-clause-grows c = grows_fewer _ _ _ _ (omega arith) (grows_twice _ _ _ _ _ (grows_twice _ _ _ _ _ (grows_twice _ _ _ _ _ (adds_grow _ _ _ c.asks_for.ensures.adds) (adds_grow _ _ _ (grows_once _ _ c.and.ensures.extends c.and.ensures.grows))) (adds_grow _ _ _ (grows_once _ _ c.and-2.ensures.extends c.and-2.ensures.grows))) (adds_grow _ _ _ (grows_once _ _ c.or.ensures.extends c.or.ensures.grows)))

pub returns-in_err-next-clause-grows : goal.returns-in_err-next-clause-grows
returns-in_err-next-clause-grows c = grows_fewer _ _ _ _ (omega arith) (grows_twice _ _ _ _ _ (grows_twice _ _ _ _ _ (grows_twice _ _ _ _ _ (grows_twice _ _ _ _ _ (adds_grow _ _ _ c.asks_for.ensures.adds) (adds_grow _ _ _ (grows_once _ _ c.and.ensures.extends c.and.ensures.grows))) (adds_grow _ _ _ (grows_once _ _ c.and-2.ensures.extends c.and-2.ensures.grows))) (adds_grow _ _ _ (grows_once _ _ c.or.ensures.extends c.or.ensures.grows))) (adds_grow _ _ _ c.mux_beat.ensures.adds))

pub returns-in_err-load_beat-clause-grows : goal.returns-in_err-load_beat-clause-grows
returns-in_err-load_beat-clause-grows c = grows_fewer _ _ _ _ (omega arith) (grows_twice _ _ _ _ _ (grows_twice _ _ _ _ _ (grows_twice _ _ _ _ _ (grows_twice _ _ _ _ _ (grows_twice _ _ _ _ _ (adds_grow _ _ _ c.asks_for.ensures.adds) (adds_grow _ _ _ (grows_once _ _ c.and.ensures.extends c.and.ensures.grows))) (adds_grow _ _ _ (grows_once _ _ c.and-2.ensures.extends c.and-2.ensures.grows))) (adds_grow _ _ _ (grows_once _ _ c.or.ensures.extends c.or.ensures.grows))) (adds_grow _ _ _ c.mux_beat.ensures.adds)) c.load_beat.ensures.grows)

pub returns-clause-grows : goal.returns-clause-grows
returns-clause-grows c = grows_fewer _ _ _ _ (omega arith) (grows_twice _ _ _ _ _ (grows_twice _ _ _ _ _ (grows_twice _ _ _ _ _ (grows_twice _ _ _ _ _ (grows_twice _ _ _ _ _ (adds_grow _ _ _ c.asks_for.ensures.adds) (adds_grow _ _ _ (grows_once _ _ c.and.ensures.extends c.and.ensures.grows))) (adds_grow _ _ _ (grows_once _ _ c.and-2.ensures.extends c.and-2.ensures.grows))) (adds_grow _ _ _ (grows_once _ _ c.or.ensures.extends c.or.ensures.grows))) (adds_grow _ _ _ c.mux_beat.ensures.adds)) c.load_beat.ensures.grows)

pub returns-in_err-up-clause-full : goal.returns-in_err-up-clause-full
returns-in_err-up-clause-full c e = let full = c.asks_for.ensures.full (handed_on _ _ _ _ c.in_err-up.was c.from_residual.ensures.1 e) in omega (arith, full)

pub returns-in_err-comes-clause-full : goal.returns-in_err-comes-clause-full
returns-in_err-comes-clause-full c e = let most0 = c.asks_for.ensures.adds.most in let full = c.and.ensures.full.0 (handed_on _ _ _ _ c.in_err-comes.was c.from_residual-in_err-comes.ensures.1 e) in omega (arith, most0, full)

pub returns-in_err-goes-clause-full : goal.returns-in_err-goes-clause-full
returns-in_err-goes-clause-full c e = let most0 = c.asks_for.ensures.adds.most in let most1 = c.and.ensures.grows.most in let full = c.and-2.ensures.full.0 (handed_on _ _ _ _ c.in_err-goes.was c.from_residual-in_err-goes.ensures.1 e) in omega (arith, most0, most1, full)

pub returns-in_err-loads-clause-full : goal.returns-in_err-loads-clause-full
returns-in_err-loads-clause-full c e = let most0 = c.asks_for.ensures.adds.most in let most1 = c.and.ensures.grows.most in let most2 = c.and-2.ensures.grows.most in let full = c.or.ensures.full.0 (handed_on _ _ _ _ c.in_err-loads.was c.from_residual-in_err-loads.ensures.1 e) in omega (arith, most0, most1, most2, full)

pub returns-in_err-next-clause-full : goal.returns-in_err-next-clause-full
returns-in_err-next-clause-full c e = let most0 = c.asks_for.ensures.adds.most in let most1 = c.and.ensures.grows.most in let most2 = c.and-2.ensures.grows.most in let most3 = c.or.ensures.grows.most in let full = c.mux_beat.ensures.full (handed_on _ _ _ _ c.in_err-next.was c.from_residual-in_err-next.ensures.1 e) in omega (arith, most0, most1, most2, most3, full)

pub returns-in_err-load_beat-clause-full : goal.returns-in_err-load_beat-clause-full
returns-in_err-load_beat-clause-full c e = let most0 = c.asks_for.ensures.adds.most in let most1 = c.and.ensures.grows.most in let most2 = c.and-2.ensures.grows.most in let most3 = c.or.ensures.grows.most in let most4 = c.mux_beat.ensures.adds.most in let full = c.load_beat.ensures.full (handed_on _ _ _ _ c.in_err-load_beat.was c.from_residual-in_err-load_beat.ensures.1 e) in omega (arith, most0, most1, most2, most3, most4, full)

pub returns-clause-full : goal.returns-clause-full
returns-clause-full c e = cc

pub returns-in_err-up-clause-waits : goal.returns-in_err-up-clause-waits
returns-in_err-up-clause-waits c n apart w = c.asks_for.ensures.adds.grows.waits n w

pub returns-in_err-comes-clause-waits : goal.returns-in_err-comes-clause-waits
returns-in_err-comes-clause-waits c n apart w = c.and.ensures.grows.waits n (c.asks_for.ensures.adds.grows.waits n w)

pub returns-in_err-goes-clause-waits : goal.returns-in_err-goes-clause-waits
returns-in_err-goes-clause-waits c n apart w = c.and-2.ensures.grows.waits n (c.and.ensures.grows.waits n (c.asks_for.ensures.adds.grows.waits n w))

pub returns-in_err-loads-clause-waits : goal.returns-in_err-loads-clause-waits
returns-in_err-loads-clause-waits c n apart w = c.or.ensures.grows.waits n (c.and-2.ensures.grows.waits n (c.and.ensures.grows.waits n (c.asks_for.ensures.adds.grows.waits n w)))

pub returns-in_err-next-clause-waits : goal.returns-in_err-next-clause-waits
returns-in_err-next-clause-waits c n apart w = c.mux_beat.ensures.adds.grows.waits n (c.or.ensures.grows.waits n (c.and-2.ensures.grows.waits n (c.and.ensures.grows.waits n (c.asks_for.ensures.adds.grows.waits n w))))

pub returns-in_err-load_beat-clause-waits : goal.returns-in_err-load_beat-clause-waits
returns-in_err-load_beat-clause-waits c n apart w = c.load_beat.ensures.still_wait n apart (c.mux_beat.ensures.adds.grows.waits n (c.or.ensures.grows.waits n (c.and-2.ensures.grows.waits n (c.and.ensures.grows.waits n (c.asks_for.ensures.adds.grows.waits n w)))))

pub returns-clause-waits : goal.returns-clause-waits
returns-clause-waits c n apart w = c.load_beat.ensures.still_wait n apart (c.mux_beat.ensures.adds.grows.waits n (c.or.ensures.grows.waits n (c.and-2.ensures.grows.waits n (c.and.ensures.grows.waits n (c.asks_for.ensures.adds.grows.waits n w)))))

pub returns-clause-no_more_wait : goal.returns-clause-no_more_wait
returns-clause-no_more_wait c n w =
    let set = c.in_ok-load_beat.ensures.no_more_wait n w in
    (c.asks_for.ensures.adds.grows.no_more_wait n (c.and.ensures.grows.no_more_wait n (c.and-2.ensures.grows.no_more_wait n (c.or.ensures.grows.no_more_wait n (c.mux_beat.ensures.adds.grows.no_more_wait n set.0)))), set.1)

use Rattle.std.proofs.Common.{if◌then◌else◌, ap, ◌∙◌, arith}
use Rattle.netlist.specs.Runs.{cycle_of}
use Rattle.stage_core.specs.Groups.{shown_in}
use Rattle.net_parts.specs.Laws.{net_lasts, extends_twice, grows_once, grows_twice, grows_fewer, bit_fits, adds_grow}
use Rattle.stage_core.specs.Lasting.{beat_lasts, registers_last}
use Rattle.net_parts.specs.Bits.{high_and}
use Rattle.st_format.proofs.NarrowLemmas.{asks_idle}
use Rattle.stage_core.specs.Refusing.{handed_on}
use Rattle.st_format.proofs.narrow.NarrowStage.emit_backward.Goals as goal

pub and-requires-2-clause-a_is : goal.and-requires-2-clause-a_is
and-requires-2-clause-a_is c = (net_lasts _ _ _ _ (extends_twice _ _ _ c.not.ensures.extends c.and.ensures.extends) c.requires.kept.shown).is_net

pub and-requires-2-clause-b_is : goal.and-requires-2-clause-b_is
and-requires-2-clause-b_is c = (net_lasts _ _ _ _ (extends_twice _ _ _ c.not.ensures.extends c.and.ensures.extends) c.requires.ready).is_net

pub and-requires-clause-a_is : goal.and-requires-clause-a_is
and-requires-clause-a_is c = c.in_ok-none_held.ensures.net.0

pub and-requires-clause-b_is : goal.and-requires-clause-b_is
and-requires-clause-b_is c = c.not.ensures.extends.nets _ _ c.requires.ready.is_net

pub returns-in_err-none_held-clause-grows : goal.returns-in_err-none_held-clause-grows
returns-in_err-none_held-clause-grows c = grows_fewer _ _ _ _ (omega arith) (adds_grow _ _ _ (grows_once _ _ c.not.ensures.extends c.not.ensures.grows))

pub returns-in_err-up-clause-grows : goal.returns-in_err-up-clause-grows
returns-in_err-up-clause-grows c = grows_fewer _ _ _ _ (omega arith) (grows_twice _ _ _ _ _ (adds_grow _ _ _ (grows_once _ _ c.not.ensures.extends c.not.ensures.grows)) (adds_grow _ _ _ (grows_once _ _ c.and.ensures.extends c.and.ensures.grows)))

pub returns-in_err-goes-clause-grows : goal.returns-in_err-goes-clause-grows
returns-in_err-goes-clause-grows c = grows_fewer _ _ _ _ (omega arith) (grows_twice _ _ _ _ _ (grows_twice _ _ _ _ _ (adds_grow _ _ _ (grows_once _ _ c.not.ensures.extends c.not.ensures.grows)) (adds_grow _ _ _ (grows_once _ _ c.and.ensures.extends c.and.ensures.grows))) (adds_grow _ _ _ (grows_once _ _ c.and-2.ensures.extends c.and-2.ensures.grows)))

pub returns-in_err-none_held-clause-waits : goal.returns-in_err-none_held-clause-waits
returns-in_err-none_held-clause-waits c n apart w = c.not.ensures.grows.waits n w

pub returns-in_err-up-clause-waits : goal.returns-in_err-up-clause-waits
returns-in_err-up-clause-waits c n apart w = c.and.ensures.grows.waits n (c.not.ensures.grows.waits n w)

pub returns-in_err-goes-clause-waits : goal.returns-in_err-goes-clause-waits
returns-in_err-goes-clause-waits c n apart w = c.and-2.ensures.grows.waits n (c.and.ensures.grows.waits n (c.not.ensures.grows.waits n w))

pub returns-in_err-none_held-clause-full : goal.returns-in_err-none_held-clause-full
returns-in_err-none_held-clause-full c e = let full = c.not.ensures.full.0 (handed_on _ _ _ _ c.in_err-none_held.was c.from_residual.ensures.1 e) in omega (arith, full)

pub returns-in_err-up-clause-full : goal.returns-in_err-up-clause-full
returns-in_err-up-clause-full c e = let most0 = c.not.ensures.grows.most in let full = c.and.ensures.full.0 (handed_on _ _ _ _ c.in_err-up.was c.from_residual-in_err-up.ensures.1 e) in omega (arith, most0, full)

pub returns-in_err-goes-clause-full : goal.returns-in_err-goes-clause-full
returns-in_err-goes-clause-full c e = let most0 = c.not.ensures.grows.most in let most1 = c.and.ensures.grows.most in let full = c.and-2.ensures.full.0 (handed_on _ _ _ _ c.in_err-goes.was c.from_residual-in_err-goes.ensures.1 e) in omega (arith, most0, most1, full)

pub load_beat-requires-clause-registers : goal.load_beat-requires-clause-registers
load_beat-requires-clause-registers c = beat_lasts _ _ _ (extends_twice _ _ _ c.not.ensures.extends (extends_twice _ _ _ c.and.ensures.extends c.and-2.ensures.extends)) c.requires.kept.held

pub load_beat-requires-clause-wait : goal.load_beat-requires-clause-wait
load_beat-requires-clause-wait c = registers_last _ _ _ _ (λ n o w. c.and-2.ensures.grows.waits n (c.and.ensures.grows.waits n (c.not.ensures.grows.waits n w))) c.requires.kept.registers

pub load_beat-requires-clause-next : goal.load_beat-requires-clause-next
load_beat-requires-clause-next c = beat_lasts _ _ _ (extends_twice _ _ _ c.not.ensures.extends (extends_twice _ _ _ c.and.ensures.extends c.and-2.ensures.extends)) c.requires.kept.rest

pub returns-clause-net : goal.returns-clause-net
returns-clause-net c =
    let more = extends_twice _ _ _ c.and-2.ensures.extends c.load_beat.ensures.grows.extends in
    net_lasts _ _ _ _ more (record { is_net = c.in_ok-up.ensures.net.0; has_width = c.in_ok-up.ensures.net.1 ∙ (c.in_ok-none_held.ensures.net.1 ∙ c.requires.kept.held.valid.has_width) })

pub returns-clause-made : goal.returns-clause-made
returns-clause-made c =
    let more = extends_twice _ _ _ c.and-2.ensures.extends c.load_beat.ensures.grows.extends in
    record {
      asks = λ cycle v5. (
          let v2 = more.valuations cycle v5 in
          let v1 = c.and.ensures.extends.valuations cycle v2 in
          let v0 = c.not.ensures.extends.valuations cycle v1 in
          asks_idle _ (cycle.net c.args.kept.held.valid.number) (cycle.net c.args.ready.number) _ _ c.requires.kept.held.valid.has_width (bit_fits _ _ c.requires.kept.held.valid cycle v0) (bit_fits _ _ c.requires.ready cycle v0) (c.in_ok-none_held.ensures.value cycle v1).1 (c.in_ok-up.ensures.value cycle v2).1);
      moves = λ run cycles r n lt. (
          let v3 = c.load_beat.ensures.grows.extends.valuations (cycle_of run n) (r.valuations n (omega arith)) in
          let v0 = c.not.ensures.extends.valuations (cycle_of run n) (c.and.ensures.extends.valuations (cycle_of run n) (c.and-2.ensures.extends.valuations (cycle_of run n) v3)) in
          let goes = high_and (run.net n c.args.kept.shown.number) (run.net n c.args.ready.number) (run.net n c.in_ok-goes.goes.number) (bit_fits _ _ c.requires.kept.shown (cycle_of run n) v0) (bit_fits _ _ c.requires.ready (cycle_of run n) v0) (c.in_ok-goes.ensures.value (cycle_of run n) v3).1 in
          c.in_ok-load_beat.ensures.value run cycles r n lt
          ∙ ap (λ t. if t then shown_in (cycle_of run n) c.args.kept.rest else shown_in (cycle_of run n) c.args.kept.held) goes);
    }

pub returns-clause-waits : goal.returns-clause-waits
returns-clause-waits c n apart w = c.load_beat.ensures.still_wait n apart (c.and-2.ensures.grows.waits n (c.and.ensures.grows.waits n (c.not.ensures.grows.waits n w)))

pub returns-in_err-load_beat-clause-waits : goal.returns-in_err-load_beat-clause-waits
returns-in_err-load_beat-clause-waits c n apart w = c.load_beat.ensures.still_wait n apart (c.and-2.ensures.grows.waits n (c.and.ensures.grows.waits n (c.not.ensures.grows.waits n w)))

pub returns-clause-no_more_wait : goal.returns-clause-no_more_wait
returns-clause-no_more_wait c n w =
    let set = c.in_ok-load_beat.ensures.no_more_wait n w in
    (c.not.ensures.grows.no_more_wait n (c.and.ensures.grows.no_more_wait n (c.and-2.ensures.grows.no_more_wait n set.0)), set.1)

pub returns-clause-grows : goal.returns-clause-grows
returns-clause-grows c = grows_fewer _ _ _ _ (omega arith) (grows_twice _ _ _ _ _ (grows_twice _ _ _ _ _ (grows_twice _ _ _ _ _ (adds_grow _ _ _ (grows_once _ _ c.not.ensures.extends c.not.ensures.grows)) (adds_grow _ _ _ (grows_once _ _ c.and.ensures.extends c.and.ensures.grows))) (adds_grow _ _ _ (grows_once _ _ c.and-2.ensures.extends c.and-2.ensures.grows))) c.load_beat.ensures.grows)

pub returns-in_err-load_beat-clause-grows : goal.returns-in_err-load_beat-clause-grows
returns-in_err-load_beat-clause-grows c = grows_fewer _ _ _ _ (omega arith) (grows_twice _ _ _ _ _ (grows_twice _ _ _ _ _ (grows_twice _ _ _ _ _ (adds_grow _ _ _ (grows_once _ _ c.not.ensures.extends c.not.ensures.grows)) (adds_grow _ _ _ (grows_once _ _ c.and.ensures.extends c.and.ensures.grows))) (adds_grow _ _ _ (grows_once _ _ c.and-2.ensures.extends c.and-2.ensures.grows))) c.load_beat.ensures.grows)

pub returns-in_err-load_beat-clause-full : goal.returns-in_err-load_beat-clause-full
returns-in_err-load_beat-clause-full c e = let most0 = c.not.ensures.grows.most in let most1 = c.and.ensures.grows.most in let most2 = c.and-2.ensures.grows.most in let full = c.load_beat.ensures.full (handed_on _ _ _ _ c.in_err-load_beat.was c.from_residual-in_err-load_beat.ensures.1 e) in omega (arith, most0, most1, most2, full)

pub returns-clause-full : goal.returns-clause-full
returns-clause-full c e = cc

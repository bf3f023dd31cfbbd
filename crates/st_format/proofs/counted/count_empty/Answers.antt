use Rattle.std.proofs.Common.{sym, subst, ap, arith}
use Rattle.stage_core.specs.Beats.{AreBeatNets}
use Rattle.stage_core.specs.Groups.{shown_in}
use Rattle.stage_core.specs.Lasting.{beat_lasts}
use Rattle.net_parts.specs.Laws.{extends_twice, bit_fits, adds_fewer, adds_twice, grows_once}
use Rattle.st_format.proofs.CountedLemmas.{counted_shown}
use Rattle.stage_core.specs.Refusing.{handed_on}
use Rattle.st_format.proofs.counted.count_empty.Goals as goal

pub returns-clause-beat : goal.returns-clause-beat
returns-clause-beat c =
    let more = (extends_twice _ _ _ c.fit_empty.ensures.adds.grows.extends (extends_twice _ _ _ c.constant.ensures.adds.grows.extends c.mux.ensures.extends)) in
    let base = subst (AreBeatNets c.mux.new.self) (sym c.copied.ensures) (beat_lasts _ _ _ more c.requires.from) in
    record { valid = base.valid; word = base.word; channel = base.channel; error = base.error; first = base.first; last = base.last; empty = c.in_ok-empty.ensures.net.0 }

pub returns-clause-value : goal.returns-clause-value
returns-clause-value c cycle v3 =
    let v2 = c.mux.ensures.extends.valuations cycle v3 in
    let v1 = c.constant.ensures.adds.grows.extends.valuations cycle v2 in
    let v0 = c.fit_empty.ensures.adds.grows.extends.valuations cycle v1 in
    counted_shown c.args.count (shown_in cycle c.copied.result) (shown_in cycle c.args.from.now) _ _ _ (ap (shown_in cycle) c.copied.ensures) (bit_fits _ _ c.requires.from.last cycle v0)
    (c.in_ok-own.ensures.value cycle v1) (c.in_ok-none.ensures.value cycle v2) (c.in_ok-empty.ensures.value cycle v3).1

pub returns-in_err-own-clause-adds : goal.returns-in_err-own-clause-adds
returns-in_err-own-clause-adds c = adds_fewer _ _ _ _ (omega arith) c.fit_empty.ensures.adds

pub returns-in_err-none-clause-adds : goal.returns-in_err-none-clause-adds
returns-in_err-none-clause-adds c = adds_fewer _ _ _ _ (omega arith) (adds_twice _ _ _ _ _ c.fit_empty.ensures.adds c.constant.ensures.adds)

pub returns-in_err-empty-clause-adds : goal.returns-in_err-empty-clause-adds
returns-in_err-empty-clause-adds c = adds_fewer _ _ _ _ (omega arith) (adds_twice _ _ _ _ _ (adds_twice _ _ _ _ _ c.fit_empty.ensures.adds c.constant.ensures.adds) (grows_once _ _ c.mux.ensures.extends c.mux.ensures.grows))

pub returns-clause-adds : goal.returns-clause-adds
returns-clause-adds c = adds_fewer _ _ _ _ (omega arith) (adds_twice _ _ _ _ _ (adds_twice _ _ _ _ _ c.fit_empty.ensures.adds c.constant.ensures.adds) (grows_once _ _ c.mux.ensures.extends c.mux.ensures.grows))

pub returns-in_err-own-clause-full : goal.returns-in_err-own-clause-full
returns-in_err-own-clause-full c e = let full = c.fit_empty.ensures.full (handed_on _ _ _ _ c.in_err-own.was c.from_residual.ensures.1 e) in omega (arith, full)

pub returns-in_err-none-clause-full : goal.returns-in_err-none-clause-full
returns-in_err-none-clause-full c e = let most0 = c.fit_empty.ensures.adds.most in let full = c.constant.ensures.full (handed_on _ _ _ _ c.in_err-none.was c.from_residual-in_err-none.ensures.1 e) in omega (arith, most0, full)

pub returns-in_err-empty-clause-full : goal.returns-in_err-empty-clause-full
returns-in_err-empty-clause-full c e = let most0 = c.fit_empty.ensures.adds.most in let most1 = c.constant.ensures.adds.most in let full = c.mux.ensures.full.0 (handed_on _ _ _ _ c.in_err-empty.was c.from_residual-in_err-empty.ensures.1 e) in omega (arith, most0, most1, full)

pub returns-clause-full : goal.returns-clause-full
returns-clause-full c e = cc

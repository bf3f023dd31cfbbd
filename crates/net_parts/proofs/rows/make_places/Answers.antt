use Rattle.std.proofs.Common.{◌+◌, List, length, sym, subst, arith, ◌∙◌}
use Rattle.net_parts.specs.declared.places.PlaceNets.{PlaceNets}
use Rattle.net_parts.specs.RowLaws.{AreMade, made_none, made_more, place_lasts, row_numbers}
use Rattle.net_parts.proofs.RowsGrown.{made_all, made_grows, made_full}
use Rattle.std.proofs.lemmas.Result.{IfOk-from_err}
use Rattle.net_parts.specs.Refusing.{handed_on}
use Rattle.net_parts.proofs.rows.make_places.Goals as goal

pub loop-place-init : goal.loop-place-init
loop-place-init g c =
    subst (λ (row : List (PlaceNets g.row.N)). AreMade c.args.builder.now c.args.builder.now c.args.like.now row 0) (sym c.new-places.ensures.items) (made_none c.args.builder.now c.args.like.now)

pub low_place-requires : goal.low_place-requires
low_place-requires g c = ((let few = c.requires.few in omega arith), (c.requires.few, place_lasts _ _ _ c.loop-place.invariant.grows.extends c.requires.like))

pub loop-place-preserved : goal.loop-place-preserved
loop-place-preserved g c =
    subst (λ (row : List (PlaceNets g.row.N)). AreMade c.args.builder.now c.low_place.new.builder c.args.like.now row (c.loop-place._place + 1)) (sym c.in_ok-push.ensures.items)
    (made_more c.args.builder.now c.loop-place.builder c.low_place.new.builder c.args.like.now c.in_ok-place.place c.loop-place.places.items c.loop-place._place c.loop-place.invariant
    c.low_place.ensures.grows c.low_place.ensures.still_wait c.in_ok-place.ensures.newly c.in_ok-place.ensures.place c.in_ok-place.ensures.count c.in_ok-place.ensures.starts)

pub returns-in_err-place-clause-still_wait : goal.returns-in_err-place-clause-still_wait
returns-in_err-place-clause-still_wait g c n w = c.low_place.ensures.still_wait n (c.loop-place.invariant.still_wait n w)

pub returns-in_err-push-clause-still_wait : goal.returns-in_err-push-clause-still_wait
returns-in_err-push-clause-still_wait g c n w = c.low_place.ensures.still_wait n (c.loop-place.invariant.still_wait n w)

pub returns-clause-row : goal.returns-clause-row
returns-clause-row g c = record { start = length c.args.builder.now.lines; is_row = c.loop-place.invariant.row }

pub returns-clause-made : goal.returns-clause-made
returns-clause-made g c n o =
    let at = row_numbers _ _ _ _ c.loop-place.invariant.row n o in
    let lines = c.loop-place.invariant.lines in
    (at.0, omega (arith, at.1, lines))

pub returns-clause-starts : goal.returns-clause-starts
returns-clause-starts g c = c.loop-place.invariant.starts

pub returns-clause-still_wait : goal.returns-clause-still_wait
returns-clause-still_wait g c = c.loop-place.invariant.still_wait

pub returns-clause-newly : goal.returns-clause-newly
returns-clause-newly g c = c.loop-place.invariant.newly

pub returns-in_err-place-clause-grows : goal.returns-in_err-place-clause-grows
returns-in_err-place-clause-grows g c = made_grows _ _ _ _ _ _ _ c.loop-place.invariant c.low_place.ensures.grows (omega arith)

pub returns-in_err-push-clause-grows : goal.returns-in_err-push-clause-grows
returns-in_err-push-clause-grows g c = made_grows _ _ _ _ _ _ _ c.loop-place.invariant c.low_place.ensures.grows (omega arith)

pub returns-clause-grows : goal.returns-clause-grows
returns-clause-grows g c = made_all _ _ _ _ _ _ c.loop-place.invariant (omega arith)

pub returns-in_err-place-clause-row : goal.returns-in_err-place-clause-row
returns-in_err-place-clause-row g c = IfOk-from_err _ _ c.from_residual.ensures.0

pub returns-in_err-place-clause-count : goal.returns-in_err-place-clause-count
returns-in_err-place-clause-count g c = IfOk-from_err _ _ c.from_residual.ensures.0

pub returns-in_err-place-clause-made : goal.returns-in_err-place-clause-made
returns-in_err-place-clause-made g c = IfOk-from_err _ _ c.from_residual.ensures.0

pub returns-in_err-place-clause-starts : goal.returns-in_err-place-clause-starts
returns-in_err-place-clause-starts g c = IfOk-from_err _ _ c.from_residual.ensures.0

pub returns-in_err-place-clause-newly : goal.returns-in_err-place-clause-newly
returns-in_err-place-clause-newly g c = IfOk-from_err _ _ c.from_residual.ensures.0

pub returns-in_err-push-clause-row : goal.returns-in_err-push-clause-row
returns-in_err-push-clause-row g c = IfOk-from_err _ _ c.from_residual-in_err-push.ensures.0

pub returns-in_err-push-clause-count : goal.returns-in_err-push-clause-count
returns-in_err-push-clause-count g c = IfOk-from_err _ _ c.from_residual-in_err-push.ensures.0

pub returns-in_err-push-clause-made : goal.returns-in_err-push-clause-made
returns-in_err-push-clause-made g c = IfOk-from_err _ _ c.from_residual-in_err-push.ensures.0

pub returns-in_err-push-clause-starts : goal.returns-in_err-push-clause-starts
returns-in_err-push-clause-starts g c = IfOk-from_err _ _ c.from_residual-in_err-push.ensures.0

pub returns-in_err-push-clause-newly : goal.returns-in_err-push-clause-newly
returns-in_err-push-clause-newly g c = IfOk-from_err _ _ c.from_residual-in_err-push.ensures.0

pub returns-in_err-place-clause-full : goal.returns-in_err-place-clause-full
returns-in_err-place-clause-full g c e =
    made_full _ _ _ _ _ _ c.loop-place.invariant (omega arith) (c.low_place.ensures.full (handed_on _ _ _ _ c.in_err-place.was c.from_residual.ensures.1 e))

pub returns-clause-count : goal.returns-clause-count
returns-clause-count g c = c.loop-place.invariant.count_is ∙ omega arith

pub returns-clause-full : goal.returns-clause-full
returns-clause-full g c e = cc

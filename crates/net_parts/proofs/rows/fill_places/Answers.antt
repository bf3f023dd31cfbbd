use Rattle.std.proofs.Common.{◌≡◌, ◌+◌, ◌<◌, List, length, take, subst, sym, arith}
use Rattle.std.proofs.lemmas.List.{take_all, take_more_set}
use Rattle.std.proofs.lemmas.Result.{IfOk-from_err}
use Rattle.net_parts.specs.declared.places.PlaceNets.{PlaceNets}
use Rattle.net_parts.specs.PlaceRows.{IsRow, row_end, InRow, StartsAllEmpty}
use Rattle.net_parts.specs.Growth.{WaitsBeside}
use Rattle.net_parts.specs.Refusing.{handed_on}
use Rattle.net_parts.specs.RowLaws.{AreMade, made_none, made_more, place_lasts, row_numbers}
use Rattle.net_parts.proofs.RowsGrown.{made_all, made_grows, made_full}
use Rattle.net_parts.proofs.rows.fill_places.Goals as goal

pub low_place-requires : goal.low_place-requires
low_place-requires g c = ((let few = c.requires.few in omega arith), (c.requires.few, place_lasts _ _ _ c.loop-place.invariant.grows.extends c.requires.like))

pub loop-place-preserved : goal.loop-place-preserved
loop-place-preserved g c =
    let below : c.loop-place.place-index < length c.loop-place.places = omega arith in
    subst (λ (row : List (PlaceNets g.row.N)). AreMade c.args.builder.now c.low_place.new.builder c.args.like.now row (c.loop-place.place-index + 1)) (sym (take_more_set c.loop-place.places c.loop-place.place-index c.in_ok-place.field-0 below))
    (made_more c.args.builder.now c.loop-place.builder c.low_place.new.builder c.args.like.now c.in_ok-place.field-0 (take c.loop-place.place-index c.loop-place.places) c.loop-place.place-index c.loop-place.invariant
    c.low_place.ensures.grows c.low_place.ensures.still_wait c.in_ok-place.ensures.newly c.in_ok-place.ensures.place c.in_ok-place.ensures.count c.in_ok-place.ensures.starts)

pub returns-clause-made : goal.returns-clause-made
returns-clause-made g c n o =
    let all : take c.loop-place.place-index c.loop-place.places ≡ c.loop-place.places = take_all c.loop-place.place-index c.loop-place.places (omega arith) in
    let row = subst (λ (places : List (PlaceNets g.row.N)). IsRow c.loop-place.builder c.args.like.now (length c.args.builder.now.lines) places) all c.loop-place.invariant.row in
    let at = row_numbers _ _ _ _ row n o in
    let lines : length c.loop-place.builder.lines ≡ row_end (length c.args.builder.now.lines) c.loop-place.places = subst (λ (places : List (PlaceNets g.row.N)). length c.loop-place.builder.lines ≡ row_end (length c.args.builder.now.lines) places) all c.loop-place.invariant.lines in
    (at.0, omega (arith, at.1, lines))

pub returns-in_err-place-clause-grows : goal.returns-in_err-place-clause-grows
returns-in_err-place-clause-grows g c = made_grows _ _ _ _ _ _ _ c.loop-place.invariant c.low_place.ensures.grows (omega arith)

pub returns-in_err-place-clause-still_wait : goal.returns-in_err-place-clause-still_wait
returns-in_err-place-clause-still_wait g c n w = c.low_place.ensures.still_wait n (c.loop-place.invariant.still_wait n w)

pub returns-clause-grows : goal.returns-clause-grows
returns-clause-grows g c = made_all _ _ _ _ _ _ c.loop-place.invariant (omega arith)

pub returns-clause-still_wait : goal.returns-clause-still_wait
returns-clause-still_wait g c = c.loop-place.invariant.still_wait

pub loop-place-init : goal.loop-place-init
loop-place-init g c = made_none c.args.builder.now c.args.like.now

pub returns-in_err-place-clause-row : goal.returns-in_err-place-clause-row
returns-in_err-place-clause-row g c = IfOk-from_err _ _ c.from_residual.ensures.0

pub returns-in_err-place-clause-made : goal.returns-in_err-place-clause-made
returns-in_err-place-clause-made g c = IfOk-from_err _ _ c.from_residual.ensures.0

pub returns-in_err-place-clause-starts : goal.returns-in_err-place-clause-starts
returns-in_err-place-clause-starts g c = IfOk-from_err _ _ c.from_residual.ensures.0

pub returns-in_err-place-clause-newly : goal.returns-in_err-place-clause-newly
returns-in_err-place-clause-newly g c = IfOk-from_err _ _ c.from_residual.ensures.0

pub returns-in_err-place-clause-full : goal.returns-in_err-place-clause-full
returns-in_err-place-clause-full g c e =
    made_full _ _ _ _ _ _ c.loop-place.invariant (omega arith) (c.low_place.ensures.full (handed_on _ _ _ _ c.in_err-place.was c.from_residual.ensures.1 e))

pub returns-clause-row : goal.returns-clause-row
returns-clause-row g c =
    let all : take c.loop-place.place-index c.loop-place.places ≡ c.loop-place.places = take_all c.loop-place.place-index c.loop-place.places (omega arith) in
    record { start = length c.args.builder.now.lines; is_row = subst (λ (places : List (PlaceNets g.row.N)). IsRow c.loop-place.builder c.args.like.now (length c.args.builder.now.lines) places) all c.loop-place.invariant.row }

pub returns-clause-starts : goal.returns-clause-starts
returns-clause-starts g c = subst (StartsAllEmpty c.loop-place.builder) (take_all c.loop-place.place-index c.loop-place.places (omega arith)) c.loop-place.invariant.starts

pub returns-clause-newly : goal.returns-clause-newly
returns-clause-newly g c =
    subst (λ (places : List (PlaceNets g.row.N)). WaitsBeside (InRow places) c.args.builder.now c.loop-place.builder) (take_all c.loop-place.place-index c.loop-place.places (omega arith)) c.loop-place.invariant.newly

pub returns-clause-full : goal.returns-clause-full
returns-clause-full g c e = cc

use Rattle.std.proofs.Common.{◌≡◌, Some, is_some, false, List, [], ◌∷◌, ◌++◌, get_or, take, sym, subst, ap}
use Rattle.std.specs.List.{AllZip}
use Rattle.std.proofs.lemmas.List.{take_more}
use Rattle.std.proofs.lemmas.Option.{slice_get_within}
use Rattle.memory_runs.specs.declared.sides.route.Route.{Route}
use Rattle.mm_route.specs.declared.back.BackNets.{BackNets}
use Rattle.mm_fabric.specs.Tells.{IsBackFor}
use Rattle.mm_fabric.proofs.Widening.{zip_push}
use Rattle.mm_fabric.proofs.Telling.{seat_at, same_part}
use Rattle.mm_fabric.proofs.tells.backs_for.Goals as goal

pub bounds-parts-route : goal.bounds-parts-route
bounds-parts-route c =
    let have = (seat_at c.args.host c.args.parts.now c.args.routes.now c.loop-route.route-index _ c.requires c.loop-route-test.true).1 in
    slice_get_within c.args.parts.now _ have.part have.at

pub unwrap-seat-requires : goal.unwrap-seat-requires
unwrap-seat-requires c =
    let found = seat_at c.args.host c.args.parts.now c.args.routes.now c.loop-route.route-index _ c.requires c.loop-route-test.true in
    let have = found.1 in
    let same = same_part c.args.parts.now _ have.part c.index-parts-route.result have.at c.index-parts-route.is in
    let leads = have.leads in
    let seats = c.as_slice.ensures in
    let gives = c.seat_of.ensures in
    let some : c.seat_of.result ≡ Some found.0 = cc in
    ap is_some some

pub loop-route-preserved : goal.loop-route-preserved
loop-route-preserved c =
    let k = c.loop-route.route-index in
    let routes = c.args.routes.now in
    let none : Route = record { agent = 0; base = 0; bits = 0; reads = false; writes = false } in
    let found = seat_at c.args.host c.args.parts.now routes k none c.requires c.loop-route-test.true in
    let have = found.1 in
    let same = same_part c.args.parts.now _ have.part c.index-parts-route.result have.at c.index-parts-route.is in
    let leads = have.leads in
    let seats = c.as_slice.ensures in
    let gives = c.seat_of.ensures in
    let some = c.unwrap-seat.ensures in
    let seat : c.unwrap-seat.result ≡ found.0 = cc in
    let last : IsBackFor c.args.host c.args.parts.now (get_or routes k none) c.unwrap-seat.result.told = record { seat = found.0; has = have; is = cc } in
    subst (λ (xs : List Route). AllZip (IsBackFor c.args.host c.args.parts.now) xs c.push.new.self.items) (sym (take_more routes k none c.loop-route-test.true))
    (subst (λ (ys : List BackNets). AllZip (IsBackFor c.args.host c.args.parts.now) (take k routes ++ get_or routes k none ∷ []) ys) (sym c.in_ok-push.ensures.items)
    (zip_push (IsBackFor c.args.host c.args.parts.now) (take k routes) c.loop-route.backs.items (get_or routes k none) c.unwrap-seat.result.told c.loop-route.invariant last))

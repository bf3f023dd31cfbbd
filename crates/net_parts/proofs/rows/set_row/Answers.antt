use Rattle.std.proofs.Common.{List, refl, sym, subst, arith}
use Rattle.std.proofs.lemmas.List.{nil_from_length}
use Rattle.net_parts.specs.declared.places.PlaceNets.{PlaceNets}
use Rattle.net_parts.specs.Laws.{net_lasts, extends_twice, extends_none, adds_grow, grows_twice}
use Rattle.net_parts.specs.PlaceRows.{RowMoves, InRow}
use Rattle.net_parts.specs.RowLaws.{AreSet, place_lasts, numbered_here, row_here, set_more, set_none}
use Rattle.net_parts.proofs.RowsGrown.{set_all, set_grows, set_full}
use Rattle.std.proofs.lemmas.Result.{IfOk-from_err}
use Rattle.net_parts.specs.Refusing.{handed_on}
use Rattle.net_parts.proofs.rows.set_row.Goals as goal

pub comes_behind-requires : goal.comes_behind-requires
comes_behind-requires g c =
    let h = subst (λ (rest : List (PlaceNets g.row.N)). AreSet c.args.builder.now c.loop-place.builder c.args.row.now rest c.args.here c.loop-place.into c.args.comes c.args.shift c.args.from.now) c.in-Some.ensures.cases.0 c.loop-place.invariant in (
      (let few = c.requires.few in omega arith),
      (h.in_row.is_row.0.nets_are.full, (net_lasts _ _ _ _ h.extends c.requires.comes, (net_lasts _ _ _ _ h.extends c.requires.end, λ cycle v. c.requires.low cycle (h.extends.valuations cycle v)))),
    )

pub set_place-requires : goal.set_place-requires
set_place-requires g c =
    let h = subst (λ (rest : List (PlaceNets g.row.N)). AreSet c.args.builder.now c.loop-place.builder c.args.row.now rest c.args.here c.loop-place.into c.args.comes c.args.shift c.args.from.now) c.in-Some.ensures.cases.0 c.loop-place.invariant in
    let place = h.in_row.is_row.0 in
    let more = c.comes_behind.ensures.adds.grows in
    let all = extends_twice _ _ _ h.extends more.extends in (
      (let few = c.requires.few in omega arith),
      (
        c.requires.few,
        (
          record { nets_are = place_lasts _ _ _ more.extends place.nets_are; widths = place.widths; numbers = numbered_here c.in-Some.place.now h.in_row.start place.numbers; wait = λ n o. more.waits n (place.wait n o) },
          (
            row_here _ _ _ _ more.extends (λ n o. more.waits n) (record { start = _; is_row = h.in_row.is_row.1 }),
            (net_lasts _ _ _ _ more.extends h.into_is, (c.in_ok-behind.ensures.net, (net_lasts _ _ _ _ all c.requires.shift, place_lasts _ _ _ all c.requires.from))),
          ),
        ),
      ),
    )

pub loop-place-preserved : goal.loop-place-preserved
loop-place-preserved g c =
    let h = subst (λ (rest : List (PlaceNets g.row.N)). AreSet c.args.builder.now c.loop-place.builder c.args.row.now rest c.args.here c.loop-place.into c.args.comes c.args.shift c.args.from.now) c.in-Some.ensures.cases.0 c.loop-place.invariant in
    set_more c.args.builder.now c.loop-place.builder c.comes_behind.new.builder c.set_place.new.builder c.args.row.now c.in-Some.others.now c.in-Some.place.now c.args.from.now c.args.here c.loop-place.into c.in_ok-behind.behind c.args.comes c.args.shift
    h c.comes_behind.ensures.adds c.set_place.ensures.grows c.in_ok-behind.ensures.net c.in_ok-behind.ensures.value c.in_ok-set_place.ensures.moves c.set_place.ensures.waits c.in_ok-set_place.ensures.no_more_wait

pub returns-clause-moves : goal.returns-clause-moves
returns-clause-moves g c =
    let h = c.loop-place.invariant in
    h.moves c.loop-place.builder (extends_none c.loop-place.builder)
    (subst (λ (rest : List (PlaceNets g.row.N)). RowMoves c.loop-place.builder rest c.loop-place.into c.args.comes c.args.shift c.args.from.now) (sym (nil_from_length c.loop-place.rest.now c.in_default.ensures.cases)) (λ run cycles r n lt. refl))

pub loop-place-init : goal.loop-place-init
loop-place-init g c = set_none c.args.builder.now c.args.row.now c.args.here c.args.comes c.args.shift c.args.from.now c.requires.row c.requires.here

pub returns-in_err-behind-clause-grows : goal.returns-in_err-behind-clause-grows
returns-in_err-behind-clause-grows g c = set_grows _ _ _ _ _ _ _ _ _ _ _ _ _ c.in-Some.ensures.cases.0 c.loop-place.invariant (adds_grow _ _ _ c.comes_behind.ensures.adds) (omega arith)

pub returns-in_err-behind-clause-waits : goal.returns-in_err-behind-clause-waits
returns-in_err-behind-clause-waits g c n out w = c.comes_behind.ensures.adds.grows.waits n (c.loop-place.invariant.waits n out w)

pub returns-in_err-set_place-clause-grows : goal.returns-in_err-set_place-clause-grows
returns-in_err-set_place-clause-grows g c = set_grows _ _ _ _ _ _ _ _ _ _ _ _ _ c.in-Some.ensures.cases.0 c.loop-place.invariant (grows_twice _ _ _ _ _ (adds_grow _ _ _ c.comes_behind.ensures.adds) c.set_place.ensures.grows) (omega arith)

pub returns-clause-grows : goal.returns-clause-grows
returns-clause-grows g c = set_all _ _ _ _ _ _ _ _ _ c.loop-place.invariant

pub returns-clause-waits : goal.returns-clause-waits
returns-clause-waits g c = c.loop-place.invariant.waits

pub returns-in_err-behind-clause-moves : goal.returns-in_err-behind-clause-moves
returns-in_err-behind-clause-moves g c = IfOk-from_err _ _ c.from_residual.ensures.0

pub returns-in_err-behind-clause-no_more_wait : goal.returns-in_err-behind-clause-no_more_wait
returns-in_err-behind-clause-no_more_wait g c = IfOk-from_err _ _ c.from_residual.ensures.0

pub returns-in_err-behind-clause-full : goal.returns-in_err-behind-clause-full
returns-in_err-behind-clause-full g c e = set_full _ _ _ _ _ _ _ _ _ _ _ _ c.in-Some.ensures.cases.0 c.loop-place.invariant (omega arith) (c.comes_behind.ensures.full (handed_on _ _ _ _ c.in_err-behind.was c.from_residual.ensures.1 e))

pub returns-clause-no_more_wait : goal.returns-clause-no_more_wait
returns-clause-no_more_wait g c n w =
    let before = c.loop-place.invariant.no_more_wait n w in
    (before.0, λ o. subst (λ (rest : List (PlaceNets g.row.N)). InRow rest n) (nil_from_length c.loop-place.rest.now c.in_default.ensures.cases) (before.1 o))

pub returns-clause-full : goal.returns-clause-full
returns-clause-full g c e = cc

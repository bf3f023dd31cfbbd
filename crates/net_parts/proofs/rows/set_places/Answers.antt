use Rattle.std.proofs.Common.{◌+◌, List, refl, sym, subst, ap, ◌∙◌, arith}
use Rattle.netlist.specs.Runs.{cycle_of}
use Rattle.std.proofs.lemmas.List.{nil_from_length}
use Rattle.net_parts.specs.declared.places.PlaceNets.{PlaceNets}
use Rattle.net_parts.specs.Groups.{values_of}
use Rattle.net_parts.specs.Growth.{WaitsWithout}
use Rattle.net_parts.specs.Laws.{net_lasts, extends_twice, on_ok, adds_grow, grows_fewer, grows_twice}
use Rattle.net_parts.specs.Places.{no_place}
use Rattle.net_parts.specs.PlaceRows.{IsRow, InRow, StepsRow, gives_item}
use Rattle.net_parts.specs.RowLaws.{place_lasts, row_here, row_steps}
use Rattle.net_parts.proofs.rows.set_places.Goals as goal

-- ---- no places

pub returns-in-None-clause-steps : goal.returns-in-None-clause-steps
returns-in-None-clause-steps g c =
    subst (λ (row : List (PlaceNets g.row.N)). StepsRow c.args.builder.now row c.args.from.now c.args.comes c.args.ready) (sym (nil_from_length c.args.row.now c.in-None.ensures.cases))
    (λ run cycles r n lt. record { end = no_place (values_of (cycle_of run n) c.args.from.now.item); empty = refl; is = refl })

pub returns-in-None-clause-no_more_wait : goal.returns-in-None-clause-no_more_wait
returns-in-None-clause-no_more_wait g c n w = (w, λ o. subst (λ (row : List (PlaceNets g.row.N)). InRow row n) (nil_from_length c.args.row.now c.in-None.ensures.cases) o)

-- ---- some places

pub gives_item-requires-clause-first : goal.gives_item-requires-clause-first
gives_item-requires-clause-first g c =
    let h = subst (λ (row : List (PlaceNets g.row.N)). IsRow c.args.builder.now c.args.from.now c.requires.row.start row) c.in-Some.ensures.cases.0 c.requires.row.is_row in
    h.0.nets_are.full

pub set_row-requires : goal.set_row-requires
set_row-requires g c =
    let later = c.level.ensures.adds.grows.extends in
    let more = extends_twice _ _ _ c.gives_item.ensures.adds.grows.extends later in
    let comes = net_lasts _ _ _ _ more c.requires.comes in (
      (let few = c.requires.few in omega arith),
      (
        c.requires.few,
        (
          row_here _ _ _ _ more (λ n o w. c.level.ensures.adds.grows.waits n (c.gives_item.ensures.adds.grows.waits n w)) c.requires.row,
          (comes, (comes, (net_lasts _ _ _ _ later c.in_ok-shift-in-Some.ensures.net, (place_lasts _ _ _ more c.requires.from, (c.in_ok-end-in-Some.ensures.net, c.in_ok-end-in-Some.ensures.value))))),
        ),
      ),
    )

pub returns-in_ok-end-in-Some-clause-waits : goal.returns-in_ok-end-in-Some-clause-waits
returns-in_ok-end-in-Some-clause-waits g c n apart w = c.set_row.ensures.waits n apart (c.level.ensures.adds.grows.waits n (c.gives_item.ensures.adds.grows.waits n w))

pub returns-in_ok-end-in-Some-clause-no_more_wait : goal.returns-in_ok-end-in-Some-clause-no_more_wait
returns-in_ok-end-in-Some-clause-no_more_wait g c =
    on_ok c.set_row.result _ (WaitsWithout (InRow c.args.row.now) c.args.builder.now c.set_row.new.builder)
    (λ out n w. (
    let set = out n w in
    (c.gives_item.ensures.adds.grows.no_more_wait n (c.level.ensures.adds.grows.no_more_wait n set.0), set.1)))
    c.set_row.ensures.no_more_wait

pub returns-in_ok-end-in-Some-clause-steps : goal.returns-in_ok-end-in-Some-clause-steps
returns-in_ok-end-in-Some-clause-steps g c =
    let from1 = extends_twice _ _ _ c.level.ensures.adds.grows.extends c.set_row.ensures.grows.extends in
    on_ok c.set_row.result _ (StepsRow c.set_row.new.builder c.args.row.now c.args.from.now c.args.comes c.args.ready)
    (λ moves run cycles r n lt.
    row_steps (cycle_of run n) (cycle_of run (n + 1)) c.args.from.now c.args.row.now c.args.ready c.args.comes c.in_ok-shift-in-Some.shift
    (c.in_ok-shift-in-Some.ensures.value (cycle_of run n) ((from1.runs run cycles r).valuations n (omega arith))
    ∙ sym (ap (λ (row : List (PlaceNets g.row.N)). gives_item (cycle_of run n) row c.args.from.now c.args.ready) c.in-Some.ensures.cases.0))
    (moves run cycles r n lt))
    c.set_row.ensures.moves

pub returns-in_err-shift-in-Some-clause-grows : goal.returns-in_err-shift-in-Some-clause-grows
returns-in_err-shift-in-Some-clause-grows g c = grows_fewer _ _ _ _ (omega arith) (adds_grow _ _ _ c.gives_item.ensures.adds)

pub returns-in_err-end-in-Some-clause-grows : goal.returns-in_err-end-in-Some-clause-grows
returns-in_err-end-in-Some-clause-grows g c = grows_fewer _ _ _ _ (omega arith) (grows_twice _ _ _ _ _ (adds_grow _ _ _ c.gives_item.ensures.adds) (adds_grow _ _ _ c.level.ensures.adds))

pub returns-in_ok-end-in-Some-clause-grows : goal.returns-in_ok-end-in-Some-clause-grows
returns-in_ok-end-in-Some-clause-grows g c = grows_fewer _ _ _ _ (omega arith) (grows_twice _ _ _ _ _ (grows_twice _ _ _ _ _ (adds_grow _ _ _ c.gives_item.ensures.adds) (adds_grow _ _ _ c.level.ensures.adds)) c.set_row.ensures.grows)

pub returns-in_err-shift-in-Some-clause-waits : goal.returns-in_err-shift-in-Some-clause-waits
returns-in_err-shift-in-Some-clause-waits g c n apart w = c.gives_item.ensures.adds.grows.waits n w

pub returns-in_err-end-in-Some-clause-waits : goal.returns-in_err-end-in-Some-clause-waits
returns-in_err-end-in-Some-clause-waits g c n apart w = c.level.ensures.adds.grows.waits n (c.gives_item.ensures.adds.grows.waits n w)

use Rattle.std.proofs.Common.{◌||◌, ◌==◌, not, if◌then◌else◌, List, sym, ap, ◌∙◌, arith}
use Rattle.netlist.specs.Runs.{cycle_of}
use Rattle.net_parts.specs.Bits.{chosen_high, of_chosen}
use Rattle.net_parts.specs.Growth.{WaitsWithout}
use Rattle.net_parts.specs.Groups.{values_of, InGroup}
use Rattle.net_parts.specs.Laws.{net_lasts, bit_fits, extends_twice, on_ok}
use Rattle.net_parts.specs.Places.{Place, taken_place}
use Rattle.net_parts.specs.PlaceRows.{nets_of, place_of, place_in, row_in, PlaceMoves}
use Rattle.net_parts.specs.RowLaws.{place_lasts, row_here}
use Rattle.net_parts.proofs.rows.set_place.Goals as goal

pub choose_behind-requires : goal.choose_behind-requires
choose_behind-requires g c =
    let more = c.choose.ensures.adds.grows in (
      (let few = c.requires.few in omega arith),
      (
        c.requires.few,
        (row_here _ _ _ _ more.extends (λ n o. more.waits n) c.requires.rest, (net_lasts _ _ _ _ more.extends c.requires.shift, (record { is_net = c.in_ok-comes.ensures.net.is_net; has_width = c.in_ok-comes.ensures.net.has_width ∙ c.requires.behind.has_width }, place_lasts _ _ _ more.extends c.requires.from))),
      ),
    )

pub load_place-requires : goal.load_place-requires
load_place-requires g c =
    let first = c.choose.ensures.adds.grows in
    let second = c.choose_behind.ensures.adds.grows in
    let third = c.has_room.ensures.adds.grows in
    let more = extends_twice _ _ _ first.extends (extends_twice _ _ _ second.extends third.extends) in (
      (let few = c.requires.few in omega arith),
      (
        c.requires.few,
        (
          place_lasts _ _ _ more c.requires.place.nets_are,
          (
            λ n o. third.waits n (second.waits n (first.waits n (c.requires.place.wait n o))),
            (c.requires.place.numbers, (c.in_ok-loads.ensures.net, (place_lasts _ _ _ third.extends c.in_ok-next.ensures.place, c.in_ok-next.ensures.widths ∙ sym c.requires.place.widths))),
          ),
        ),
      ),
    )

pub returns-clause-moves : goal.returns-clause-moves
returns-clause-moves g c =
    on_ok c.load_place.result _ (PlaceMoves c.load_place.new.builder c.args.place.now c.args.rest.now c.args.here c.args.behind c.args.shift c.args.from.now)
    (λ loads run cycles r n lt. (
    let cycle = cycle_of run n in
    let v3 = (c.load_place.ensures.grows.extends.runs run cycles r).valuations n (omega arith) in
    let v2 = c.has_room.ensures.adds.grows.extends.valuations cycle v3 in
    let v1 = c.choose_behind.ensures.adds.grows.extends.valuations cycle v2 in
    let v0 = c.choose.ensures.adds.grows.extends.valuations cycle v1 in
    let item = values_of cycle c.args.from.now.item in
    let row = row_in cycle c.args.rest.now in
    let place = place_in cycle c.args.place.now in
    let sh = run.net n c.args.shift.number == 1 in
    let comes = c.in_ok-comes.ensures.value cycle v1 ∙ chosen_high (run.net n c.args.shift.number) _ _ (bit_fits _ _ c.requires.shift cycle v0) in
    let here = ap (λ k. k == 1) comes ∙ of_chosen (λ k. k == 1) sh (run.net n c.args.behind.number) (run.net n c.args.here.number) in
    ap place_of (loads run cycles r n lt)
    ∙ of_chosen place_of (run.net n c.in_ok-loads.loads.number == 1) (values_of cycle (nets_of c.in_ok-next.next)) (values_of cycle (nets_of c.args.place.now))
    ∙ ap (λ t. if t then place_in cycle c.in_ok-next.next else place) (c.in_ok-loads.ensures.value cycle v3)
    ∙ ap (λ (x : Place (List _)). if not place.full || sh then x else place) (c.in_ok-next.ensures.value cycle v2)
    ∙ ap (λ t. if not place.full || sh then taken_place sh t item row else place) here))
    c.load_place.ensures.value

pub returns-clause-no_more_wait : goal.returns-clause-no_more_wait
returns-clause-no_more_wait g c =
    on_ok c.load_place.result _ (WaitsWithout (InGroup (nets_of c.args.place.now)) c.args.builder.now c.load_place.new.builder)
    (λ out n w. (
    let set = out n w in
    (c.choose.ensures.adds.grows.no_more_wait n (c.choose_behind.ensures.adds.grows.no_more_wait n (c.has_room.ensures.adds.grows.no_more_wait n set.0)), set.1)))
    c.load_place.ensures.no_more_wait

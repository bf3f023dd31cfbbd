use Rattle.std.proofs.Common.{◌≡◌, ◌==◌, if◌then◌else◌, List, sym, subst, ap, ◌∙◌, arith}
use Rattle.netlist.specs.Runs.{Always}
use Rattle.net_parts.specs.declared.places.PlaceNets.{PlaceNets}
use Rattle.net_parts.specs.Nets.{IsBit}
use Rattle.net_parts.specs.Groups.{values_of, nets_last}
use Rattle.net_parts.specs.Laws.{net_lasts, bit_fits, if_ok}
use Rattle.net_parts.specs.Bits.{high_and, chosen_high, of_chosen}
use Rattle.net_parts.specs.Places.{taken_place, Place}
use Rattle.net_parts.specs.PlaceRows.{IsRow, nets_of, place_of, place_in, row_in}
use Rattle.net_parts.specs.RowLaws.{place_lasts}
use Rattle.net_parts.proofs.rows.choose_behind.Goals as goal

pub choose_place-requires : goal.choose_place-requires
choose_place-requires g c =
    let h = subst (λ (row : List (PlaceNets g.row.N)). IsRow c.args.builder.now c.args.from.now c.requires.rest.start row) c.in-Some.ensures.cases.0 c.requires.rest.is_row in
    let more = c.and.ensures.extends in
    let widths = h.0.widths in
    let comes = c.requires.comes.has_width in
    let from = c.requires.from.full.has_width in (
      (let few = c.requires.few in omega arith),
      (
        c.requires.few,
        (
          record { is_net = c.in_ok-there-in-Some.ensures.net.0; has_width = c.in_ok-there-in-Some.ensures.net.1 ∙ c.requires.shift.has_width },
          (place_lasts _ _ _ more h.0.nets_are, (record { full = net_lasts _ _ _ _ more c.requires.comes; item = nets_last _ _ _ more c.requires.from.item }, (cc))),
        ),
      ),
    )

pub returns-in_ok-there-in-Some-clause-value : goal.returns-in_ok-there-in-Some-clause-value
returns-in_ok-there-in-Some-clause-value g c =
    let h = subst (λ (row : List (PlaceNets g.row.N)). IsRow c.args.builder.now c.args.from.now c.requires.rest.start row) c.in-Some.ensures.cases.0 c.requires.rest.is_row in
    let there : IsBit c.and.new.self c.in_ok-there-in-Some.there = record { is_net = c.in_ok-there-in-Some.ensures.net.0; has_width = c.in_ok-there-in-Some.ensures.net.1 ∙ c.requires.shift.has_width } in
    if_ok c.choose_place.result _ (λ made. Always c.choose_place.new.builder (λ cycle. place_in cycle made ≡ taken_place (cycle.net c.args.shift.number == 1) (cycle.net c.args.comes.number == 1) (values_of cycle c.args.from.now.item) (row_in cycle c.args.rest.now)))
    (λ made chosen cycle v2. (
    let v1 = c.choose_place.ensures.adds.grows.extends.valuations cycle v2 in
    let v0 = c.and.ensures.extends.valuations cycle v1 in
    let coming : Place _ = record { full = cycle.net c.args.comes.number == 1; item = values_of cycle c.args.from.now.item } in
    ap place_of (chosen cycle v2 ∙ chosen_high (cycle.net c.in_ok-there-in-Some.there.number) _ _ (bit_fits _ _ there cycle v1))
    ∙ of_chosen place_of (cycle.net c.in_ok-there-in-Some.there.number == 1) (values_of cycle (nets_of c.in-Some.behind.now)) _
    ∙ ap (λ t. if t then place_in cycle c.in-Some.behind.now else coming)
    (high_and (cycle.net c.args.shift.number) (cycle.net c.in-Some.behind.now.full.number) (cycle.net c.in_ok-there-in-Some.there.number) (bit_fits _ _ c.requires.shift cycle v0) (bit_fits _ _ h.0.nets_are.full cycle v0) (c.in_ok-there-in-Some.ensures.value cycle v1).1)
    ∙ sym (ap (λ (row : List (PlaceNets g.row.N)). taken_place (cycle.net c.args.shift.number == 1) (cycle.net c.args.comes.number == 1) (values_of cycle c.args.from.now.item) (row_in cycle row)) c.in-Some.ensures.cases.0)))
    c.choose_place.ensures.chosen

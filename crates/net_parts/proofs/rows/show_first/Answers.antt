use Rattle.std.proofs.Common.{◌≡◌, List, sym, subst, ap, ◌∙◌}
use Rattle.netlist.specs.Runs.{Always}
use Rattle.net_parts.specs.declared.places.PlaceNets.{PlaceNets}
use Rattle.net_parts.specs.Bits.{chosen_high}
use Rattle.net_parts.specs.Groups.{values_of}
use Rattle.net_parts.specs.Laws.{bit_fits, if_ok}
use Rattle.net_parts.specs.PlaceRows.{IsRow, nets_of, shown_first}
use Rattle.net_parts.proofs.rows.show_first.Goals as goal

pub returns-in-Some-clause-value : goal.returns-in-Some-clause-value
returns-in-Some-clause-value g c =
    let h = subst (λ (row : List (PlaceNets g.row.N)). IsRow c.args.builder.now c.args.coming.now c.requires.row.start row) c.in-Some.ensures.cases.0 c.requires.row.is_row in
    if_ok c.choose_place.result _ (λ made. Always c.choose_place.new.builder (λ cycle. values_of cycle (nets_of made) ≡ shown_first cycle c.args.row.now c.args.coming.now))
    (λ made chosen cycle v. (
    chosen cycle v ∙ chosen_high (cycle.net c.in-Some.place.now.full.number) _ _ (bit_fits _ _ h.0.nets_are.full cycle (c.choose_place.ensures.adds.grows.extends.valuations cycle v))
    ∙ sym (ap (λ (row : List (PlaceNets g.row.N)). shown_first cycle row c.args.coming.now) c.in-Some.ensures.cases.0)))
    c.choose_place.ensures.chosen

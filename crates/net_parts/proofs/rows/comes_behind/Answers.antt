use Rattle.std.proofs.Common.{◌≡◌, ◌&&◌, ◌==◌, List, sym, ap, ◌∙◌}
use Rattle.netlist.specs.Runs.{Always}
use Rattle.net_parts.specs.declared.places.PlaceNets.{PlaceNets}
use Rattle.net_parts.specs.Laws.{bit_fits, if_ok}
use Rattle.net_parts.specs.Bits.{high_and}
use Rattle.net_parts.specs.Places.{comes_into}
use Rattle.net_parts.specs.PlaceRows.{row_in}
use Rattle.net_parts.proofs.rows.comes_behind.Goals as goal

pub returns-in-Some-clause-value : goal.returns-in-Some-clause-value
returns-in-Some-clause-value g c =
    if_ok c.and.result _ (λ behind. Always c.and.new.self (λ cycle. (cycle.net behind.number == 1) ≡ comes_into (row_in cycle c.args.rest.now) ((cycle.net c.args.comes.number == 1) && (cycle.net c.args.full.number == 1))))
    (λ behind value cycle v1. (
    let v0 = c.and.ensures.extends.valuations cycle v1 in
    high_and (cycle.net c.args.comes.number) (cycle.net c.args.full.number) (cycle.net behind.number) (bit_fits _ _ c.requires.comes cycle v0) (bit_fits _ _ c.requires.full cycle v0) (value cycle v1).1
    ∙ sym (ap (λ (row : List (PlaceNets g.row.N)). comes_into (row_in cycle row) ((cycle.net c.args.comes.number == 1) && (cycle.net c.args.full.number == 1))) c.in-Some.ensures.cases.0)))
    c.and.ensures.value

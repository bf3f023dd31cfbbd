use Rattle.std.proofs.Common.{◌<◌, List, [], length, get_or, Some, ap, sym, ◌∙◌, arith}
use Rattle.std.proofs.lemmas.Option.{slice_get-get_or}
use Rattle.address_map.specs.declared.host_map.MapEntry.{MapEntry}
use Rattle.map_text.proofs.entries_at.Goals as goal

pub entries-requires : goal.entries-requires
entries-requires c =
    let count = c.well_made.ensures.maps.placed.count in
    rw c.maps.ensures (omega arith)

pub returns : goal.returns
returns c =
    let maps = c.args.plan.now.maps in
    let count = c.well_made.ensures.maps.placed.count in
    let there : c.args.number < length maps = omega arith in
    slice_get-get_or maps c.args.number [] there ∙ ap Some (ap (λ (l : List (List MapEntry)). get_or l c.args.number []) (sym c.maps.ensures) ∙ sym c.entries.ensures)

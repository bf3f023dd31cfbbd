use Rattle.std.proofs.Common.{List, get_or, Some, ap, sym, ◌∙◌}
use Rattle.std.proofs.lemmas.Option.{slice_get_within, get_or_from_slice_get}
use Rattle.system_tables.specs.declared.tables.Connection.{Connection}
use Rattle.map_text.proofs.TextLemmas.{zeros}
use Rattle.map_text.proofs.connection_at.Goals as goal

pub bounds-connections-number : goal.bounds-connections-number
bounds-connections-number c = rw (c.connections.ensures) (slice_get_within c.args.plan.now.system.connections c.args.number c.requires.0 c.requires.1)

pub returns : goal.returns
returns c =
    let there = c.requires.1 in
    let same = ap (λ (l : List Connection). get_or l c.args.number zeros) c.connections.ensures ∙ get_or_from_slice_get c.args.plan.now.system.connections c.args.number c.requires.0 zeros there in
    let is = there ∙ ap Some (sym same) in
    let joins = c.well_made.ensures.system.connections c.args.number _ is in
    record { is = is; start = (joins.start_known, joins.start); end = (joins.end_known, joins.end) }

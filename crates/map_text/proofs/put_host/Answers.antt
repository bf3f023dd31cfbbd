use Rattle.std.proofs.Common.{subst}
use Rattle.system_tables.specs.declared.tables.EndId.{EndId}
use Rattle.system_tables.specs.Tables.{IsEnd}
use Rattle.map_text.proofs.put_host.Goals as goal

pub put_end-requires : goal.put_end-requires
put_end-requires c =
    let joined = c.requires.joined in
    let joins = c.well_made.ensures.system.connections joined.number joined.connection joined.is in
    (joins.start_known, subst (λ (end : EndId). IsEnd c.args.plan.now.system end joins.start_known) joined.there joins.start)

pub put_entries-requires : goal.put_entries-requires
put_entries-requires c = λ k entry at. (c.args.host, c.requires.entries k entry at)

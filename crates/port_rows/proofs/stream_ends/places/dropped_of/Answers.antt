use Rattle.std.proofs.Common.{Some, ap, sym, ◌∙◌}
use Rattle.system_tables.specs.declared.tables.EndId.{EndId}
use Rattle.port_tables.specs.declared.roles.PortRole.TheVariants.{Dropped}
use Rattle.port_tables.specs.PortMaps.{port_at}
use Rattle.port_rows.proofs.stream_ends.places.dropped_of.Goals as goal

pub dropped-requires : goal.dropped-requires
dropped-requires c =
    let at = c.requires.stream in
    let told = c.requires.told.dropped c.args.stream at.place at.connection at.place_is at.connection_is in
    (told.place, told.told)

pub returns : goal.returns
returns c =
    let at = c.requires.stream in
    let told = c.requires.told.dropped c.args.stream at.place at.connection at.place_is at.connection_is in
    ap (λ (end : EndId). port_at c.args.plan.now.system end Dropped) (sym at.end_is) ∙ told.named ∙ ap Some (sym (told.only c.dropped.result c.dropped.ensures))

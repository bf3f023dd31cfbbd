use Rattle.std.proofs.lemmas.Option.{slice_get-get_or}
use Rattle.map_text.proofs.put_entries.Goals as goal

pub put_entry-requires : goal.put_entry-requires
put_entry-requires c =
    let k = c.loop-entry.entry-index in
    c.requires k _ (slice_get-get_or c.args.entries.now k _ c.loop-entry-test.true)

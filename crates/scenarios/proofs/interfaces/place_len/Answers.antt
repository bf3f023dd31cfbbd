use Rattle.std.proofs.lemmas.Option.{slice_get-get_or}
use Rattle.scenarios.proofs.interfaces.place_len.Goals as goal

pub is_name-requires : goal.is_name-requires
is_name-requires c = c.requires c.ends.end-index _ (slice_get-get_or c.args.ends.now c.ends.end-index _ c.ends-test.true)

use Rattle.std.proofs.Common.{refl}
use Rattle.link_rules.proofs.CountLemmas.{indexed, place_of}
use Rattle.link_rules.proofs.plan_connections.number_in.Goals as goal

pub unwrap-requires : goal.unwrap-requires
unwrap-requires c = rw (c.place.ensures, place_of c.args.ends.now c.args.end (indexed c.args.ends.now c.requires.there.0 c.args.end c.requires.there.1)) refl

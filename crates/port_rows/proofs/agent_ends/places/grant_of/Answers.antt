use Rattle.std.proofs.Common.{Some, ap, sym, ◌∙◌}
use Rattle.port_rows.proofs.agent_ends.places.grant_of.Goals as goal

pub grant-requires : goal.grant-requires
grant-requires c =
    let told = c.requires.told.grants c.args.agent c.args.end c.requires.agent in
    (told.place, told.told)

pub returns : goal.returns
returns c =
    let told = c.requires.told.grants c.args.agent c.args.end c.requires.agent in
    told.named ∙ ap Some (sym (told.only c.grant.result c.grant.ensures))

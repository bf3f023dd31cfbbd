use Rattle.std.proofs.Common.{subst}
use Rattle.iface_roles.specs.Proper.{IsProper}
use Rattle.address_map.proofs.EndLemmas.{same_known}
use Rattle.address_map.proofs.footprint.footprint_at.Goals as goal

pub range-requires : goal.range-requires
range-requires c =
    let same = same_known c.args.system.now c.args.connection.start _ _ c.requires.start c.in-Host.ensures in
    c.proper_records_are_bounded.ensures.host _ (subst IsProper same c.requires.start_proper)

pub span-requires : goal.span-requires
span-requires c =
    let same = same_known c.args.system.now c.args.connection.end _ _ c.requires.end c.in-Agent.ensures in
    c.proper_records_are_bounded.ensures.agent _ (subst IsProper same c.requires.end_proper)

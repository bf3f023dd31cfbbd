use Rattle.std.proofs.Common.{List, get_or, slice_get, ap, sym, ◌∙◌}
use Rattle.std.proofs.lemmas.Option.{slice_get-get_or}
use Rattle.iface_roles.specs.declared.kinds.Side.TheVariants.{Start}
use Rattle.system_tables.specs.declared.tables.EndId.{EndId}
use Rattle.map_text.proofs.TextLemmas.{nowhere}
use Rattle.map_text.proofs.host_at.Goals as goal

pub returns : goal.returns
returns c =
    let hosts = c.hosts.result.now in
    let is = ap (λ (l : List EndId). slice_get l c.args.number) (sym c.hosts.ensures) ∙ slice_get-get_or hosts c.args.number nowhere (rw c.hosts.ensures c.requires) in
    record { is = is; joined = c.ends_are_joined.ensures c.args.plan.now.system Start c.args.number (get_or hosts c.args.number nowhere) is }

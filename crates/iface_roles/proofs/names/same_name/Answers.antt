use Rattle.iface_roles.proofs.NameLemmas.{test_is_same_name}
use Rattle.iface_roles.proofs.names.same_name.Goals as goal

pub returns : goal.returns
returns c = test_is_same_name c.eq_ignore_ascii_case.result c.args.a.now c.args.b.now c.eq_ignore_ascii_case.ensures.test

use Rattle.std.proofs.Common.{sym, ◌∙◌}
use Rattle.iface_roles.proofs.FitLemmas.{FitsMm-from_rules, FitsStream-from_rules}
use Rattle.iface_roles.proofs.interface.Interface.record_by_kind.Goals as goal

pub host-requires : goal.host-requires
host-requires c = FitsMm-from_rules c.args.self.now (sym c.kind.ensures ∙ c.in-Mm-Start.is-0) c.requires

pub agent-requires : goal.agent-requires
agent-requires c = FitsMm-from_rules c.args.self.now (sym c.kind.ensures ∙ c.in-Mm-End.is-0) c.requires

pub stream-requires : goal.stream-requires
stream-requires c = FitsStream-from_rules c.args.self.now (sym c.kind.ensures ∙ c.in-Stream-Start.is-0) c.requires

pub stream-requires-in-Stream-End : goal.stream-requires-in-Stream-End
stream-requires-in-Stream-End c = FitsStream-from_rules c.args.self.now (sym c.kind.ensures ∙ c.in-Stream-End.is-0) c.requires

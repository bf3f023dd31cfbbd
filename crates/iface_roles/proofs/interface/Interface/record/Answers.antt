use Rattle.iface_roles.proofs.interface.Interface.record.Goals as goal

pub returns-clause-proper : goal.returns-clause-proper
returns-clause-proper c = record {
  held = c.args.self.now;
  in_range = c.settings_are_in_range.ensures;
  keeps = c.requires;
  is = c.record_by_kind.ensures;
}

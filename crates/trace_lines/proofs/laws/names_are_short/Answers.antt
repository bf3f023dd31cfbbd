use Rattle.trace_lines.proofs.EndNames.{instance_short, interface_short}
use Rattle.trace_lines.proofs.laws.names_are_short.Goals as goal

pub returns-clause-instance : goal.returns-clause-instance
returns-clause-instance c = instance_short c.args.plan.now.system c.args.end c.requires.0 c.well_made.ensures.system c.requires.1

pub returns-clause-interface : goal.returns-clause-interface
returns-clause-interface c = interface_short c.args.plan.now.system c.args.end c.requires.0 c.well_made.ensures.system c.requires.1

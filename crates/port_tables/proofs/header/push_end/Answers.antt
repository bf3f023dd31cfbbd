use Rattle.port_tables.specs.EndFacts.{host_word, agent_word}
use Rattle.port_tables.proofs.header.push_end.Goals as goal

pub host_ports-requires : goal.host_ports-requires
host_ports-requires c = host_word c.args.plan.now.system c.args.end c.in-Host.host c.proper_records_are_bounded.ensures.host c.requires c.in-Host.ensures

pub agent_ports-requires : goal.agent_ports-requires
agent_ports-requires c = agent_word c.args.plan.now.system c.args.end c.in-Agent.agent c.proper_records_are_bounded.ensures.agent c.requires c.in-Agent.ensures

use Rattle.std.proofs.Common.{arith, rules}
use Rattle.drawn_scenarios.specs.Hosts.{host_statement, host_script}
use Rattle.drawn_scenarios.proofs.DrawLemmas.{repeat_more, repeat_done}
use Rattle.drawn_scenarios.proofs.hosts.host_script.Goals as goal

pub statements-preserved : goal.statements-preserved
statements-preserved c = repeat_more (host_statement c.args.links.now) 16 c.statements.counter _ _ _ _ _ _ (omega arith) c.in_ok-statement.ensures (search rules) c.statements.invariant

pub returns : goal.returns
unfolding host_script
returns c = repeat_done (host_statement c.args.links.now) 16 c.statements.counter _ _ _ (omega arith) c.statements.invariant

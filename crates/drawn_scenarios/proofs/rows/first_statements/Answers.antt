use Rattle.std.proofs.Common.{refl}
use Rattle.drawn_scenarios.specs.Draws.{draw, repeated, word_behind}
use Rattle.drawn_scenarios.specs.Hosts.{host_statement, idle, access, reach, transfer, write}
use Rattle.drawn_scenarios.proofs.rows.first_statements.Goals as goal

pub returns-clause-host : goal.returns-clause-host
unfolding draw repeated word_behind host_statement idle access reach transfer write
returns-clause-host c = refl

pub returns-clause-reads : goal.returns-clause-reads
unfolding draw repeated word_behind host_statement idle access reach transfer write
returns-clause-reads c = refl

pub returns-clause-reader : goal.returns-clause-reader
unfolding draw repeated word_behind host_statement idle access reach transfer write
returns-clause-reader c = refl

pub returns-clause-writes : goal.returns-clause-writes
unfolding draw repeated word_behind host_statement idle access reach transfer write
returns-clause-writes c = refl

use Rattle.memory_links.proofs.Beginning.{singles_begin, single_ends}
use Rattle.memory_links.proofs.begins.single_writes_begin.Goals as goal

pub returns-clause-begins : goal.returns-clause-begins
returns-clause-begins c = singles_begin

pub returns-clause-ends : goal.returns-clause-ends
returns-clause-ends c = single_ends

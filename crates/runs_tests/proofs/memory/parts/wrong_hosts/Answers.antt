use Rattle.runs_tests.proofs.memory.PartTwins.{read_twice_is_not, ends_early_is_not}
use Rattle.runs_tests.proofs.memory.parts.wrong_hosts.Goals as goal

pub returns-clause-read_twice : goal.returns-clause-read_twice
returns-clause-read_twice c = read_twice_is_not

pub returns-clause-ends_early : goal.returns-clause-ends_early
returns-clause-ends_early c = ends_early_is_not

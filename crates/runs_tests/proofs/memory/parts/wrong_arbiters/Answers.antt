use Rattle.runs_tests.proofs.memory.PartTwins.{inside_burst_is_not, given_to_both_is_not}
use Rattle.runs_tests.proofs.memory.parts.wrong_arbiters.Goals as goal

pub returns-clause-inside_burst : goal.returns-clause-inside_burst
returns-clause-inside_burst c = inside_burst_is_not

pub returns-clause-given_to_both : goal.returns-clause-given_to_both
returns-clause-given_to_both c = given_to_both_is_not

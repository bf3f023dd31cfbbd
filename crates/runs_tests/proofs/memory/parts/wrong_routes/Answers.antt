use Rattle.runs_tests.proofs.memory.PartTwins.{without_limiter_is_not, by_each_address_is_not}
use Rattle.runs_tests.proofs.memory.parts.wrong_routes.Goals as goal

pub returns-clause-without_limiter : goal.returns-clause-without_limiter
returns-clause-without_limiter c = without_limiter_is_not

pub returns-clause-by_each_address : goal.returns-clause-by_each_address
returns-clause-by_each_address c = by_each_address_is_not

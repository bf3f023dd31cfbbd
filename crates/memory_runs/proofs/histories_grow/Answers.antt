use Rattle.memory_runs.specs.Laws.{issued_prefix, taken_prefix}
use Rattle.memory_runs.specs.Shorter.{legal_before}
use Rattle.memory_runs.proofs.histories_grow.Goals as goal

pub returns-clause-issued : goal.returns-clause-issued
returns-clause-issued c = issued_prefix

pub returns-clause-taken : goal.returns-clause-taken
returns-clause-taken c = taken_prefix

pub returns-clause-legal : goal.returns-clause-legal
returns-clause-legal c = legal_before

use Rattle.stream_runs.proofs.same_beginnings.Goals as goal
use Rattle.stream_runs.proofs.SameBeginnings

pub returns-clause-legal : goal.returns-clause-legal
returns-clause-legal c side one two count same = SameBeginnings.same_legal one two count same side

pub returns-clause-proper : goal.returns-clause-proper
returns-clause-proper c side one two count same = SameBeginnings.same_proper one two count same side

pub returns-clause-turned : goal.returns-clause-turned
returns-clause-turned c = SameBeginnings.agree_turned

pub returns-clause-served : goal.returns-clause-served
returns-clause-served c = SameBeginnings.same_served

pub returns-clause-awake : goal.returns-clause-awake
returns-clause-awake c = SameBeginnings.same_awake

use Rattle.stream_runs.proofs.rows.standing_still.Goals as goal
use Rattle.stream_runs.proofs.StandingStill.{shut_out_idles, both_shut_idles, swallowed_idles, both_wait_idle, kept_out_idles}

pub returns-clause-shut_out : goal.returns-clause-shut_out
returns-clause-shut_out c = shut_out_idles

pub returns-clause-both_shut : goal.returns-clause-both_shut
returns-clause-both_shut c = both_shut_idles

pub returns-clause-swallowed : goal.returns-clause-swallowed
returns-clause-swallowed c = swallowed_idles

pub returns-clause-both_wait : goal.returns-clause-both_wait
returns-clause-both_wait c = both_wait_idle

pub returns-clause-kept_out : goal.returns-clause-kept_out
returns-clause-kept_out c = kept_out_idles

use Rattle.scenario_runs.proofs.transfers.Whole.{text_is_stated}
use Rattle.scenario_runs.proofs.transfers.laws.transfers_are_stated.Goals as goal

pub returns : goal.returns
returns c = λ system port cycles bytes transfers kept host bounded least most are read.
    text_is_stated system port cycles bytes transfers _ host kept (c.ends_are_known.ensures.hosts system kept 0 host.at.end host.at.end_is).is bounded least most are read

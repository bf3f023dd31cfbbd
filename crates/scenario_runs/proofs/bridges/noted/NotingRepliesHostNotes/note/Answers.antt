use Rattle.scenario_runs.proofs.bridges.NotedLemmas.{noted_more}
use Rattle.scenario_runs.proofs.bridges.noted.NotingRepliesHostNotes.note.Goals as goal

pub returns : goal.returns
returns c first beats words since =
    noted_more first c.args.self.now (record { replies = c.note.new.self }) beats words c.args.write_taken c.args.word c.note.ensures.transfers (c.note.ensures.noted beats words since.noted) since

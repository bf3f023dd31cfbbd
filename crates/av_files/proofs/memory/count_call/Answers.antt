use Rattle.std.proofs.Common.{rules}
use Rattle.av_files.proofs.MemoryLemmas.{rises_on, grows}
use Rattle.av_files.proofs.memory.count_call.Goals as goal

pub returns-clause-rose : goal.returns-clause-rose
returns-clause-rose c = rises_on c.is_to_fail.result _ _ _ c.is_to_fail.ensures c.saturating_add.ensures

pub returns-clause-grows : goal.returns-clause-grows
returns-clause-grows c = grows c.args.failing.now c.args.calls.now _ (search rules) c.saturating_add.ensures

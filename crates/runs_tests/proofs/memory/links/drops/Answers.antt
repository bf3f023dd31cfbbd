use Rattle.std.proofs.Common.{◌≡◌, arith, refl, ap}
use Rattle.memory_links.specs.Selects.{first_of}
use Rattle.runs_tests.specs.LinkRuns.{empty_reads, held_burst}
use Rattle.runs_tests.proofs.memory.HeldBurst.{burst_is_legal, burst_is_kept}
use Rattle.runs_tests.proofs.memory.Swallows.{drop_swallows, drop_gives}
use Rattle.runs_tests.proofs.memory.links.drops.Goals as goal

pub returns-clause-places : goal.returns-clause-places
returns-clause-places c = refl

pub returns-clause-joined : goal.returns-clause-joined
returns-clause-joined c = refl

pub returns-clause-kept : goal.returns-clause-kept
returns-clause-kept c = refl

pub returns-clause-waits : goal.returns-clause-waits
returns-clause-waits c = refl

pub returns-clause-words : goal.returns-clause-words
returns-clause-words c = refl

pub returns-clause-loose : goal.returns-clause-loose
returns-clause-loose c = λ carries. (let joins = (carries.in_order 3 (omega arith)).joins in cc)

pub returns-clause-early : goal.returns-clause-early
returns-clause-early c = λ back. (let same : 0 ≡ 9 = ap first_of (back.bytes 3 (omega arith)).joins in absurd (omega (arith, same)))

pub returns-clause-mixed : goal.returns-clause-mixed
returns-clause-mixed c = λ carries. (let joins = (carries.in_order 4 (omega arith)).joins in cc)

pub returns-clause-swallows : goal.returns-clause-swallows
returns-clause-swallows c = drop_swallows (c.drop_runs.ensures empty_reads)

pub returns-clause-gives : goal.returns-clause-gives
returns-clause-gives c = drop_gives (c.drop_runs.ensures empty_reads)

pub returns-clause-legal : goal.returns-clause-legal
returns-clause-legal c = burst_is_legal

pub returns-clause-keeps : goal.returns-clause-keeps
returns-clause-keeps c = burst_is_kept (c.drop_runs.ensures held_burst)

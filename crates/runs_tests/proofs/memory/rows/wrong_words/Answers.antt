use Rattle.std.proofs.Common.{◌≡◌, arith, refl, ap}
use Rattle.memory_runs.specs.Views.Responses.{AreZero}
use Rattle.memory_links.specs.Selects.{first_of}
use Rattle.runs_tests.specs.WidthSystem.{width_system, swapped_run, unmoved_run}
use Rattle.runs_tests.proofs.memory.WidthKept.{swapped_legal, unmoved_legal}
use Rattle.runs_tests.proofs.memory.rows.wrong_words.Goals as goal

-- the first byte that host 0 is given
pub returns-clause-swapped : goal.returns-clause-swapped
returns-clause-swapped c = λ ports states plan machines rows.
    let safe = c.machines_with_links_are_awake.ensures.safe AreZero width_system swapped_run ports states 8 plan machines rows swapped_legal in
    let same : 0x33 ≡ 0x11 = ap first_of (safe.returned 0 (omega arith) 4 (omega arith) refl).bytes in
    absurd (omega (arith, same))

-- the first operation that agent 0 takes
pub returns-clause-unmoved : goal.returns-clause-unmoved
returns-clause-unmoved c = λ ports states plan machines rows.
    let safe = c.machines_with_links_are_awake.ensures.safe AreZero width_system unmoved_run ports states 8 plan machines rows unmoved_legal in
    let joins = ((safe.ordered 0 (omega arith)).in_order 1 1 (omega arith) (omega arith)).joins in
    cc

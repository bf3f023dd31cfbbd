use Rattle.memory_links.specs.Driven.{split_above, split_below, split_state, drop_above, drop_below, drop_state}
use Rattle.runs_tests.specs.LinkRuns.{empty_writes, empty_reads}
use Rattle.runs_tests.proofs.memory.Swallows.{reads_are_lost}
use Rattle.runs_tests.proofs.memory.awake.swallowing_links.Goals as goal

pub returns-clause-split : goal.returns-clause-split
returns-clause-split c = λ end. c.links_pass_while_still.ensures.split 16 (split_above empty_writes) (split_above empty_writes) (split_below empty_writes) (split_state empty_writes) (c.split_runs.ensures empty_writes) end (λ k low is. is)

pub returns-clause-split_swallows : goal.returns-clause-split_swallows
returns-clause-split_swallows c = c.splitters.ensures.swallows

pub returns-clause-drop : goal.returns-clause-drop
returns-clause-drop c = λ end. c.links_pass_while_still.ensures.drop 16 (drop_above empty_reads) (drop_above empty_reads) (drop_below empty_reads) (drop_state empty_reads) (c.drop_runs.ensures empty_reads) end
    (c.what_is_swallowed_stirs.ensures.above (drop_above empty_reads) (drop_above empty_reads) end (λ k low is. is))

pub returns-clause-drop_swallows : goal.returns-clause-drop_swallows
returns-clause-drop_swallows c = c.drops.ensures.swallows

pub returns-clause-lost : goal.returns-clause-lost
returns-clause-lost c = reads_are_lost

use Rattle.memory_waits.proofs.straight.WiredRows.{row_is_prompt, row_is_straight}
use Rattle.memory_waits.proofs.straight.rows.wired_rows_are_straight.Goals as goal

pub returns-clause-straight : goal.returns-clause-straight
returns-clause-straight c = λ ahead target top middle low down end first second third.
    row_is_straight target top middle low down end first second third ahead (c.wire_is_straight.ensures.straight ahead target top end)

pub returns-clause-prompt : goal.returns-clause-prompt
returns-clause-prompt c = λ few may_burst target top middle low down end first second third.
    row_is_prompt target top middle low down end first second third few may_burst (c.wire_is_straight.ensures.prompt few may_burst target top end)

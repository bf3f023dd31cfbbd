use Rattle.runs_tests.proofs.memory.JointRun.{joint_is_wired, joint_is_legal}
use Rattle.runs_tests.proofs.memory.lines_can_be_kept.Goals as goal

pub returns-clause-wired : goal.returns-clause-wired
returns-clause-wired c = joint_is_wired c.wire_is_a_row.ensures.row

pub returns-clause-legal : goal.returns-clause-legal
returns-clause-legal c = joint_is_legal

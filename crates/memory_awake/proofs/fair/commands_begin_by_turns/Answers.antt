use Rattle.memory_awake.specs.Theorem.{inside_of}
use Rattle.memory_awake.proofs.Building.{lines, holds}
use Rattle.memory_awake.proofs.FairAgent.{begins}
use Rattle.memory_awake.proofs.fair.commands_begin_by_turns.Goals as goal

pub returns : goal.returns
returns c = λ responses system run inside states ranks end agent built legal there.
    let parts = inside_of system inside in
    let held = holds responses system run inside states end built.plan built.rows in
    let wired = lines responses system run inside states end built.plan built.rows (c.machines_keep_their_lines.ensures responses system run inside states end built.plan built.machines) in
    let settled = c.machines_settle.ensures responses system run inside states end built.plan built.rows built.machines legal in
    begins system run parts agent end (c.agents_take_by_turns.ensures responses system run parts held end agent wired legal there) (built.rows.pipe agent there).same
    (λ k low. c.agent_machine_is_a_part.ensures.operations responses system run agent (inside.lower agent 0) (states.agent agent) end (built.plan.agents agent there) (settled.before_agent agent there) (legal.agents agent there) (built.machines.agent agent there) k low)
    (settled.after_arbiter agent there).legal legal.hosts ((c.machines_are_awake.ensures.safe responses system run inside states ranks end built legal).ordered agent there) (built.plan.joined agent) (settled.after_arbiter agent there).tags

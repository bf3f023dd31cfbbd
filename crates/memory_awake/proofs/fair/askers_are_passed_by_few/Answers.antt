use Rattle.memory_machines.specs.Turns.{seats_of}
use Rattle.memory_awake.proofs.FairFew.{passed_by_few}
use Rattle.memory_awake.proofs.fair.askers_are_passed_by_few.Goals as goal

pub returns : goal.returns
returns c = λ responses system run inside states ranks end agent host from size built legal there fit asks.
    let parts = c.machines_keep_their_records.ensures.parts responses system run inside states ranks end built legal in
    let arbiter = parts.arbiter agent there in
    passed_by_few system agent (λ h. inside.upper h agent 0) (inside.lower agent system.stages) end arbiter (c.turn_rule_is_fair.ensures (seats_of system agent) (λ h. inside.upper h agent 0) (inside.lower agent system.stages).port end
    (record { rule = arbiter.turns; tags = λ h k low asked. arbiter.own_tag h k low asked; shares = built.plan.shares agent there }))
    host from size fit asks

use Rattle.memory_machines.specs.Lines.{target_of}
use Rattle.memory_awake.specs.Fair.{may_burst_to}
use Rattle.memory_awake.proofs.Widened.{straight_behind_wire, steps_behind_wire, prompt_behind_wire}
use Rattle.memory_awake.proofs.fair.wires_lead_fairly.Goals as goal

pub returns : goal.returns
returns c = λ responses system run inside states ranks end agent host ahead built legal there here wired.
    let parts = c.machines_keep_their_records.ensures.parts responses system run inside states ranks end built legal in
    let top = inside.upper host agent (inside.links host agent) in
    let link = c.pass_is_a_link.ensures.straight 30 ahead (may_burst_to system host agent) (target_of system agent) top end in
    let legal_top = (parts.route host here).legal agent there in
    let owed = (parts.route host here).owed agent there in
    let down = inside.upper host agent 0 in
    record {
      straight = straight_behind_wire top down wired (target_of system agent) end top (λ _. ahead) (link.straight legal_top owed);
      step = λ same. steps_behind_wire top down wired (target_of system agent) end top ahead (c.pass_goes_in_step.ensures ahead (target_of system agent) top end);
      prompt = prompt_behind_wire top down wired (target_of system agent) end top 30 (may_burst_to system host agent) (link.prompt legal_top owed);
    }

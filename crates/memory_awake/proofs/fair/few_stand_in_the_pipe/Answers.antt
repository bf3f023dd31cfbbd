use Rattle.memory_runs.specs.Commands.{agent_accepts}
use Rattle.memory_awake.proofs.FairPipe.{few_below}
use Rattle.memory_awake.proofs.fair.few_stand_in_the_pipe.Goals as goal

pub returns : goal.returns
returns c = λ responses system run inside states ranks end agent from size built legal there fit.
    let parts = c.machines_keep_their_records.ensures.parts responses system run inside states ranks end built legal in
    few_below (λ i. (inside.lower agent i).port) (agent_accepts (system.agent agent) (run.at_agent agent)) system.stages end from size fit (λ i low. parts.stage agent i there low) (λ k low. parts.agent agent k there low)

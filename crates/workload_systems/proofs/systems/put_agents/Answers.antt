use Rattle.std.proofs.Common.{◌≡◌, ◌∙◌, ◌++◌, ap, map, ℕ, List, arith}
use Rattle.workload_systems.specs.Texts.{text_of}
use Rattle.workload_systems.specs.Systems.{below, agent_instance}
use Rattle.workload_systems.proofs.Writing.{none_yet, one_more}
use Rattle.workload_systems.proofs.systems.put_agents.Goals as goal

pub agents-init : goal.agents-init
agents-init c = none_yet _ (agent_instance c.args.number)

pub agents-preserved : goal.agents-preserved
agents-preserved c = one_more _ (agent_instance c.args.number) c.agents.j _ _ c.agents.invariant c.in_ok-put_agent.ensures

pub returns : goal.returns
returns c =
    let all : c.agents.j ≡ c.args.agents = omega arith in
    let P : ℕ → List ℕ = λ count. c.args.text.now ++ text_of (map (agent_instance c.args.number) (below count)) in
    c.agents.invariant ∙ ap P all

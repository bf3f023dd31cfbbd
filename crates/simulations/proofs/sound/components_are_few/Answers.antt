use Rattle.std.proofs.Common.{◌≡◌, length, ◌∙◌, arith}
use Rattle.link_rules.specs.Links.{streams_of}
use Rattle.simulations.proofs.Setting.{stream_count_is}
use Rattle.simulations.proofs.sound.components_are_few.Goals as goal

pub returns-clause-hosts : goal.returns-clause-hosts
returns-clause-hosts c = λ plan scenario netlist run k bench set all. let few = set.known.planned.few_hosts in let count = all.host_count in omega arith

pub returns-clause-agents : goal.returns-clause-agents
returns-clause-agents c = λ plan scenario netlist run k bench set all. let few = set.known.planned.few_agents in let count = all.agent_count in omega arith

pub returns-clause-streams : goal.returns-clause-streams
returns-clause-streams c = λ plan scenario netlist run k bench set all.
    let few = set.known.planned.few_streams in
    let count : length bench.streams ≡ length (streams_of plan.system) = all.stream_count ∙ stream_count_is plan.system (c.streams_are_numbered.ensures.numbers plan.system set.is_plan.system) in
    omega arith

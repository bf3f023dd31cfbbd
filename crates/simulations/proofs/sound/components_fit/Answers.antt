use Rattle.std.proofs.Common.{◌<◌, ap, ◌∙◌, arith}
use Rattle.netlist.specs.Netlists.{Netlist}
use Rattle.simulations.proofs.sound.components_fit.Goals as goal

pub returns-clause-hosts : goal.returns-clause-hosts
returns-clause-hosts c = λ plan scenario netlist run k bench sim set all same h host at.
    let sound = c.components_are_sound.ensures.hosts plan scenario netlist run k bench set all h host at in
    c.hosts_take_part.ensures.fit plan.system h host sim set.known (ap (λ (n : Netlist). n.ports) same ∙ set.is_interconnect.ports) sound.stands.of

pub returns-clause-agents : goal.returns-clause-agents
returns-clause-agents c = λ plan scenario netlist run k bench sim set all left same a agent at.
    let sound = c.components_are_sound.ensures.agents plan scenario netlist run k bench set all a agent at in
    let low : agent.stand_in.cycle < agent.stand_in.cycles = (let time = sound.stands.cycle in let end = sound.stands.cycles_are in omega arith) in
    c.agents_take_part.ensures.fit plan.system a agent sim set.known (ap (λ (n : Netlist). n.ports) same ∙ set.is_interconnect.ports) sound.stands.of sound.bounded low

pub returns-clause-streams : goal.returns-clause-streams
returns-clause-streams c = λ plan scenario netlist run k bench sim set all left same s stream at.
    let sound = c.components_are_sound.ensures.streams plan scenario netlist run k bench set all s stream at in
    let low : stream.cycle < 65536 = (let time = sound.stands.cycle in let few = set.is_scenario.few in omega arith) in
    c.streams_take_part.ensures.fit plan s sound.script stream sim set.is_plan set.known (ap (λ (n : Netlist). n.ports) same ∙ set.is_interconnect.ports) sound.stands.of low

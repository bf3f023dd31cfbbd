use Rattle.std.proofs.Common.{◌≤◌, length, ap, sym, ◌∙◌, List, arith, rules}
use Rattle.iface_roles.specs.declared.records.Finished.{Finished}
use Rattle.system_tables.specs.declared.tables.EndId.{EndId}
use Rattle.address_map.specs.Maps.{agents_of}
use Rattle.drawn_scenarios.specs.Agents.{agent_script_as}
use Rattle.drawn_scenarios.specs.Drawn.{agent_script_at, agent_scripts}
use Rattle.drawn_scenarios.proofs.DrawLemmas.{each_first, each_more, each_done}
use Rattle.drawn_scenarios.proofs.agents.agent_scripts.Goals as goal

pub agents-init : goal.agents-init
unfolding agent_scripts
agents-init c = each_first (agent_script_at c.args.plan.now.system) _ _ _ (search rules)

pub agent-requires : goal.agent-requires
agent-requires c = omega (arith, ap (λ (ends : List EndId). length ends) c.agents-number-end.ensures, c.agents-test.true)

pub agents-preserved : goal.agents-preserved
agents-preserved c =
    let system = c.args.plan.now.system in
    let at = c.agent.ensures.at in
    let drawn = c.in_ok-script.ensures ∙ ap (λ (known : Finished). agent_script_as known c.agents.generator) (sym at.is) in
    each_more (agent_script_at system) (agents_of system) c.agents.number at.end c.agents.scripts c.add.new.self c.in_ok-script.script c.agents.generator c.agent_script.new.generator _ at.end_is drawn (search rules) c.agents.invariant

pub returns : goal.returns
returns c =
    let past : length (agents_of c.args.plan.now.system) ≤ c.agents.number = omega (arith, ap (λ (ends : List EndId). length ends) c.agents-number-end.ensures, c.agents-test.false) in
    each_done (agent_script_at c.args.plan.now.system) (agents_of c.args.plan.now.system) c.agents.number c.agents.scripts c.agents.generator _ past c.agents.invariant

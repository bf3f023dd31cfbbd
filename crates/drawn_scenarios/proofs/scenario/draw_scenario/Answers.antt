use Rattle.std.proofs.Common.{◌∙◌, sym, ap, List, ℕ, subst}
use Rattle.std.specs.Prelude.{slice_get}
use Rattle.link_rules.specs.declared.plan_connections.StreamConnection.{StreamConnection}
use Rattle.scenario_tables.specs.declared.scenario.Scenario.{Scenario}
use Rattle.scenario_tables.specs.declared.statements.HostStatement.{HostStatement}
use Rattle.scenario_tables.specs.declared.statements.Pattern.{Pattern}
use Rattle.scenario_tables.specs.declared.statements.SourceStatement.{SourceStatement}
use Rattle.scenario_tables.specs.Scenarios.{IsScenario}
use Rattle.drawn_scenarios.specs.Streams.{stream_scripts}
use Rattle.drawn_scenarios.specs.Drawn.{host_scripts}
use Rattle.drawn_scenarios.proofs.FitLemmas.{scenario_is}
use Rattle.drawn_scenarios.proofs.scenario.draw_scenario.Goals as goal

pub stream_scripts-requires : goal.stream_scripts-requires
stream_scripts-requires c = λ k link at. c.sources_are_drawable.ensures c.args.plan.now c.well_made.ensures k link (ap (λ (l : List StreamConnection). slice_get l k) (sym c.stream_connections.ensures) ∙ at)

pub returns-clause-drawn : goal.returns-clause-drawn
returns-clause-drawn c =
    let P : ℕ → List (List HostStatement) × ℕ = λ state. host_scripts c.args.plan.now.system state in
    let Q : List StreamConnection → (List (List SourceStatement) × List (List Pattern)) × ℕ = λ links. stream_scripts links c.agent_scripts.new.generator in
    scenario_is c.args.plan.now c.args.number c.args.lane c.args.cycles _ _ _ _ (c.in_ok-sources.sources, c.in_ok-sources.sinks) _ (c.in_ok-hosts.ensures ∙ ap P c.of_lane-generator.ensures) c.in_ok-agents.ensures
    (c.in_ok-sources.ensures ∙ ap Q c.stream_connections.ensures)

pub returns-clause-fits : goal.returns-clause-fits
returns-clause-fits c =
    let P : ℕ → List (List HostStatement) × ℕ = λ state. host_scripts c.args.plan.now.system state in
    let Q : List StreamConnection → (List (List SourceStatement) × List (List Pattern)) × ℕ = λ links. stream_scripts links c.agent_scripts.new.generator in
    let is = scenario_is c.args.plan.now c.args.number c.args.lane c.args.cycles _ _ _ _ (c.in_ok-sources.sources, c.in_ok-sources.sinks) _ (c.in_ok-hosts.ensures ∙ ap P c.of_lane-generator.ensures) c.in_ok-agents.ensures
    (c.in_ok-sources.ensures ∙ ap Q c.stream_connections.ensures) in
    let R : Scenario → Type 0 = IsScenario c.args.plan.now.system in
    subst R (sym is) (c.drawn_scenarios_fit.ensures c.args.plan.now c.well_made.ensures c.args.number c.args.lane c.args.cycles c.requires.some c.requires.few)

use Rattle.std.proofs.Common.{◌≡◌, ◌+◌, [], ◌∷◌, ◌++◌, rules}
use Rattle.scenario_tables.specs.declared.statements.AgentStatement.TheVariants.{Stall, Latency}
use Rattle.drawn_scenarios.specs.Agents.{stall_of, latency_of}
use Rattle.drawn_scenarios.proofs.DrawLemmas.{prepended}
use Rattle.drawn_scenarios.proofs.AgentLemmas.{stalled, not_stalled, late, not_late, script_is}
use Rattle.drawn_scenarios.proofs.agents.agent_script.Goals.{then-agent+in_ok-pattern+in_ok-push, else-agent, then-agent-2+in_ok-push-2, else-agent-2}
use Rattle.drawn_scenarios.proofs.agents.agent_script.Goals as goal

pub returns : goal.returns
returns c =
    let agent = c.args.agent.now in
    let first : (c.if-agent.script, c.if-agent.generator) ≡ stall_of agent c.args.generator.now =
    elim c.if-agent.branch [
      | then-agent+in_ok-pattern+in_ok-push w ↦ let drawn = stalled agent _ _ _ w.if-agent.true w.in_ok-pattern.ensures in let pushed : w.push.new.self ≡ Stall w.in_ok-pattern.pattern ∷ [] = search rules in cc
      | else-agent w ↦ let drawn = not_stalled agent c.args.generator.now w.if-agent.false in cc
    ] in
    let second : (c.if-agent-2.script, c.if-agent-2.generator) ≡ prepended c.if-agent.script (latency_of agent c.if-agent.generator) =
    elim c.if-agent-2.branch [
      | then-agent-2+in_ok-push-2 w ↦
          let drawn = late agent c.if-agent.script _ _ _ w.if-agent-2.true w.draw.ensures.drawn in
          let pushed : w.push-then-agent-2.new.self ≡ c.if-agent.script ++ Latency (1 + w.draw.result) ∷ [] = search rules in cc
      | else-agent-2 w ↦ let drawn = not_late agent c.if-agent.script c.if-agent.generator w.if-agent-2.false in cc
    ] in
    script_is agent _ _ _ _ first second

-- What is set of agents, step by step.
use Rattle.std.proofs.Common.{◌≡◌, ℕ, ◌+◌, true, false, List, [], ◌∷◌, ◌++◌, refl, sym, ap, ◌∙◌}
use Rattle.std.proofs.lemmas.List.{append-nil}
use Rattle.iface_roles.specs.declared.records.AgentPort.{AgentPort}
use Rattle.scenario_tables.specs.declared.statements.AgentStatement.{AgentStatement}
use Rattle.scenario_tables.specs.declared.statements.AgentStatement.TheVariants.{Stall, Latency}
use Rattle.scenario_tables.specs.declared.statements.Pattern.{Pattern}
use Rattle.drawn_scenarios.specs.Draws.{draw, pattern}
use Rattle.drawn_scenarios.specs.Agents.{stall, latency, stall_of, latency_of, agent_script}
use Rattle.drawn_scenarios.proofs.DrawLemmas.{prepended}

pub stalled : (agent : AgentPort) (from : ℕ) (drawn : Pattern) (to : ℕ) → agent.waitrequest ≡ true → (drawn, to) ≡ pattern from → (Stall drawn ∷ [], to) ≡ stall_of agent from
unfolding stall_of stall
stalled agent from drawn to set e = let P : Pattern × ℕ → List AgentStatement × ℕ = λ p. (Stall p.0 ∷ [], p.1) in rw set (ap P e)

pub not_stalled : (agent : AgentPort) (from : ℕ) → agent.waitrequest ≡ false → ◌≡◌ {A = List AgentStatement × ℕ} ([], from) (stall_of agent from)
unfolding stall_of
not_stalled agent from clear = rw clear refl

pub late : (agent : AgentPort) (there : List AgentStatement) (from more to : ℕ) → agent.readdatavalid ≡ true → (more, to) ≡ draw 8 from → (there ++ Latency (1 + more) ∷ [], to) ≡ prepended there (latency_of agent from)
unfolding latency_of latency
late agent there from more to set e = let P : ℕ × ℕ → List AgentStatement × ℕ = λ p. (there ++ Latency (1 + p.0) ∷ [], p.1) in rw set (ap P e)

pub not_late : (agent : AgentPort) (there : List AgentStatement) (from : ℕ) → agent.readdatavalid ≡ false → (there, from) ≡ prepended there (latency_of agent from)
unfolding latency_of
not_late agent there from clear = let P : List AgentStatement → List AgentStatement × ℕ = λ l. (l, from) in rw clear (ap P (sym (append-nil there)))

pub script_is : (agent : AgentPort) (from : ℕ) (there : List AgentStatement) (then_at : ℕ) (out : List AgentStatement × ℕ) → (there, then_at) ≡ stall_of agent from → out ≡ prepended there (latency_of agent then_at) → out ≡ agent_script agent from
unfolding agent_script
script_is agent from there then_at out e then_is = let P : List AgentStatement × ℕ → List AgentStatement × ℕ = λ p. prepended p.0 (latency_of agent p.1) in then_is ∙ ap P e

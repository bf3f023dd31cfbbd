-- What a view shows in the present cycle, said of the cycle's number and of the records of a plan.
use Rattle.std.proofs.Common.{◌≡◌, ℕ, List, Some, sym, subst}
use Rattle.histories.specs.History.{one_if}
use Rattle.iface_roles.specs.declared.records.HostPort.{HostPort}
use Rattle.iface_roles.specs.declared.records.AgentPort.{AgentPort}
use Rattle.iface_roles.specs.declared.records.StreamPort.{StreamPort}
use Rattle.memory_runs.specs.Views.{HostView, AgentView, levels_at}
use Rattle.memory_runs.specs.Legal.{Word as CodedWord}
use Rattle.stream_runs.specs.View.{EndView}
use Rattle.scenario_tables.specs.declared.statements.HostStatement.{HostStatement}
use Rattle.scenario_tables.specs.declared.statements.AgentStatement.{AgentStatement}
use Rattle.scenario_tables.specs.declared.statements.SourceStatement.{SourceStatement}
use Rattle.scenario_tables.specs.declared.statements.Pattern.{Pattern}
use Rattle.stand_ins.specs.Steps.{all_steps, shown}
use Rattle.stand_ins.specs.HostsStandIns.{left_before}
use Rattle.stand_ins.specs.Sources.{Shows, beat_shown}
use Rattle.stand_ins.specs.Sinks.{ready_in}
use Rattle.port_rows.specs.Agents.{AreShownBy}
use Rattle.simulated_runs.specs.Simulated.{AgentShows}
use Rattle.benches.specs.Outputs.{level_now}
use Rattle.cycle_sim.specs.Sims.{SimValue}
use Rattle.benches.specs.Agents.{BenchAgentValue, commanded, levels_with}
use Rattle.benches.specs.Agents as of_agents

pub some_same : {X : Type 0} (x y : X) → Some x ≡ Some y → x ≡ y
some_same x y e = cc

pub seen_at : (view : AgentView) (c : ℕ) (sim : SimValue) (agent : BenchAgentValue) (answer : CodedWord) → agent.stand_in.cycle ≡ c → levels_at view.signals c ≡ commanded agent sim
    → AreShownBy view c (levels_with agent answer) → view.grant c ≡ level_now sim 0 agent.ports.grant → of_agents.IsSeen view sim agent
seen_at view c sim agent answer now commands shows grants = record {
  signals = subst (λ (d : ℕ). levels_at view.signals d ≡ commanded agent sim) (sym now) commands;
  waitrequest = subst (λ (d : ℕ). view.waitrequest d ≡ one_if (levels_with agent answer).wait) (sym now) shows.waitrequest;
  grant = subst (λ (d : ℕ). view.grant d ≡ level_now sim 0 agent.ports.grant) (sym now) grants;
}

pub host_shows : (view : HostView) (c : ℕ) (own port : HostPort) (found script : List HostStatement) → own ≡ port → found ≡ script
    → levels_at view.signals c ≡ shown own (left_before (all_steps own found) view.waitrequest c) → levels_at view.signals c ≡ shown port (left_before (all_steps port script) view.waitrequest c)
host_shows view c own port found script same one is =
    subst (λ (p : HostPort). levels_at view.signals c ≡ shown p (left_before (all_steps p script) view.waitrequest c)) same
    (subst (λ (statements : List HostStatement). levels_at view.signals c ≡ shown own (left_before (all_steps own statements) view.waitrequest c)) one is)

pub agent_shows : (view : AgentView) (own port : AgentPort) (found script : List AgentStatement) (d c : ℕ) → own ≡ port → found ≡ script → d ≡ c → AgentShows own found view d → AgentShows port script view c
agent_shows view own port found script d c same one now is =
    subst (λ (p : AgentPort). AgentShows p script view c) same (subst (λ (statements : List AgentStatement). AgentShows own statements view c) one (subst (λ (k : ℕ). AgentShows own found view k) now is))

pub source_shows : (view : EndView) (own port : StreamPort) (found script : List SourceStatement) (d c : ℕ) → own ≡ port → found ≡ script → d ≡ c
    → Shows view d (beat_shown own found view d) → Shows view c (beat_shown port script view c)
source_shows view own port found script d c same one now is =
    subst (λ (p : StreamPort). Shows view c (beat_shown p script view c)) same
    (subst (λ (statements : List SourceStatement). Shows view c (beat_shown own statements view c)) one (subst (λ (k : ℕ). Shows view k (beat_shown own found view k)) now is))

pub sink_shows : (view : EndView) (found script : List Pattern) (d c : ℕ) → found ≡ script → d ≡ c → view.ready d ≡ one_if (ready_in found d) → view.ready c ≡ one_if (ready_in script c)
sink_shows view found script d c one now is =
    subst (λ (s : List Pattern). view.ready c ≡ one_if (ready_in s c)) one (subst (λ (k : ℕ). view.ready k ≡ one_if (ready_in found k)) now is)

use Rattle.std.proofs.Common.{◌≡◌, false, ap, subst, sym, ◌∙◌}
use Rattle.memory_runs.specs.Views.{Levels}
use Rattle.stand_ins.specs.Whole.{AgentStandInValue, accepts}
use Rattle.benches.specs.Agents.{BenchAgentValue, commanded}
use Rattle.benches.proofs.agents.Reading.{nothing_told}
use Rattle.benches.proofs.agents.agent.BenchAgentComponent.tell.Goals as goal

pub returns-then-not-accepts-clause-all : goal.returns-then-not-accepts-clause-all
returns-then-not-accepts-clause-all g c =
    let agent = c.args.self.now in
    let idle = subst (λ (levels : Levels). accepts c.self.inside.stand_in levels ≡ false) c.levels-levels.ensures.value (sym c.accepts.ensures ∙ c.if-not-accepts.true) in
    let same = ap (λ (one : BenchAgentValue). one.stand_in) c.self.view_is in
    nothing_told agent c.args.sim.now c.args.cycle (g.K.Sink.held c.args.sink.now) (subst (λ (stand_in : AgentStandInValue). accepts stand_in (commanded agent c.args.sim.now) ≡ false) same idle)

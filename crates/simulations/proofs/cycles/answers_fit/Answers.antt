use Rattle.std.proofs.Common.{ℕ, refl, sym, subst}
use Rattle.memory_runs.specs.Beginnings.{AgentsAgree}
use Rattle.cycle_sim.specs.Sims.{present}
use Rattle.interconnect.specs.Memory.{agent_in}
use Rattle.simulations.specs.Cycles.{run_with}
use Rattle.simulations.proofs.Present.{given_row, is_present}
use Rattle.simulations.proofs.Showing.{seen_at}
use Rattle.simulations.proofs.cycles.answers_fit.Goals as goal

pub returns : goal.returns
returns c = λ plan scenario run k bench words set shown. record {
  hosts = shown.fits.hosts;
  agents = λ a agent at.
      let netlist = bench.sim.netlist in
      let now = run_with run k bench in
      let sound = c.components_are_sound.ensures.agents plan scenario netlist run k bench set shown.under_way.components a agent at in
      let given = given_row plan.system netlist run k bench.sim bench.row set.is_module set.is_interconnect.ports shown.is_run shown.inputs in
      let memory = c.rows_are_shown.ensures.memory plan scenario netlist run now k k bench words bench.row bench.sim set shown.under_way.components shown.fits shown.stand given refl (is_present run k bench.sim) in
      let there = memory.agents a agent at in
      let view = agent_in plan netlist now a in
      let agree = subst (λ (d : ℕ). AgentsAgree (agent_in plan netlist run a) view d) (sym sound.stands.cycle) (c.earlier_cycles_stay.ensures.agents plan netlist run k (present bench.sim) a) in
      let stands = c.states_by_beginnings.ensures.agents sound.script agent.stand_in (agent_in plan netlist run a) view agree sound.stands.stands in
      let seen = seen_at view k bench.sim agent (words agent) sound.stands.cycle there.commanded_is there.shown there.granted in
      c.agents_show.ensures.fits_answered sound.script view bench.sim agent sound.bounded sound.fits sound.stands.bytes stands (λ silent d low. sound.unread silent now d) seen;
  sources = shown.fits.sources;
  sinks = shown.fits.sinks;
}

use Rattle.std.proofs.Common.{◌≡◌, ℕ, ◌<◌, length, refl, sym, ap, subst, ◌∙◌}
use Rattle.netlist.specs.Runs.{Cycle, SameState}
use Rattle.memory_runs.specs.Moment.{Moment, AgentSees}
use Rattle.memory_plans.specs.Shown.{moment_in, standing_still}
use Rattle.interconnect.specs.Memory.{module_run}
use Rattle.cycle_sim.specs.Sims.{present}
use Rattle.simulations.proofs.Beside.{has, inside}
use Rattle.simulations.proofs.cycles.commands_ignore_words.Goals as goal

pub returns : goal.returns
returns c = λ plan scenario netlist run k bench words others one two set all valuation_one valuation_two state shown_one shown_two a agent at.
    let moment : Cycle → Moment = λ cycle. moment_in (module_run plan netlist (standing_still cycle)) 0 in
    let own : SameState netlist (present one) (present one) = record { registers = λ n line is register. refl; words = λ m memory is address low. refl } in
    let below : a < length bench.agents = inside bench.agents a agent at in
    let same : (moment (present one)).to_agent a ≡ (moment (present two)).to_agent a =
    set.is_interconnect.memory.ignores_readdata (present one) (moment (present one)) (moment (present two))
    (present one, valuation_one, own, refl) (present two, valuation_two, state, refl)
    (record {
      hosts = λ h low. (
          let host = has bench.hosts h (subst (λ (n : ℕ). h < n) (sym all.host_count) low) in
          (shown_one.hosts h host.item host.is).signals ∙ sym (shown_two.hosts h host.item host.is).signals);
      agents = λ b low. (
          let other = has bench.agents b (subst (λ (n : ℕ). b < n) (sym all.agent_count) low) in
          let first = (shown_one.agents b other.item other.is).shown in
          let second = (shown_two.agents b other.item other.is).shown in
          (first.waitrequest ∙ sym second.waitrequest, first.readdatavalid ∙ sym second.readdatavalid));
    })
    a (subst (λ (n : ℕ). a < n) all.agent_count below) in
    sym (shown_one.agents a agent at).commanded_is ∙ ap (λ (sees : AgentSees). sees.levels) same ∙ (shown_two.agents a agent at).commanded_is

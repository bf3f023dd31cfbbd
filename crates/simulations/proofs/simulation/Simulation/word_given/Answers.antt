use Rattle.std.proofs.Common.{◌≡◌, true, refl, sym, ap₂, subst, ◌∙◌}
use Rattle.std.proofs.lemmas.Option.{same_Some}
use Rattle.cycle_sim.specs.Sims.{SimValue}
use Rattle.benches.specs.Hosts.{Fits, word_given}
use Rattle.simulations.specs.Value.{value_of}
use Rattle.simulations.proofs.simulation.Simulation.word_given.Goals as goal

pub word_given-requires-clause-stepped : goal.word_given-requires-clause-stepped
word_given-requires-clause-stepped c = subst (λ (sim : SimValue). sim.stepped ≡ true) (sym c.plain.ensures) c.requires.told.evaluated.stepped

pub word_given-requires-clause-fits : goal.word_given-requires-clause-fits
word_given-requires-clause-fits c =
    let r = c.requires.told in
    let bench = value_of c.args.self.now in
    subst (λ (sim : SimValue). Fits c.host.result.now sim) (sym c.plain.ensures)
    (c.components_fit.ensures.hosts r.plan r.scenario bench.sim.netlist r.run r.cycle bench bench.sim r.set r.evaluated.under_way.components refl c.args.number _ c.host.ensures)

pub returns : goal.returns
returns c = λ of at. c.word_given.ensures ∙ ap₂ word_given (same_Some _ _ (sym c.host.ensures ∙ at)) c.plain.ensures

use Rattle.std.proofs.Common.{◌≡◌, sym, subst}
use Rattle.std.specs.Bool.{OnTrue, OnFalse}
use Rattle.av_files.specs.Outside.{with_more}
use Rattle.cycle_sim.specs.Sims.{SimValue}
use Rattle.benches.specs.Writing.{text_of, HoldsPart}
use Rattle.simulations.specs.Cycles.{IsTold, lines_of}
use Rattle.simulations.specs.Value.{value_with}
use Rattle.simulations.proofs.simulation.Simulation.tell.Goals as goal

pub tell-requires : goal.tell-requires
tell-requires g c = subst (λ (sim : SimValue). IsTold (value_with sim c.args.self.now.bench)) (sym c.plain.ensures) c.requires

pub returns-clause-all : goal.returns-clause-all
returns-clause-all g c =
    subst (λ (sim : SimValue). OnTrue c.tell.result (g.K.Sink.held c.tell.new.sink ≡ with_more (g.K.Sink.held c.args.sink.now) (text_of (lines_of (value_with sim c.args.self.now.bench) c.args.cycle))))
    c.plain.ensures c.tell.ensures.all

pub returns-clause-part : goal.returns-clause-part
returns-clause-part g c =
    subst (λ (sim : SimValue). OnFalse c.tell.result (HoldsPart (g.K.Sink.held c.args.sink.now) (g.K.Sink.held c.tell.new.sink) (text_of (lines_of (value_with sim c.args.self.now.bench) c.args.cycle))))
    c.plain.ensures c.tell.ensures.part

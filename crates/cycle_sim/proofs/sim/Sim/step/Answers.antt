use Rattle.std.proofs.Common.{◌≡◌, ◌+◌, List, true, sym, subst, arith}
use Rattle.av_base.specs.Word.{Word}
use Rattle.netlist.specs.Netlists.{input_net}
use Rattle.netlist.specs.Runs.{IsValuation}
use Rattle.cycle_sim.specs.Sims.{SimValue, bits_at, cycle_with, given_to}
use Rattle.cycle_sim.specs.Standing.{StandsFor, IsClearedRun, with_cycle}
use Rattle.cycle_sim.proofs.Values.{refilled}
use Rattle.cycle_sim.proofs.Runs.{KeepsRegisters, step_state, stepped_stands, stepped_run}
use Rattle.cycle_sim.proofs.sim.Sim.step.Goals as goal

pub returns-clause-inputs : goal.returns-clause-inputs
returns-clause-inputs c k w i =
    let is = refilled c.self.inside.nets.len c.evaluate.new.nets c.self.inside.nets.items (omega (arith, c.evaluate.auto.nets, c.as_mut_slice.ensures.len)) in
    subst (λ (ns : List Word). bits_at ns (input_net c.self.inside.module.ports k) ≡ given_to c.self.inside.module c.args.inputs.now k) (sym is) (c.evaluate.ensures.inputs k w i)

pub returns-clause-only : goal.returns-clause-only
returns-clause-only c other v inputs state =
    let is = refilled c.self.inside.nets.len c.evaluate.new.nets c.self.inside.nets.items (omega (arith, c.evaluate.auto.nets, c.as_mut_slice.ensures.len)) in
    c.agree.ensures c.self.inside.module c.self.invariant.0.is_module.well_made other _ v
    (subst (λ (ns : List Word). IsValuation c.self.inside.module (cycle_with c.self.inside.module ns c.self.inside.cells.words.items)) (sym is) c.evaluate.ensures.valuation) inputs state

pub returns-clause-stands : goal.returns-clause-stands
returns-clause-stands c run cycles h =
    let is = refilled c.self.inside.nets.len c.evaluate.new.nets c.self.inside.nets.items (omega (arith, c.evaluate.auto.nets, c.as_mut_slice.ensures.len)) in
    let before = subst (λ (s : SimValue). StandsFor s run cycles) (sym c.self.view_is) h in
    subst (λ (ns : List Word). StandsFor (record { netlist = c.self.inside.module; nets = ns; words = c.self.inside.cells.words.items; stepped = true }) run cycles) (sym is)
    (stepped_stands c.self.inside.module c.self.inside.nets.items c.evaluate.new.nets c.self.inside.cells.words.items c.self.inside.stepped run cycles
    (step_state c.self.inside.module c.self.inside.nets.items c.evaluate.new.nets c.self.inside.cells.words.items
    (subst (λ (ns : List Word). KeepsRegisters c.self.inside.module ns c.evaluate.new.nets) c.as_mut_slice.ensures.value (record { same = c.evaluate.ensures.registers }))) before)

pub returns-clause-run : goal.returns-clause-run
returns-clause-run c run cycles h =
    let is = refilled c.self.inside.nets.len c.evaluate.new.nets c.self.inside.nets.items (omega (arith, c.evaluate.auto.nets, c.as_mut_slice.ensures.len)) in
    let before = subst (λ (s : SimValue). StandsFor s run cycles) (sym c.self.view_is) h in
    subst (λ (ns : List Word). IsClearedRun c.self.inside.module (with_cycle run cycles (cycle_with c.self.inside.module ns c.self.inside.cells.words.items)) (cycles + 1)) (sym is)
    (stepped_run c.self.inside.module c.self.inside.nets.items c.evaluate.new.nets c.self.inside.cells.words.items c.self.inside.stepped run cycles
    (step_state c.self.inside.module c.self.inside.nets.items c.evaluate.new.nets c.self.inside.cells.words.items
    (subst (λ (ns : List Word). KeepsRegisters c.self.inside.module ns c.evaluate.new.nets) c.as_mut_slice.ensures.value (record { same = c.evaluate.ensures.registers }))) c.evaluate.ensures.valuation before)

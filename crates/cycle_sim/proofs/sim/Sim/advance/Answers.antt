use Rattle.std.proofs.Common.{◌≡◌, ◌+◌, ◌++◌, List, length, take, drop, true, false, sym, subst, ◌∙◌, arith}
use Rattle.std.proofs.lemmas.Bool.{false≢true}
use Rattle.av_base.specs.Word.{Word}
use Rattle.netlist.specs.Runs.{Steps}
use Rattle.cycle_sim.specs.Sims.{ArePlaces, SimValue, cycle_with, present}
use Rattle.cycle_sim.specs.Readers.{StayStale}
use Rattle.cycle_sim.specs.Settled.{AreSettled}
use Rattle.cycle_sim.specs.Standing.{StandsFor, with_cycle}
use Rattle.cycle_sim.proofs.Values.{refilled}
use Rattle.cycle_sim.proofs.Settling.{WrittenIsStale, settled_written}
use Rattle.cycle_sim.proofs.Runs.{TakesNext, PutsWords, edge_steps, advanced_stands}
use Rattle.cycle_sim.proofs.sim.Sim.advance.Goals as goal

pub invariant_of-self : goal.invariant_of-self
invariant_of-self c =
    let nets = refilled c.self.inside.nets.len c.take_next.new.nets c.self.inside.nets.items (omega (arith, c.take_next.auto.nets, c.as_mut_slice-3.ensures.len)) in
    let marked = refilled c.self.inside.stale.len c.mark_written.new.stale c.self.inside.stale.items (omega (arith, c.mark_written.auto.stale, c.as_mut_slice.ensures.len)) in
    let stale = refilled c.self.inside.stale.len c.take_next.new.stale
    (take c.self.inside.stale.len (c.mark_written.new.stale ++ drop (length c.mark_written.new.stale) c.self.inside.stale.items)) (omega (arith, c.take_next.auto.stale, c.as_mut_slice-4.ensures.len)) in
    let changes = refilled c.self.inside.changes.len c.take_next.new.changes c.self.inside.changes.items (omega (arith, c.take_next.auto.changes, c.as_mut_slice-2.ensures.len)) in
    let written = settled_written c.self.inside.module c.self.invariant.0.is_module c.self.inside.readers.of_memories c.self.invariant.2.memories c.self.inside.nets.items c.self.inside.cells.words.items c.write.new.self.words.items c.self.invariant.0.nets
    c.self.inside.stale.items c.mark_written.new.stale
    (record { stay = subst (λ flags. StayStale flags c.mark_written.new.stale) c.as_mut_slice.ensures.value c.mark_written.ensures.stay; marked = λ m memory lt at. subst (λ (ns : List Word). WrittenIsStale c.self.inside.module ns c.self.inside.readers.of_memories c.mark_written.new.stale m memory) c.as_slice-2.ensures.value (c.mark_written.ensures.stale m memory at) })
    (subst (λ (ns : List Word). PutsWords c.self.inside.module ns c.self.inside.cells.words.items c.write.new.self.words.items) c.as_slice.ensures.value (record { written = c.write.ensures.written })) c.self.invariant.3 in
    let settled = c.take_next.ensures.settled c.write.new.self.words.items
    (subst (λ (ns : List Word). AreSettled c.self.inside.module ns c.write.new.self.words.items c.as_mut_slice-4.result.now 0) (sym c.as_mut_slice-3.ensures.value)
    (subst (λ flags. AreSettled c.self.inside.module c.self.inside.nets.items c.write.new.self.words.items flags 0) (sym (c.as_mut_slice-4.ensures.value ∙ marked)) written)) in
    rw (nets, stale, changes) (
      record { is_module = c.self.invariant.0.is_module; nets = c.take_next.ensures.nets; words = c.write.ensures.words; valuation = λ e. absurd (false≢true e) },
      subst (ArePlaces c.self.inside.module.memories) (sym c.write.ensures.same) c.self.invariant.1,
      c.self.invariant.2,
      settled,
      c.self.invariant.4,
      omega (arith, c.take_next.auto.changes, c.self.invariant.5),
    )

pub returns-clause-steps : goal.returns-clause-steps
returns-clause-steps c =
    let is = refilled c.self.inside.nets.len c.take_next.new.nets c.self.inside.nets.items (omega (arith, c.take_next.auto.nets, c.as_mut_slice-3.ensures.len)) in
    subst (λ (ns : List Word). Steps c.self.inside.module (present c.args.self.now) (cycle_with c.self.inside.module ns c.write.new.self.words.items)) (sym is)
    (subst (λ (s : SimValue). Steps c.self.inside.module (present s) (cycle_with c.self.inside.module c.take_next.new.nets c.write.new.self.words.items)) c.self.view_is
    (edge_steps c.self.inside.module c.self.inside.nets.items c.self.inside.cells.words.items c.take_next.new.nets c.write.new.self.words.items
    (subst (λ (ns : List Word). TakesNext c.self.inside.module ns c.take_next.new.nets) c.as_mut_slice-3.ensures.value (record { taken = c.take_next.ensures.taken }))
    (subst (λ (ns : List Word). PutsWords c.self.inside.module ns c.self.inside.cells.words.items c.write.new.self.words.items) c.as_slice.ensures.value (record { written = c.write.ensures.written }))))

pub returns-clause-stands : goal.returns-clause-stands
returns-clause-stands c run cycles h =
    let is = refilled c.self.inside.nets.len c.take_next.new.nets c.self.inside.nets.items (omega (arith, c.take_next.auto.nets, c.as_mut_slice-3.ensures.len)) in
    let before = subst (λ (s : SimValue). StandsFor s run cycles) (sym c.self.view_is) h in
    let stepped = subst (λ (s : SimValue). s.stepped ≡ true) (sym c.self.view_is) c.requires in
    let edge = edge_steps c.self.inside.module c.self.inside.nets.items c.self.inside.cells.words.items c.take_next.new.nets c.write.new.self.words.items
    (subst (λ (ns : List Word). TakesNext c.self.inside.module ns c.take_next.new.nets) c.as_mut_slice-3.ensures.value (record { taken = c.take_next.ensures.taken }))
    (subst (λ (ns : List Word). PutsWords c.self.inside.module ns c.self.inside.cells.words.items c.write.new.self.words.items) c.as_slice.ensures.value (record { written = c.write.ensures.written })) in
    subst (λ (ns : List Word). StandsFor (record { netlist = c.self.inside.module; nets = ns; words = c.write.new.self.words.items; stepped = false }) (with_cycle run cycles (present c.args.self.now)) (cycles + 1)) (sym is)
    (subst (λ (s : SimValue). StandsFor (record { netlist = c.self.inside.module; nets = c.take_next.new.nets; words = c.write.new.self.words.items; stepped = false }) (with_cycle run cycles (present s)) (cycles + 1)) c.self.view_is
    (advanced_stands c.self.inside.module c.self.inside.nets.items c.self.inside.cells.words.items c.take_next.new.nets c.write.new.self.words.items c.self.inside.stepped false run cycles
    (c.self.invariant.0.valuation stepped) edge before))

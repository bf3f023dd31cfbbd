use Rattle.std.proofs.Common.{◌≡◌, ℕ, ◌+◌, ◌<◌, ◌++◌, List, length, take, drop, true, false, sym, subst, ◌∙◌, arith}
use Rattle.std.proofs.lemmas.Bool.{false≢true}
use Rattle.av_base.specs.Word.{Word}
use Rattle.lane_sim.specs.LaneWords.{LaneWord}
use Rattle.cycle_sim.specs.Readers.{StayStale}
use Rattle.cycle_sim.specs.Settled.{AreSettled}
use Rattle.lane_sim.specs.LaneSims.{CellsValue, IsEdge, LanesValue, cells_at, lane_of, lane_words}
use Rattle.lane_sim.proofs.Values.{refilled}
use Rattle.lane_sim.proofs.LaneLists.{first}
use Rattle.lane_sim.proofs.Settling.{WrittenIsStale, settled_written}
use Rattle.lane_sim.proofs.Runs.{TakesNext, PutsWords, edge}
use Rattle.lane_sim.proofs.sim.Lanes.advance.Goals as goal

pub write_cells-requires-clause-module : goal.write_cells-requires-clause-module
write_cells-requires-clause-module c = (c.self.invariant.0.each 0 first).is_module

pub mark_written-requires-clause-module : goal.mark_written-requires-clause-module
mark_written-requires-clause-module c = (c.self.invariant.0.each 0 first).is_module

pub take_next-requires-clause-module : goal.take_next-requires-clause-module
take_next-requires-clause-module c = (c.self.invariant.0.each 0 first).is_module

pub invariant_of-self : goal.invariant_of-self
invariant_of-self c =
    let cells = refilled c.self.inside.cells.len c.write_cells.new.cells c.self.inside.cells.items (omega (arith, c.write_cells.auto.cells, c.as_mut_slice.ensures.len)) in
    let nets = refilled c.self.inside.nets.len c.take_next.new.nets c.self.inside.nets.items (omega (arith, c.take_next.auto.nets, c.as_mut_slice-4.ensures.len)) in
    let marked = refilled c.self.inside.stale.len c.mark_written.new.stale c.self.inside.stale.items (omega (arith, c.mark_written.auto.stale, c.as_mut_slice-2.ensures.len)) in
    let stale = refilled c.self.inside.stale.len c.take_next.new.stale
    (take c.self.inside.stale.len (c.mark_written.new.stale ++ drop (length c.mark_written.new.stale) c.self.inside.stale.items)) (omega (arith, c.take_next.auto.stale, c.as_mut_slice-5.ensures.len)) in
    let changes = refilled c.self.inside.changes.len c.take_next.new.changes c.self.inside.changes.items (omega (arith, c.take_next.auto.changes, c.as_mut_slice-3.ensures.len)) in
    let puts : (j : ℕ) → j < 8 → PutsWords c.self.inside.module (lane_words j c.self.inside.nets.items) (cells_at c.self.inside.cells.items j).words (cells_at c.write_cells.new.cells j).words = λ j lt.
    subst (λ (cs : List CellsValue). PutsWords c.self.inside.module (lane_words j c.self.inside.nets.items) (cells_at cs j).words (cells_at c.write_cells.new.cells j).words) c.as_mut_slice.ensures.value
    (subst (λ (ns : List LaneWord). PutsWords c.self.inside.module (lane_words j ns) (cells_at c.as_mut_slice.result.now j).words (cells_at c.write_cells.new.cells j).words) c.as_slice.ensures.value (record { written = c.write_cells.ensures.written j lt })) in
    let settled : (j : ℕ) → j < 8 → AreSettled c.self.inside.module (lane_words j c.take_next.new.nets) (cells_at c.write_cells.new.cells j).words c.take_next.new.stale 0 = λ j lt.
    c.take_next.ensures.settled j lt (cells_at c.write_cells.new.cells j).words
    (subst (λ (ns : List LaneWord). AreSettled c.self.inside.module (lane_words j ns) (cells_at c.write_cells.new.cells j).words c.as_mut_slice-5.result.now 0) (sym c.as_mut_slice-4.ensures.value)
    (subst (λ flags. AreSettled c.self.inside.module (lane_words j c.self.inside.nets.items) (cells_at c.write_cells.new.cells j).words flags 0) (sym (c.as_mut_slice-5.ensures.value ∙ marked))
    (settled_written c.self.inside.module (c.self.invariant.0.each 0 first).is_module c.self.inside.readers.of_memories c.self.invariant.1.memories (lane_words j c.self.inside.nets.items) (cells_at c.self.inside.cells.items j).words (cells_at c.write_cells.new.cells j).words
    (c.self.invariant.0.each j lt).nets c.self.inside.stale.items c.mark_written.new.stale
    (record {
      stay = subst (λ flags. StayStale flags c.mark_written.new.stale) c.as_mut_slice-2.ensures.value c.mark_written.ensures.stay;
      marked = λ m memory within at. subst (λ (ns : List LaneWord). WrittenIsStale c.self.inside.module (lane_words j ns) c.self.inside.readers.of_memories c.mark_written.new.stale m memory) c.as_slice-2.ensures.value (c.mark_written.ensures.stale j lt m memory at);
    })
    (puts j lt) (c.self.invariant.2 j lt)))) in
    rw (nets, stale, changes, cells) (
      record {
        count = c.write_cells.ensures.cells.count;
        each = λ j lt. record { is_module = (c.self.invariant.0.each 0 first).is_module; nets = c.take_next.ensures.nets j lt; words = (c.write_cells.ensures.cells.each j lt).words; valuation = λ e. absurd (false≢true e) };
        places = λ j lt. (c.write_cells.ensures.cells.each j lt).places;
      },
      c.self.invariant.1,
      settled,
      c.self.invariant.3,
      omega (arith, c.take_next.auto.changes, c.self.invariant.4),
    )

pub returns-clause-lanes : goal.returns-clause-lanes
returns-clause-lanes c j lt =
    let cells = refilled c.self.inside.cells.len c.write_cells.new.cells c.self.inside.cells.items (omega (arith, c.write_cells.auto.cells, c.as_mut_slice.ensures.len)) in
    let nets = refilled c.self.inside.nets.len c.take_next.new.nets c.self.inside.nets.items (omega (arith, c.take_next.auto.nets, c.as_mut_slice-4.ensures.len)) in
    let puts : (j : ℕ) → j < 8 → PutsWords c.self.inside.module (lane_words j c.self.inside.nets.items) (cells_at c.self.inside.cells.items j).words (cells_at c.write_cells.new.cells j).words = λ j lt.
    subst (λ (cs : List CellsValue). PutsWords c.self.inside.module (lane_words j c.self.inside.nets.items) (cells_at cs j).words (cells_at c.write_cells.new.cells j).words) c.as_mut_slice.ensures.value
    (subst (λ (ns : List LaneWord). PutsWords c.self.inside.module (lane_words j ns) (cells_at c.as_mut_slice.result.now j).words (cells_at c.write_cells.new.cells j).words) c.as_slice.ensures.value (record { written = c.write_cells.ensures.written j lt })) in
    let takes = subst (λ (ns : List LaneWord). TakesNext c.self.inside.module (lane_words j ns) (lane_words j c.take_next.new.nets)) c.as_mut_slice-4.ensures.value (record { taken = c.take_next.ensures.taken j lt }) in
    let stepped = subst (λ (v : LanesValue). v.stepped ≡ true) (sym c.self.view_is) c.requires in
    subst (λ (cs : List CellsValue). IsEdge (lane_of c.args.self.now j) (lane_of (record { netlist = c.self.inside.module; nets = take c.self.inside.nets.len (c.take_next.new.nets ++ drop (length c.take_next.new.nets) c.self.inside.nets.items); cells = cs; stepped = false }) j)) (sym cells)
    (subst (λ (ns : List LaneWord). IsEdge (lane_of c.args.self.now j) (lane_of (record { netlist = c.self.inside.module; nets = ns; cells = c.write_cells.new.cells; stepped = false }) j)) (sym nets)
    (subst (λ (v : LanesValue). IsEdge (lane_of v j) (lane_of (record { netlist = c.self.inside.module; nets = c.take_next.new.nets; cells = c.write_cells.new.cells; stepped = false }) j)) c.self.view_is
    (edge c.self.inside.module (lane_words j c.self.inside.nets.items) (cells_at c.self.inside.cells.items j).words (lane_words j c.take_next.new.nets) (cells_at c.write_cells.new.cells j).words c.self.inside.stepped false
    ((c.self.invariant.0.each j lt).valuation stepped) takes (puts j lt))))

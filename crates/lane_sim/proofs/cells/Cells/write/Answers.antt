use Rattle.std.proofs.Common.{◌≡◌, ℕ, ◌+◌, sym, subst, ap, ◌∙◌, arith}
use Rattle.std.specs.Prelude.{IfSome}
use Rattle.std.proofs.lemmas.Option.{slice_get_within}
use Rattle.av_base.specs.Word.{Word}
use Rattle.netlist.specs.Netlists.{IsValue, memory_of}
use Rattle.netlist.specs.Runs.{word_after}
use Rattle.cycle_sim.specs.Sims.{ArePlaces, bits_at, cycle_with, place_of}
use Rattle.lane_sim.specs.LaneWords.{value_at}
use Rattle.lane_sim.specs.LaneSims.{CellsValue, lane_words}
use Rattle.lane_sim.proofs.LaneLists.{lane_count, lane_read}
use Rattle.lane_sim.proofs.Access.{operand_fits, address_is, address_small, place_is, in_words, sum_small}
use Rattle.lane_sim.proofs.Lines.{within, operand, operand_value}
use Rattle.lane_sim.proofs.Words.{written_put, written_kept}
use Rattle.lane_sim.proofs.cells.Cells.write.Goals as goal
use Rattle.lane_sim.proofs.cells.Cells.write.Goals.{then-bits-eq1, else-bits-eq1}

pub bounds-nets-memory : goal.bounds-nets-memory
bounds-nets-memory c =
    let write = (c.requires.module.well_made.memories c.loop-m.m (memory_of c.memory-memory.result) c.memory-memory.ensures).write in
    let lt = within c.args.module.now.lines (lane_words c.args.lane c.args.nets.now) c.memory-memory.result.enable 1 c.requires.nets write.enable in
    omega (arith, lt, lane_count c.args.lane c.args.nets.now)

pub bounds-nets-memory-then-bits-eq1 : goal.bounds-nets-memory-then-bits-eq1
bounds-nets-memory-then-bits-eq1 c =
    let write = (c.requires.module.well_made.memories c.loop-m.m (memory_of c.memory-memory.result) c.memory-memory.ensures).write in
    let lt = within c.args.module.now.lines (lane_words c.args.lane c.args.nets.now) c.memory-memory.result.address c.memory-memory.result.address_bits c.requires.nets write.address in
    omega (arith, lt, lane_count c.args.lane c.args.nets.now)

pub overflow_cast-address : goal.overflow_cast-address
overflow_cast-address c =
    let write = (c.requires.module.well_made.memories c.loop-m.m (memory_of c.memory-memory.result) c.memory-memory.ensures).write in
    let small = address_small c.args.module.now c.requires.module c.loop-m.m (memory_of c.memory-memory.result) c.memory-memory.ensures (bits_at (lane_words c.args.lane c.args.nets.now) c.memory-memory.result.address) (operand_fits c.args.module.now.lines (lane_words c.args.lane c.args.nets.now) c.memory-memory.result.address c.memory-memory.result.address_bits c.requires.nets write.address) in
    let is : c.bits-address.result ≡ bits_at (lane_words c.args.lane c.args.nets.now) c.memory-memory.result.address = address_is c.args.module.now.lines (lane_words c.args.lane c.args.nets.now) c.memory-memory.result.address c.memory-memory.result.address_bits c.requires.nets write.address (value_at c.index-nets-memory-then-bits-eq1.result c.args.lane) (lane_read c.args.lane c.args.nets.now c.memory-memory.result.address _ c.index-nets-memory-then-bits-eq1.is) _ (c.bits-address.ensures.value ∙ ap (λ (x : Word). x.bits) c.lane-then-bits-eq1.ensures) in
    omega (arith, small, is)

pub bounds-nets-memory-then-bits-eq1-2 : goal.bounds-nets-memory-then-bits-eq1-2
bounds-nets-memory-then-bits-eq1-2 c =
    let write = (c.requires.module.well_made.memories c.loop-m.m (memory_of c.memory-memory.result) c.memory-memory.ensures).write in
    let lt = within c.args.module.now.lines (lane_words c.args.lane c.args.nets.now) c.memory-memory.result.word c.memory-memory.result.width c.requires.nets write.word in
    omega (arith, lt, lane_count c.args.lane c.args.nets.now)

pub overflow_add-index : goal.overflow_add-index
overflow_add-index c =
    let write = (c.requires.module.well_made.memories c.loop-m.m (memory_of c.memory-memory.result) c.memory-memory.ensures).write in
    let place : c.index.result.now ≡ place_of c.args.module.now.memories c.loop-m.m = place_is c.args.module.now.memories c.loop-m.self-inside.places.items c.loop-m.m (memory_of c.memory-memory.result) (subst (ArePlaces c.args.module.now.memories) (sym c.loop-m.invariant.same) (subst (λ (v : CellsValue). ArePlaces c.args.module.now.memories v.places) (sym c.self.view_is) c.requires.places)) c.memory-memory.ensures _ c.index.ensures in
    let address : c.bits-address.result ≡ bits_at (lane_words c.args.lane c.args.nets.now) c.memory-memory.result.address = address_is c.args.module.now.lines (lane_words c.args.lane c.args.nets.now) c.memory-memory.result.address c.memory-memory.result.address_bits c.requires.nets write.address (value_at c.index-nets-memory-then-bits-eq1.result c.args.lane) (lane_read c.args.lane c.args.nets.now c.memory-memory.result.address _ c.index-nets-memory-then-bits-eq1.is) _ (c.bits-address.ensures.value ∙ ap (λ (x : Word). x.bits) c.lane-then-bits-eq1.ensures) in
    let small = sum_small c.args.module.now c.requires.module c.loop-m.m (memory_of c.memory-memory.result) c.memory-memory.ensures (bits_at (lane_words c.args.lane c.args.nets.now) c.memory-memory.result.address) (operand_fits c.args.module.now.lines (lane_words c.args.lane c.args.nets.now) c.memory-memory.result.address c.memory-memory.result.address_bits c.requires.nets write.address) _ _ place address in
    omega (arith, small)

pub index_mut-requires : goal.index_mut-requires
index_mut-requires c =
    let write = (c.requires.module.well_made.memories c.loop-m.m (memory_of c.memory-memory.result) c.memory-memory.ensures).write in
    let place : c.index.result.now ≡ place_of c.args.module.now.memories c.loop-m.m = place_is c.args.module.now.memories c.loop-m.self-inside.places.items c.loop-m.m (memory_of c.memory-memory.result) (subst (ArePlaces c.args.module.now.memories) (sym c.loop-m.invariant.same) (subst (λ (v : CellsValue). ArePlaces c.args.module.now.memories v.places) (sym c.self.view_is) c.requires.places)) c.memory-memory.ensures _ c.index.ensures in
    let address : c.bits-address.result ≡ bits_at (lane_words c.args.lane c.args.nets.now) c.memory-memory.result.address = address_is c.args.module.now.lines (lane_words c.args.lane c.args.nets.now) c.memory-memory.result.address c.memory-memory.result.address_bits c.requires.nets write.address (value_at c.index-nets-memory-then-bits-eq1.result c.args.lane) (lane_read c.args.lane c.args.nets.now c.memory-memory.result.address _ c.index-nets-memory-then-bits-eq1.is) _ (c.bits-address.ensures.value ∙ ap (λ (x : Word). x.bits) c.lane-then-bits-eq1.ensures) in
    omega (
      arith,
      c.loop-m.self-inside.words.ok.0,
      in_words c.args.module.now.memories c.loop-m.self-inside.words.items c.loop-m.m (memory_of c.memory-memory.result) (bits_at (lane_words c.args.lane c.args.nets.now) c.memory-memory.result.address) c.loop-m.invariant.written.are_words c.memory-memory.ensures (operand_fits c.args.module.now.lines (lane_words c.args.lane c.args.nets.now) c.memory-memory.result.address c.memory-memory.result.address_bits c.requires.nets write.address)
          (c.index.result.now + c.bits-address.result) (omega (arith, place, address)),
    )

pub loop-m-preserved : goal.loop-m-preserved
loop-m-preserved c =
    let write = (c.requires.module.well_made.memories c.loop-m.m (memory_of c.memory-memory.result) c.memory-memory.ensures).write in
    let enable : c.bits.result ≡ bits_at (lane_words c.args.lane c.args.nets.now) c.memory-memory.result.enable = address_is c.args.module.now.lines (lane_words c.args.lane c.args.nets.now) c.memory-memory.result.enable 1 c.requires.nets write.enable (value_at c.index-nets-memory.result c.args.lane) (lane_read c.args.lane c.args.nets.now c.memory-memory.result.enable _ c.index-nets-memory.is) _
    (c.bits.ensures.value ∙ ap (λ (x : Word). x.bits) c.lane.ensures) in
    elim c.if-bits-eq1.branch [
      | then-bits-eq1 w ↦
          (let place : w.index.result.now ≡ place_of c.args.module.now.memories c.loop-m.m = place_is c.args.module.now.memories c.loop-m.self-inside.places.items c.loop-m.m (memory_of c.memory-memory.result) (subst (ArePlaces c.args.module.now.memories) (sym c.loop-m.invariant.same) (subst (λ (v : CellsValue). ArePlaces c.args.module.now.memories v.places) (sym c.self.view_is) c.requires.places)) c.memory-memory.ensures _ w.index.ensures in
          let address : w.bits-address.result ≡ bits_at (lane_words c.args.lane c.args.nets.now) c.memory-memory.result.address = address_is c.args.module.now.lines (lane_words c.args.lane c.args.nets.now) c.memory-memory.result.address c.memory-memory.result.address_bits c.requires.nets write.address (value_at w.index-nets-memory-then-bits-eq1.result c.args.lane) (lane_read c.args.lane c.args.nets.now c.memory-memory.result.address _ w.index-nets-memory-then-bits-eq1.is) _ (w.bits-address.ensures.value ∙ ap (λ (x : Word). x.bits) w.lane-then-bits-eq1.ensures) in
          let read = lane_read c.args.lane c.args.nets.now c.memory-memory.result.word w.index-nets-memory-then-bits-eq1-2.result w.index-nets-memory-then-bits-eq1-2.is in
          let word = operand c.args.module.now.lines (lane_words c.args.lane c.args.nets.now) c.memory-memory.result.word c.memory-memory.result.width c.requires.nets write.word (value_at w.index-nets-memory-then-bits-eq1-2.result c.args.lane) read in
          let is_value : IsValue w.lane-then-bits-eq1-2.result c.memory-memory.result.width = subst (λ (x : Word). IsValue x c.memory-memory.result.width) (sym w.lane-then-bits-eq1-2.ensures)
          (operand_value c.args.module.now.lines (lane_words c.args.lane c.args.nets.now) c.memory-memory.result.word c.memory-memory.result.width c.requires.nets write.word (value_at w.index-nets-memory-then-bits-eq1-2.result c.args.lane) read) in
          let put = written_put c.args.module.now (lane_words c.args.lane c.args.nets.now) c.self.inside.words.items c.loop-m.self-inside.words.items c.loop-m.m c.memory-memory.result (w.index.result.now + w.bits-address.result) w.lane-then-bits-eq1-2.result c.loop-m.invariant.written c.memory-memory.ensures
          (sym enable ∙ w.if-bits-eq1.true) (omega (arith, place, address)) (operand_fits c.args.module.now.lines (lane_words c.args.lane c.args.nets.now) c.memory-memory.result.address c.memory-memory.result.address_bits c.requires.nets write.address) is_value (ap (λ (x : Word). x.bits) (w.lane-then-bits-eq1-2.ensures ∙ word)) in
          rw w.self-inside-is (record { same = c.loop-m.invariant.same; written = put }))
      | else-bits-eq1 w ↦
          rw w.self-inside-is (record {
            same = c.loop-m.invariant.same;
            written = written_kept c.args.module.now (lane_words c.args.lane c.args.nets.now) c.self.inside.words.items c.loop-m.self-inside.words.items c.loop-m.m c.memory-memory.result c.loop-m.invariant.written c.memory-memory.ensures (λ e. w.if-bits-eq1.false (enable ∙ e));
          })
    ]

pub returns-clause-written : goal.returns-clause-written
returns-clause-written c m memory at address in_m =
    let lt = slice_get_within c.args.module.now.memories m memory at in
    subst (λ (v : CellsValue). IfSome memory.write (λ write. bits_at c.loop-m.self-inside.words.items (place_of c.args.module.now.memories m + address) ≡ word_after (cycle_with c.args.module.now (lane_words c.args.lane c.args.nets.now) v.words) write m address)) c.self.view_is
    (c.loop-m.invariant.written.done m memory (omega (arith, lt, c.loop-m-test.false, c.memory_count-m-end.ensures.count)) at address in_m)

use Rattle.std.proofs.Common.{◌≡◌, slice_get, Some, subst, ◌∙◌, arith}
use Rattle.std.proofs.lemmas.Option.{slice_get_within}
use Rattle.netlist.specs.Netlists.{memory_of}
use Rattle.cycle_sim.specs.Sims.{bits_at}
use Rattle.cycle_sim.specs.Readers.{AreStale}
use Rattle.cycle_sim.proofs.Lines.{within}
use Rattle.cycle_sim.proofs.Access.{address_is}
use Rattle.cycle_sim.proofs.Blocks.{stay_same}
use Rattle.cycle_sim.proofs.Settling.{written_stale_more}
use Rattle.cycle_sim.proofs.put.mark_written.Goals as goal
use Rattle.cycle_sim.proofs.put.mark_written.Goals.{then-bits-eq1, else-bits-eq1}

pub bounds-nets-memory : goal.bounds-nets-memory
bounds-nets-memory c =
    let write = (c.requires.module.well_made.memories c.loop-m.m (memory_of c.memory.result) c.memory.ensures).write in
    within c.args.module.now.lines c.args.nets.now c.memory.result.enable 1 c.requires.nets write.enable

pub mark-requires : goal.mark-requires
mark-requires c j block at =
    let lt = c.requires.readers.memories.inside c.loop-m.m block (record { place = j; is = subst (λ xs. slice_get xs j ≡ Some block) c.list.ensures at }) in
    omega (arith, lt, c.requires.stale, c.loop-m.invariant.stay.count)

pub loop-m-preserved : goal.loop-m-preserved
loop-m-preserved c =
    let write = (c.requires.module.well_made.memories c.loop-m.m (memory_of c.memory.result) c.memory.ensures).write in
    let enable : c.bits.result ≡ bits_at c.args.nets.now c.memory.result.enable = address_is c.args.module.now.lines c.args.nets.now c.memory.result.enable 1 c.requires.nets write.enable _ c.index-nets-memory.is _ c.bits.ensures.value in
    elim c.if-bits-eq1.branch [
      | then-bits-eq1 w ↦ rw w.stale-is (written_stale_more c.args.module.now c.args.nets.now c.args.readers.now.of_memories c.args.stale.now c.loop-m.stale w.mark.new.stale c.loop-m.m c.memory.result c.loop-m.invariant c.memory.ensures
          w.mark.ensures.stay (λ on. subst (AreStale w.mark.new.stale) w.list.ensures w.mark.ensures.stale))
      | else-bits-eq1 w ↦ rw w.stale-is (written_stale_more c.args.module.now c.args.nets.now c.args.readers.now.of_memories c.args.stale.now c.loop-m.stale c.loop-m.stale c.loop-m.m c.memory.result c.loop-m.invariant c.memory.ensures
          (stay_same c.loop-m.stale) (λ on. absurd (w.if-bits-eq1.false (enable ∙ on))))
    ]

pub returns-clause-stale : goal.returns-clause-stale
returns-clause-stale c m memory at =
    let lt = slice_get_within c.args.module.now.memories m memory at in
    c.loop-m.invariant.marked m memory (omega (arith, lt, c.loop-m-test.false, c.memory_count-m-end.ensures.count)) at

use Rattle.std.proofs.Common.{◌≡◌, slice_get, Some, subst, sym, ap, ◌∙◌, arith}
use Rattle.std.proofs.lemmas.Bool.{false≢true}
use Rattle.std.proofs.lemmas.Option.{slice_get_within}
use Rattle.av_base.specs.Word.{Word}
use Rattle.netlist.specs.Netlists.{memory_of}
use Rattle.cycle_sim.specs.Readers.{AreStale}
use Rattle.cycle_sim.specs.Sims.{bits_at}
use Rattle.lane_sim.specs.LaneSims.{lane_words}
use Rattle.lane_sim.proofs.LaneLists.{first, within_lanes, lane_width, lane_operand}
use Rattle.lane_sim.proofs.Blocks.{stay_same}
use Rattle.lane_sim.proofs.Settling.{written_stale_more}
use Rattle.lane_sim.proofs.put.mark_written.Goals as goal
use Rattle.lane_sim.proofs.put.mark_written.Goals.{then-is_set_somewhere, else-is_set_somewhere}

pub bounds-nets-memory : goal.bounds-nets-memory
bounds-nets-memory c =
    let write = (c.requires.module.well_made.memories c.loop-m.m (memory_of c.memory.result) c.memory.ensures).write in
    within_lanes c.args.module.now.lines c.args.nets.now c.memory.result.enable 1 c.requires.nets write.enable

pub is_set_somewhere-requires : goal.is_set_somewhere-requires
is_set_somewhere-requires c =
    let write = (c.requires.module.well_made.memories c.loop-m.m (memory_of c.memory.result) c.memory.ensures).write in
    lane_width c.args.module.now.lines c.args.nets.now c.memory.result.enable 1 c.requires.nets write.enable _ c.index-nets-memory.is

pub mark-requires : goal.mark-requires
mark-requires c j block at =
    let lt = c.requires.readers.memories.inside c.loop-m.m block (record { place = j; is = subst (λ xs. slice_get xs j ≡ Some block) c.list.ensures at }) in
    omega (arith, lt, c.requires.stale, (c.loop-m.invariant 0 first).stay.count)

pub loop-m-preserved : goal.loop-m-preserved
loop-m-preserved c j lt =
    let write = (c.requires.module.well_made.memories c.loop-m.m (memory_of c.memory.result) c.memory.ensures).write in
    let enable = ap (λ (x : Word). x.bits) (lane_operand j lt c.args.module.now.lines c.args.nets.now c.memory.result.enable 1 c.requires.nets write.enable _ c.index-nets-memory.is) in
    elim c.if-is_set_somewhere.branch [
      | then-is_set_somewhere w ↦ rw w.stale-is (written_stale_more c.args.module.now (lane_words j c.args.nets.now) c.args.readers.now.of_memories c.args.stale.now c.loop-m.stale w.mark.new.stale c.loop-m.m c.memory.result (c.loop-m.invariant j lt) c.memory.ensures
          w.mark.ensures.stay (λ on. subst (AreStale w.mark.new.stale) w.list.ensures w.mark.ensures.stale))
      | else-is_set_somewhere w ↦ rw w.stale-is (written_stale_more c.args.module.now (lane_words j c.args.nets.now) c.args.readers.now.of_memories c.args.stale.now c.loop-m.stale c.loop-m.stale c.loop-m.m c.memory.result (c.loop-m.invariant j lt) c.memory.ensures
          (stay_same c.loop-m.stale) (λ on. absurd (false≢true (sym w.if-is_set_somewhere.false ∙ c.is_set_somewhere.ensures j lt (enable ∙ on)))))
    ]

pub returns-clause-stay : goal.returns-clause-stay
returns-clause-stay c = (c.loop-m.invariant 0 first).stay

pub returns-clause-stale : goal.returns-clause-stale
returns-clause-stale c j below m memory at =
    let lt = slice_get_within c.args.module.now.memories m memory at in
    (c.loop-m.invariant j below).marked m memory (omega (arith, lt, c.loop-m-test.false, c.memory_count-m-end.ensures.count)) at

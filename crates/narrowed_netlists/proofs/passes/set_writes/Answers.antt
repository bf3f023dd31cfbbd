use Rattle.std.proofs.Common.{◌≡◌, ◌-◌, length, refl, sym, ap, subst, ◌∙◌, arith}
use Rattle.std.proofs.lemmas.Option.{slice_get_within}
use Rattle.netlist.specs.Nets.{MemValue}
use Rattle.netlist.specs.Netlists.{WaitsForWrite, memory_of, write_of}
use Rattle.net_parts.specs.Laws.{extends_twice}
use Rattle.narrowed_netlists.specs.Gaps.{FitsIn}
use Rattle.narrowed_netlists.specs.Copies.{MemoriesWait}
use Rattle.narrowed_netlists.proofs.Copying.{copies_later}
use Rattle.narrowed_netlists.proofs.Finishing.{all_written, narrow_lasts, waits_fewer, writes_more}
use Rattle.narrowed_netlists.proofs.Reading.{clocked_same, copy_net, fits_memory, item_at, mem_is, narrow_mem, waits_same, write_set}
use Rattle.narrowed_netlists.proofs.Lists.{width_at-line}
use Rattle.narrowed_netlists.proofs.passes.set_writes.Goals as goal

pub net_at-requires : goal.net_at-requires
net_at-requires c =
    let test = c.loop-number-test.true in
    let count = c.memory_count-number-end.ensures.count in
    let memory = memory_of c.memory-line.result in
    let at = c.memory-line.ensures in
    let sound = c.well_made.ensures.well_made.memories c.loop-number.number memory at in
    let line = width_at-line c.args.module.now.lines c.memory-line.result.word _ sound.write.word in
    let within = slice_get_within c.args.module.now.lines c.memory-line.result.word line.0 line.1 in
    let many = c.requires.nets in
    omega (arith, within, many)

pub narrowed-requires-clause-net_is : goal.narrowed-requires-clause-net_is
narrowed-requires-clause-net_is c =
    let test = c.loop-number-test.true in
    let count = c.memory_count-number-end.ensures.count in
    let memory = memory_of c.memory-line.result in
    let at = c.memory-line.ensures in
    let sound = c.well_made.ensures.well_made.memories c.loop-number.number memory at in
    (copy_net c.args.module.now c.loop-number.builder c.args.registers.now c.args.memories.now c.args.nets.now c.args.cores.now c.memory-line.result.word memory.width c.net_at.result (copies_later c.args.module.now c.args.builder.now c.loop-number.builder c.args.registers.now c.args.memories.now c.args.nets.now c.args.cores.now (length c.args.module.now.lines) c.loop-number.invariant.extends c.requires.copies) sound.write.word c.net_at.ensures).is_net

pub narrowed-requires-clause-fits : goal.narrowed-requires-clause-fits
narrowed-requires-clause-fits c =
    let test = c.loop-number-test.true in
    let count = c.memory_count-number-end.ensures.count in
    let memory = memory_of c.memory-line.result in
    let at = c.memory-line.ensures in
    let sound = c.well_made.ensures.well_made.memories c.loop-number.number memory at in
    let wide = (copy_net c.args.module.now c.loop-number.builder c.args.registers.now c.args.memories.now c.args.nets.now c.args.cores.now c.memory-line.result.word memory.width c.net_at.result (copies_later c.args.module.now c.args.builder.now c.loop-number.builder c.args.registers.now c.args.memories.now c.args.nets.now c.args.cores.now (length c.args.module.now.lines) c.loop-number.invariant.extends c.requires.copies) sound.write.word c.net_at.ensures).has_width in
    subst (FitsIn c.gap_at.result) (sym wide) (fits_memory c.args.module.now c.args.memories.now c.loop-number.number memory c.gap_at.result c.requires.memories_fit at c.gap_at.ensures)

pub net_at-requires-in-loop-number : goal.net_at-requires-in-loop-number
net_at-requires-in-loop-number c =
    let test = c.loop-number-test.true in
    let count = c.memory_count-number-end.ensures.count in
    let memory = memory_of c.memory-line.result in
    let at = c.memory-line.ensures in
    let sound = c.well_made.ensures.well_made.memories c.loop-number.number memory at in
    let line = width_at-line c.args.module.now.lines c.memory-line.result.enable _ sound.write.enable in
    let within = slice_get_within c.args.module.now.lines c.memory-line.result.enable line.0 line.1 in
    let many = c.requires.nets in
    omega (arith, within, many)

pub net_at-requires-in-loop-number-2 : goal.net_at-requires-in-loop-number-2
net_at-requires-in-loop-number-2 c =
    let test = c.loop-number-test.true in
    let count = c.memory_count-number-end.ensures.count in
    let memory = memory_of c.memory-line.result in
    let at = c.memory-line.ensures in
    let sound = c.well_made.ensures.well_made.memories c.loop-number.number memory at in
    let line = width_at-line c.args.module.now.lines c.memory-line.result.address _ sound.write.address in
    let within = slice_get_within c.args.module.now.lines c.memory-line.result.address line.0 line.1 in
    let many = c.requires.nets in
    omega (arith, within, many)

pub set_write-requires-clause-mem_is : goal.set_write-requires-clause-mem_is
set_write-requires-clause-mem_is c =
    let test = c.loop-number-test.true in
    let count = c.memory_count-number-end.ensures.count in
    let memory = memory_of c.memory-line.result in
    let at = c.memory-line.ensures in
    let sound = c.well_made.ensures.well_made.memories c.loop-number.number memory at in
    let many_mems = c.requires.many_mems in
    let mem_at = item_at c.args.mems.now c.loop-number.number c.index-mems-number.result (omega (arith, test, count, many_mems)) c.index-mems-number.is in
    narrow_mem c.args.module.now c.narrowed.new.builder c.args.memories.now c.args.mems.now c.loop-number.number memory c.gap_at.result c.index-mems-number.result c.requires.mems
    (narrow_lasts c.args.module.now c.args.builder.now c.narrowed.new.builder c.args.memories.now (length c.args.module.now.memories) (extends_twice c.args.builder.now c.loop-number.builder c.narrowed.new.builder c.loop-number.invariant.extends c.in_ok-word.ensures.grows.extends) c.requires.narrow) at c.gap_at.ensures mem_at

pub set_write-requires-clause-waits : goal.set_write-requires-clause-waits
set_write-requires-clause-waits c =
    let test = c.loop-number-test.true in
    let count = c.memory_count-number-end.ensures.count in
    let memory = memory_of c.memory-line.result in
    let at = c.memory-line.ensures in
    let sound = c.well_made.ensures.well_made.memories c.loop-number.number memory at in
    let many_mems = c.requires.many_mems in
    let mem_at = item_at c.args.mems.now c.loop-number.number c.index-mems-number.result (omega (arith, test, count, many_mems)) c.index-mems-number.is in
    let mem_is = mem_is c.args.module.now c.args.memories.now c.args.mems.now c.loop-number.number memory c.gap_at.result c.index-mems-number.result c.requires.mems at c.gap_at.ensures mem_at in
    let waits = c.loop-number.invariant.waits.all c.loop-number.number (omega arith) (omega (arith, test, count)) in
    subst (λ (m : MemValue). WaitsForWrite c.narrowed.new.builder m.number) (sym mem_is) (waits_same c.loop-number.builder c.narrowed.new.builder c.loop-number.number c.in_ok-word.ensures.grows.memories waits)

pub set_write-requires-clause-enable_is : goal.set_write-requires-clause-enable_is
set_write-requires-clause-enable_is c =
    let test = c.loop-number-test.true in
    let count = c.memory_count-number-end.ensures.count in
    let memory = memory_of c.memory-line.result in
    let at = c.memory-line.ensures in
    let sound = c.well_made.ensures.well_made.memories c.loop-number.number memory at in
    (copy_net c.args.module.now c.narrowed.new.builder c.args.registers.now c.args.memories.now c.args.nets.now c.args.cores.now c.memory-line.result.enable 1 c.net_at-in-loop-number.result (copies_later c.args.module.now c.args.builder.now c.narrowed.new.builder c.args.registers.now c.args.memories.now c.args.nets.now c.args.cores.now (length c.args.module.now.lines) (extends_twice c.args.builder.now c.loop-number.builder c.narrowed.new.builder c.loop-number.invariant.extends c.in_ok-word.ensures.grows.extends) c.requires.copies) sound.write.enable c.net_at-in-loop-number.ensures).is_net

pub set_write-requires-clause-one_bit : goal.set_write-requires-clause-one_bit
set_write-requires-clause-one_bit c =
    let test = c.loop-number-test.true in
    let count = c.memory_count-number-end.ensures.count in
    let memory = memory_of c.memory-line.result in
    let at = c.memory-line.ensures in
    let sound = c.well_made.ensures.well_made.memories c.loop-number.number memory at in
    (copy_net c.args.module.now c.narrowed.new.builder c.args.registers.now c.args.memories.now c.args.nets.now c.args.cores.now c.memory-line.result.enable 1 c.net_at-in-loop-number.result (copies_later c.args.module.now c.args.builder.now c.narrowed.new.builder c.args.registers.now c.args.memories.now c.args.nets.now c.args.cores.now (length c.args.module.now.lines) (extends_twice c.args.builder.now c.loop-number.builder c.narrowed.new.builder c.loop-number.invariant.extends c.in_ok-word.ensures.grows.extends) c.requires.copies) sound.write.enable c.net_at-in-loop-number.ensures).has_width

pub set_write-requires-clause-address_is : goal.set_write-requires-clause-address_is
set_write-requires-clause-address_is c =
    let test = c.loop-number-test.true in
    let count = c.memory_count-number-end.ensures.count in
    let memory = memory_of c.memory-line.result in
    let at = c.memory-line.ensures in
    let sound = c.well_made.ensures.well_made.memories c.loop-number.number memory at in
    (copy_net c.args.module.now c.narrowed.new.builder c.args.registers.now c.args.memories.now c.args.nets.now c.args.cores.now c.memory-line.result.address memory.address_bits c.net_at-in-loop-number-2.result (copies_later c.args.module.now c.args.builder.now c.narrowed.new.builder c.args.registers.now c.args.memories.now c.args.nets.now c.args.cores.now (length c.args.module.now.lines) (extends_twice c.args.builder.now c.loop-number.builder c.narrowed.new.builder c.loop-number.invariant.extends c.in_ok-word.ensures.grows.extends) c.requires.copies) sound.write.address c.net_at-in-loop-number-2.ensures).is_net

pub set_write-requires-clause-address_width : goal.set_write-requires-clause-address_width
set_write-requires-clause-address_width c =
    let test = c.loop-number-test.true in
    let count = c.memory_count-number-end.ensures.count in
    let memory = memory_of c.memory-line.result in
    let at = c.memory-line.ensures in
    let sound = c.well_made.ensures.well_made.memories c.loop-number.number memory at in
    let many_mems = c.requires.many_mems in
    let mem_at = item_at c.args.mems.now c.loop-number.number c.index-mems-number.result (omega (arith, test, count, many_mems)) c.index-mems-number.is in
    let mem_is = mem_is c.args.module.now c.args.memories.now c.args.mems.now c.loop-number.number memory c.gap_at.result c.index-mems-number.result c.requires.mems at c.gap_at.ensures mem_at in
    (copy_net c.args.module.now c.narrowed.new.builder c.args.registers.now c.args.memories.now c.args.nets.now c.args.cores.now c.memory-line.result.address memory.address_bits c.net_at-in-loop-number-2.result (copies_later c.args.module.now c.args.builder.now c.narrowed.new.builder c.args.registers.now c.args.memories.now c.args.nets.now c.args.cores.now (length c.args.module.now.lines) (extends_twice c.args.builder.now c.loop-number.builder c.narrowed.new.builder c.loop-number.invariant.extends c.in_ok-word.ensures.grows.extends) c.requires.copies) sound.write.address c.net_at-in-loop-number-2.ensures).has_width ∙ sym (ap (λ (m : MemValue). m.address_bits) mem_is)

pub set_write-requires-clause-word_width : goal.set_write-requires-clause-word_width
set_write-requires-clause-word_width c =
    let test = c.loop-number-test.true in
    let count = c.memory_count-number-end.ensures.count in
    let memory = memory_of c.memory-line.result in
    let at = c.memory-line.ensures in
    let sound = c.well_made.ensures.well_made.memories c.loop-number.number memory at in
    let many_mems = c.requires.many_mems in
    let mem_at = item_at c.args.mems.now c.loop-number.number c.index-mems-number.result (omega (arith, test, count, many_mems)) c.index-mems-number.is in
    let mem_is = mem_is c.args.module.now c.args.memories.now c.args.mems.now c.loop-number.number memory c.gap_at.result c.index-mems-number.result c.requires.mems at c.gap_at.ensures mem_at in
    let wide = (copy_net c.args.module.now c.loop-number.builder c.args.registers.now c.args.memories.now c.args.nets.now c.args.cores.now c.memory-line.result.word memory.width c.net_at.result (copies_later c.args.module.now c.args.builder.now c.loop-number.builder c.args.registers.now c.args.memories.now c.args.nets.now c.args.cores.now (length c.args.module.now.lines) c.loop-number.invariant.extends c.requires.copies) sound.write.word c.net_at.ensures).has_width in
    c.in_ok-word.ensures.net_is.has_width ∙ ap (λ w. w - c.gap_at.result.zeros) wide ∙ sym (ap (λ (m : MemValue). m.width) mem_is)

pub loop-number-preserved : goal.loop-number-preserved
loop-number-preserved c =
    let test = c.loop-number-test.true in
    let count = c.memory_count-number-end.ensures.count in
    let memory = memory_of c.memory-line.result in
    let at = c.memory-line.ensures in
    let sound = c.well_made.ensures.well_made.memories c.loop-number.number memory at in
    let many_mems = c.requires.many_mems in
    let mem_at = item_at c.args.mems.now c.loop-number.number c.index-mems-number.result (omega (arith, test, count, many_mems)) c.index-mems-number.is in
    let mem_is = mem_is c.args.module.now c.args.memories.now c.args.mems.now c.loop-number.number memory c.gap_at.result c.index-mems-number.result c.requires.mems at c.gap_at.ensures mem_at in
    let inv = c.loop-number.invariant in
    let grows = c.in_ok-word.ensures.grows in
    let set = c.set_write.ensures in
    let number : c.index-mems-number.result.number ≡ c.loop-number.number = ap (λ (m : MemValue). m.number) mem_is in
    let extends = extends_twice c.loop-number.builder c.narrowed.new.builder c.set_write.new.self grows.extends set.extends in
    record {
      writes = writes_more c.args.module.now c.loop-number.builder c.set_write.new.self c.args.memories.now c.args.nets.now c.loop-number.number memory (write_of c.memory-line.result.enable c.memory-line.result.address c.memory-line.result.word)
          c.gap_at.result at refl c.gap_at.ensures extends inv.writes
          (write_set c.set_write.new.self c.args.nets.now c.gap_at.result c.loop-number.number memory (write_of c.memory-line.result.enable c.memory-line.result.address c.memory-line.result.word) c.index-mems-number.result
          c.net_at-in-loop-number.result c.net_at-in-loop-number-2.result c.net_at.result c.in_ok-word.word mem_is c.net_at-in-loop-number.ensures c.net_at-in-loop-number-2.ensures c.net_at.ensures
          (λ cycle v. c.in_ok-word.ensures.is cycle (set.extends.valuations cycle v)) set.value);
      waits = waits_fewer c.loop-number.builder c.set_write.new.self c.loop-number.number (length c.args.module.now.memories) inv.waits
          (λ m other w. set.still_wait m (λ e. other (e ∙ number)) (waits_same c.loop-number.builder c.narrowed.new.builder m grows.memories w))
          (λ m w. (let was = set.no_more_wait m w in (waits_same c.narrowed.new.builder c.loop-number.builder m (sym grows.memories) was.0, λ e. was.1 (e ∙ sym number))));
      clocked = clocked_same c.narrowed.new.builder c.set_write.new.self set.lines (λ n w. inv.clocked n (grows.no_more_wait n w));
      extends = extends_twice c.args.builder.now c.loop-number.builder c.set_write.new.self inv.extends extends;
      drivers = set.drivers ∙ grows.drivers ∙ inv.drivers;
    }

pub returns-clause-written : goal.returns-clause-written
returns-clause-written c =
    let test = c.loop-number-test.false in
    let end = c.loop-number.auto.number-end in
    let count = c.memory_count-number-end.ensures.count in
    let same : c.loop-number.number ≡ length c.args.module.now.memories = omega (arith, test, end, count) in
    all_written c.loop-number.builder (length c.args.module.now.memories) (subst (λ k. MemoriesWait c.loop-number.builder k (length c.args.module.now.memories)) same c.loop-number.invariant.waits)

use Rattle.std.proofs.Common.{◌≡◌, ◌-◌, inl, inr, length, ap, subst, ◌∙◌, arith}
use Rattle.netlist.specs.Nets.{MemValue, mem_of}
use Rattle.netlist.specs.Netlists.{Netlist, WaitsForWrite, memory_of, memory_with}
use Rattle.net_parts.specs.Laws.{extends_twice}
use Rattle.narrowed_netlists.proofs.Finishing.{mems_more, narrow_more, waits_more}
use Rattle.narrowed_netlists.proofs.Lists.{length-push}
use Rattle.narrowed_netlists.proofs.Reading.{fits_memory}
use Rattle.narrowed_netlists.proofs.copies.copied_memories.Goals as goal

pub overflow_sub-line : goal.overflow_sub-line
overflow_sub-line c =
    let memory = memory_of c.memory-line.result in
    let at = c.memory-line.ensures in
    let fits = fits_memory c.args.module.now c.args.gaps.now c.loop-number.number memory c.gap_at-gap.result c.requires.fit at c.gap_at-gap.ensures in
    let sound = c.well_made.ensures.well_made.memories c.loop-number.number memory at in
    let some_bit = fits.some_bit in
    omega (arith, some_bit)

pub memory-requires-clause-some_bit : goal.memory-requires-clause-some_bit
memory-requires-clause-some_bit c =
    let memory = memory_of c.memory-line.result in
    let at = c.memory-line.ensures in
    let fits = fits_memory c.args.module.now c.args.gaps.now c.loop-number.number memory c.gap_at-gap.result c.requires.fit at c.gap_at-gap.ensures in
    let sound = c.well_made.ensures.well_made.memories c.loop-number.number memory at in
    let some_bit = fits.some_bit in
    omega (arith, some_bit)

pub memory-requires-clause-small : goal.memory-requires-clause-small
memory-requires-clause-small c =
    let memory = memory_of c.memory-line.result in
    let at = c.memory-line.ensures in
    let fits = fits_memory c.args.module.now c.args.gaps.now c.loop-number.number memory c.gap_at-gap.result c.requires.fit at c.gap_at-gap.ensures in
    let sound = c.well_made.ensures.well_made.memories c.loop-number.number memory at in
    let small = sound.small in
    omega (arith, small)

pub memory-requires-clause-some_address : goal.memory-requires-clause-some_address
memory-requires-clause-some_address c =
    let memory = memory_of c.memory-line.result in
    let at = c.memory-line.ensures in
    let fits = fits_memory c.args.module.now c.args.gaps.now c.loop-number.number memory c.gap_at-gap.result c.requires.fit at c.gap_at-gap.ensures in
    let sound = c.well_made.ensures.well_made.memories c.loop-number.number memory at in
    sound.some_address

pub memory-requires-clause-few_addresses : goal.memory-requires-clause-few_addresses
memory-requires-clause-few_addresses c =
    let memory = memory_of c.memory-line.result in
    let at = c.memory-line.ensures in
    let fits = fits_memory c.args.module.now c.args.gaps.now c.loop-number.number memory c.gap_at-gap.result c.requires.fit at c.gap_at-gap.ensures in
    let sound = c.well_made.ensures.well_made.memories c.loop-number.number memory at in
    sound.few_addresses

pub loop-number-preserved : goal.loop-number-preserved
loop-number-preserved c =
    let memory = memory_of c.memory-line.result in
    let at = c.memory-line.ensures in
    let inv = c.loop-number.invariant in
    let made = inv.made in
    let count = inv.count in
    let mem = c.in_ok-memory.field-0 in
    let new = c.in_ok-memory.ensures in
    let width = c.memory-line.result.width - c.gap_at-gap.result.zeros in
    let is : mem ≡ mem_of c.loop-number.number width c.memory-line.result.address_bits = new.memory.1 ∙ ap (λ k. mem_of k width c.memory-line.result.address_bits) made in
    let number : mem.number ≡ c.loop-number.number = ap (λ (m : MemValue). m.number) is in
    rw c.in_ok-push.ensures.items (record {
      count = (let more = length-push c.loop-number.mems.items mem in omega (arith, more, count));
      made = (let more = length-push c.loop-number.builder.memories (memory_with width c.memory-line.result.address_bits) in
          let grown = ap (λ (b : Netlist). length b.memories) new.memory.0 in omega (arith, more, made, grown));
      mems = mems_more c.args.module.now c.args.gaps.now c.loop-number.mems.items mem c.loop-number.number memory c.gap_at-gap.result count inv.mems at c.gap_at-gap.ensures is;
      narrow = narrow_more c.args.module.now c.loop-number.builder c.memory.new.self c.args.gaps.now mem c.loop-number.number memory c.gap_at-gap.result c.memory.ensures.extends inv.narrow at c.gap_at-gap.ensures is new.mem;
      waits = waits_more c.loop-number.builder c.memory.new.self c.loop-number.number inv.waits c.memory.ensures.still_wait
          (λ m w. elim (c.memory.ensures.newly m w) [
            | inl was ↦ inl was
            | inr it ↦ inr (it ∙ made)
          ])
          (subst (WaitsForWrite c.memory.new.self) number new.waits);
      extends = extends_twice c.args.builder.now c.loop-number.builder c.memory.new.self inv.extends c.memory.ensures.extends;
      lines = c.memory.ensures.lines ∙ inv.lines;
      drivers = c.memory.ensures.drivers ∙ inv.drivers;
    })

use Rattle.narrowed_netlists.proofs.masks.masks_of.Goals as goal

pub returns-then-are_open : goal.returns-then-are_open
returns-then-are_open c = record {
  allowed = rw (c.as_slice-in-loop-round-2.ensures.value, c.as_slice-in-loop-round-3.ensures.value) at (c.are_masks.ensures c.if-are_masks.true);
  registers_fit = rw c.as_slice-then-are_open.ensures.value at c.in_ok-registers.ensures.fit;
  memories_fit = c.in_ok-memories.ensures.fit;
  many_registers = c.in_ok-registers.ensures.count;
  many_memories = c.in_ok-memories.ensures.count;
  written = rw (c.as_slice-then-are_masks.ensures.value, c.as_slice-then-are_masks-2.ensures.value) at (c.are_open.ensures c.if-are_open.true);
}

use Rattle.memory_awake.proofs.packed.Whole.{read_once}
use Rattle.memory_awake.proofs.packed.packed_systems_read_words_once.Goals as goal

pub returns : goal.returns
returns c = read_once (record {
  rows = c.rows_pack_reads.ensures;
  once = c.touches_are_read_once.ensures;
  built = c.machines_with_links_are_built.ensures.built;
  settled = c.machines_with_links_are_built.ensures.settled;
  lines = c.machines_keep_their_lines.ensures;
  settle = c.machines_settle.ensures;
  parts = c.machines_keep_their_records.ensures.parts;
})

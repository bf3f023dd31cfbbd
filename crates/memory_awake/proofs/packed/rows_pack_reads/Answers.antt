use Rattle.memory_awake.proofs.packed.Rows.{row_packs}
use Rattle.memory_awake.proofs.packed.rows_pack_reads.Goals as goal

pub returns : goal.returns
returns c = λ target top middle low down end cuts fits drops below packs narrow words times some span enables legal.
    row_packs target end (record { packed = c.packed_rows.ensures.packs; wire = c.equal_words_pack.ensures.wire; cut = c.equal_words_pack.ensures.cut; cut_legal = c.cut_brings_bursts.ensures.legal; select = c.selectors_pack.ensures })
    top middle low down cuts fits drops below packs narrow words times some span enables legal

use Rattle.memory_links.proofs.Packed.{packed_link, row_packs}
use Rattle.memory_links.proofs.packs.packed_rows.Goals as goal

pub returns-clause-row : goal.returns-clause-row
returns-clause-row c = λ target many room up middle down cut gather end touch plan deep cuts gathers fit enables.
    packed_link (λ narrow wide target span may beat lies. c.beat_is_selected.ensures narrow wide target span may beat lies) c.wire_is_a_row.ensures.row c.chain_is_a_link.ensures target many room up middle down cut gather end touch plan deep cuts gathers fit enables

pub returns-clause-packs : goal.returns-clause-packs
returns-clause-packs c = λ target many room up middle down cut gather end touch plan deep cuts gathers fit enables times some span legal.
    row_packs (λ narrow wide target span may beat lies. c.beat_is_selected.ensures narrow wide target span may beat lies) c.wire_is_a_row.ensures.row c.chain_is_a_link.ensures target many room up middle down cut gather end touch plan deep cuts gathers fit enables times some span legal

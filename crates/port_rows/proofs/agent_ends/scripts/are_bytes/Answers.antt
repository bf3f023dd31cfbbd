use Rattle.port_rows.proofs.agent_ends.scripts.are_bytes.Goals as goal

pub returns : goal.returns
returns c = λ k. (c.type_inv.bytes k).fits

use Rattle.vcd_reader.proofs.undumps.Written.{written_thrice}
use Rattle.vcd_reader.proofs.undumps.put_row.Goals as goal

pub returns : goal.returns
returns c = written_thrice _ _ _ _ _ _ _ c.in_ok-write.ensures.bytes c.in_ok-put_values.ensures c.in_ok-push_str.ensures.bytes

use Rattle.packet_bytes.proofs.OneAnswer.{Laws, same_packets, one_fault, transfers_or_fault}
use Rattle.packet_bytes.proofs.laws.reads_have_one_answer.Goals as goal

pub returns : goal.returns
returns c =
    let laws : Laws = record {
      reading = c.one_reading.ensures;
      rule = c.one_fault.ensures.rule;
      before = c.one_fault.ensures.before;
      end = c.one_fault.ensures.end;
      whole = c.whole_packets_are_read.ensures;
    } in
    record { packets = same_packets laws; fault = one_fault laws; never_both = transfers_or_fault laws }

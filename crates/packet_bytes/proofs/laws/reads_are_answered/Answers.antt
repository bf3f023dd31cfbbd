use Rattle.std.proofs.Common.{[], refl}
use Rattle.packet_bytes.proofs.Answered.{answered}
use Rattle.packet_bytes.proofs.OneAnswer.{Laws, packets_or_fault}
use Rattle.packet_bytes.proofs.laws.reads_are_answered.Goals as goal

pub returns : goal.returns
returns c =
    let laws : Laws = record {
      reading = c.one_reading.ensures;
      rule = c.one_fault.ensures.rule;
      before = c.one_fault.ensures.before;
      end = c.one_fault.ensures.end;
      whole = c.whole_packets_are_read.ensures;
    } in
    record {
      either = answered c.streams_go_on.ensures.next c.streams_go_on.ensures.end (c.whole_packets_are_read.ensures [] [] refl (record { bytes = refl; ended = refl }));
      never_both = packets_or_fault laws;
    }

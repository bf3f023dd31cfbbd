use Rattle.std.proofs.Common.{take, get_or, refl}
use Rattle.packet_bytes.proofs.Reading.{faulty_at}
use Rattle.packet_bytes.proofs.packets.packets_of.Goals as goal

pub returns-in-Err-clause-fault : goal.returns-in-Err-clause-fault
returns-in-Err-clause-fault c =
    let bytes = c.args.bytes.now in
    faulty_at bytes c.bytes.place (get_or bytes c.bytes.place 0) c.in-Err.fault c.bytes-test.true refl (c.in-Err.ensures.fault (take c.bytes.place bytes) c.bytes.invariant)

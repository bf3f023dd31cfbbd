use Rattle.std.proofs.Common.{take}
use Rattle.packet_bytes.specs.Reading.{IsReading}
use Rattle.packet_bytes.proofs.packets.packets_of.Given as goal

abbrev pub invariant-bytes : goal.invariant-bytes
invariant-bytes l = IsReading (take l.place l.bytes) l.reader

-- Packets without their places.
use Rattle.marked_bytes.specs.Items.{Packet as Plain}
use Rattle.packet_bytes.specs.declared.gathering.Packet.{Packet}

-- a packet: its channel, and its bytes
abbrev pub unplaced : Packet → Plain
unplaced packet = record { channel = packet.channel; bytes = packet.bytes }

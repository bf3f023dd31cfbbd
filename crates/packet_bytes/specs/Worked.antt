-- Small packets.
use Rattle.std.specs.Prelude.{ℕ, ◌/◌, ◌%◌, List, [], ◌∷◌}
use Rattle.marked_bytes.specs.Items.{Spelled, Mark, Item}
use Rattle.packet_bytes.specs.declared.gathering.Packet.{Packet}

-- a packet on channel 0 whose first byte is at place 1 and whose last at place 9
abbrev pub packet : List ℕ → Packet
packet bytes = record { channel = 0; bytes = bytes; first_place = 1; last_place = 9 }

-- what the packet of a transaction begins with: its code, size and address, which is below 65536
abbrev pub header : ℕ → ℕ → ℕ → List ℕ
header code size address = code ∷ 0 ∷ size / 256 ∷ size % 256 ∷ 0 ∷ 0 ∷ address / 256 ∷ address % 256 ∷ []

-- the items of the bytes 7a 7f 7b 7d 5a
abbrev pub escaped_items : List Item
escaped_items =
    record { marks = Mark.IsFirst ∷ []; byte = Spelled.Itself 0x7f }
    ∷ record { marks = Mark.IsLast ∷ []; byte = Spelled.Escaped 0x5a } ∷ []

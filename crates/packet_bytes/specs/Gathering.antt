-- The packets that the items of a stream make, with their places in it.
use Rattle.std.specs.Prelude.{◌≡◌, ℕ, ◌+◌, ◌-◌, Bool, List, [], ◌∷◌, ◌++◌, length, if◌then◌else◌}
use Rattle.marked_bytes.specs.declared.unpacker.PacketByte.{PacketByte}
use Rattle.marked_bytes.specs.Items.{Item, marks_spelling, item_spelling, packet_byte}
use Rattle.packet_bytes.specs.declared.gathering.Packet.{Packet}
use Rattle.packet_bytes.specs.declared.gathering.Gathering.{Gathering}

-- a byte of a packet, and where its data is spelled
pub record Placed : Type 0 where
  pub byte : PacketByte
  pub place : ℕ

-- the bytes that items give, which are spelled from a place on behind an item on a channel
abbrev pub placed : ℕ → ℕ → List Item → List Placed
placed from before [] = []
placed from before (item ∷ rest) =
    record { byte = packet_byte before item; place = from + length (marks_spelling item.marks) }
    ∷ placed (from + length (item_spelling item)) (packet_byte before item).channel rest

-- whole packets, and the bytes of an open one
pub record Gathered : Type 0 where
  pub packets : List Packet
  pub bytes : List ℕ
  pub first_place : ℕ

abbrev pub nothing_gathered : Gathered
nothing_gathered = record { packets = []; bytes = []; first_place = 0 }

-- a byte joins those of the open packet; a last one makes it whole
abbrev pub with_byte : Gathered → Placed → Gathered
with_byte before p =
    let bytes = before.bytes ++ p.byte.byte ∷ [] in
    let first = if p.byte.first then p.place else before.first_place in
    if p.byte.last
    then record {
      packets =
          before.packets ++ record { channel = p.byte.channel; bytes = bytes; first_place = first; last_place = p.place } ∷ [];
      bytes =
          [];
      first_place = first;
    }
    else record { packets = before.packets; bytes = bytes; first_place = first }

abbrev pub with_bytes : Gathered → List Placed → Gathered
with_bytes before [] = before
with_bytes before (p ∷ rest) = with_bytes (with_byte before p) rest

-- the packets of items, and what stands open behind them
abbrev pub gathered : List Item → Gathered
gathered items = with_bytes nothing_gathered (placed 0 0 items)

abbrev pub held_by : Gathering → Gathered
held_by gathering = record { packets = gathering.packets.items; bytes = gathering.open; first_place = gathering.first_place }

abbrev pub nothing : Gathering → Type 0
nothing gathering = held_by gathering ≡ nothing_gathered

abbrev pub gathers : Gathering → Placed → Gathering → Type 0
gathers before p after = held_by after ≡ with_byte (held_by before) p

abbrev pub data_place : ℕ → Bool → ℕ
data_place place escaped = if escaped then place - 1 else place

-- Items, each of which is marks and a byte of data, and the packets that they make.
use Rattle.std.specs.Prelude.{◌≡◌, ℕ, Bool, true, false, ◌&&◌, ◌==◌, not, bit_xor, List, [], ◌∷◌, ◌++◌, length, flat_map, Option, Some, None, unwrap_or, nat_lt, if◌then◌else◌}
use Rattle.std.specs.List.{list_all, list_any}
use Rattle.marked_bytes.specs.declared.unpacker.PacketByte.{PacketByte}
use Rattle.marked_bytes.specs.Symbols.{is_plain}

-- a byte as it is spelled: by itself, or behind an escape by the byte with bit 5 turned
pub data Spelled : Type 0 where
  Itself : ℕ → Spelled
  Escaped : ℕ → Spelled

abbrev pub value_of : Spelled → ℕ
value_of (Spelled.Itself byte) = byte
value_of (Spelled.Escaped byte) = bit_xor byte 0x20

abbrev pub spelling : Spelled → List ℕ
spelling (Spelled.Itself byte) = byte ∷ []
spelling (Spelled.Escaped byte) = 0x7d ∷ byte ∷ []

-- a byte that means something of its own doesn't spell itself
abbrev pub is_spelled : Spelled → Bool
is_spelled (Spelled.Itself byte) = is_plain byte
is_spelled (Spelled.Escaped byte) = true

pub data Mark : Type 0 where
  IsFirst : Mark
  IsLast : Mark
  OnChannel : Spelled → Mark

abbrev pub mark_spelling : Mark → List ℕ
mark_spelling Mark.IsFirst = 0x7a ∷ []
mark_spelling Mark.IsLast = 0x7b ∷ []
mark_spelling (Mark.OnChannel channel) = 0x7c ∷ spelling channel

abbrev pub is_mark : Mark → Bool
is_mark Mark.IsFirst = true
is_mark Mark.IsLast = true
is_mark (Mark.OnChannel channel) = is_spelled channel

abbrev pub marks_spelling : List Mark → List ℕ
marks_spelling marks = flat_map mark_spelling marks

-- marks and a byte of data behind them
pub record Item : Type 0 where
  pub marks : List Mark
  pub byte : Spelled

abbrev pub item_spelling : Item → List ℕ
item_spelling item = marks_spelling item.marks ++ spelling item.byte

abbrev pub is_item : Item → Bool
is_item item = list_all is_mark item.marks && is_spelled item.byte

abbrev pub items_spelling : List Item → List ℕ
items_spelling items = flat_map item_spelling items

-- ---- what an item says

abbrev pub marks_first : Mark → Bool
marks_first Mark.IsFirst = true
marks_first Mark.IsLast = false
marks_first (Mark.OnChannel channel) = false

abbrev pub marks_last : Mark → Bool
marks_last Mark.IsFirst = false
marks_last Mark.IsLast = true
marks_last (Mark.OnChannel channel) = false

abbrev pub has_first : List Mark → Bool
has_first marks = list_any marks_first marks

abbrev pub has_last : List Mark → Bool
has_last marks = list_any marks_last marks

-- the channel of the last mark of one, behind another
abbrev pub channel_marked : Option ℕ → List Mark → Option ℕ
channel_marked before [] = before
channel_marked before (Mark.IsFirst ∷ rest) = channel_marked before rest
channel_marked before (Mark.IsLast ∷ rest) = channel_marked before rest
channel_marked before (Mark.OnChannel channel ∷ rest) = channel_marked (Some (value_of channel)) rest

-- the channel of an item: that of its last mark of one, else that of the item before
abbrev pub channel_of : ℕ → List Mark → ℕ
channel_of before marks = unwrap_or (channel_marked None marks) before

-- a byte of a packet, behind an item on a channel
abbrev pub packet_byte : ℕ → Item → PacketByte
packet_byte before item = record {
  channel = channel_of before item.marks;
  first = has_first item.marks;
  last = has_last item.marks;
  byte = value_of item.byte;
}

-- the bytes of packets that items give, the first of them behind an item on a channel
abbrev pub given : ℕ → List Item → List PacketByte
given before [] = []
given before (item ∷ rest) = packet_byte before item ∷ given (channel_of before item.marks) rest

-- ---- packets

-- the channel of the last byte, behind one on a channel
abbrev pub channel_behind : ℕ → List PacketByte → ℕ
channel_behind before [] = before
channel_behind before (byte ∷ rest) = channel_behind byte.channel rest

-- whether a packet stands open behind bytes
abbrev pub is_inside_behind : Bool → List PacketByte → Bool
is_inside_behind inside [] = inside
is_inside_behind inside (byte ∷ rest) = is_inside_behind (not byte.last) rest

-- data outside a packet is the first of one, and inside one it goes on on its channel
abbrev pub may_stand : Bool → ℕ → ℕ → Bool → Bool
may_stand inside before channel first = if inside then (not first && channel == before) else first

-- each byte may stand where it does
abbrev pub are_in_packets : Bool → ℕ → List PacketByte → Bool
are_in_packets inside before [] = true
are_in_packets inside before (byte ∷ rest) =
    may_stand inside before byte.channel byte.first && are_in_packets (not byte.last) byte.channel rest

-- a packet: its channel, and its bytes
pub record Packet : Type 0 where
  pub channel : ℕ
  pub bytes : List ℕ

-- the bytes of a packet on a channel, the last one marked so, and the first one if it is marked
abbrev pub marked_bytes : ℕ → Bool → List ℕ → List PacketByte
marked_bytes channel first [] = []
marked_bytes channel first (byte ∷ []) = record { channel = channel; first = first; last = true; byte = byte } ∷ []
marked_bytes channel first (byte ∷ next ∷ rest) =
    record { channel = channel; first = first; last = false; byte = byte } ∷ marked_bytes channel false (next ∷ rest)

abbrev pub packet_bytes : Packet → List PacketByte
packet_bytes packet = marked_bytes packet.channel true packet.bytes

abbrev pub is_packet : Packet → Bool
is_packet packet = nat_lt 0 (length packet.bytes)

-- the bytes spell items, and these make the packets and nothing besides
pub record IsUnpacked (bytes : List ℕ) (packets : List Packet) : Type 0 where
  pub items : List Item
  pub spelled : bytes ≡ items_spelling items
  pub proper : list_all is_item items ≡ true
  pub made : given 0 items ≡ flat_map packet_bytes packets
  pub whole : list_all is_packet packets ≡ true

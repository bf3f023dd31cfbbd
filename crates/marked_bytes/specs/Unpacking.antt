-- What was fed to an unpacker, and what is wrong with a byte.
use Rattle.std.specs.Prelude.{◌≡◌, ◌⊎◌, ℕ, Bool, true, false, ◌&&◌, List, [], ◌∷◌, ◌++◌, None}
use Rattle.std.specs.List.{list_all}
use Rattle.marked_bytes.specs.declared.unpacker.PacketByte.{PacketByte}
use Rattle.marked_bytes.specs.declared.unpacker.Fed.{Fed}
use Rattle.marked_bytes.specs.declared.unpacker.Fed.TheVariants.{More, Byte, Bad}
use Rattle.marked_bytes.specs.declared.unpacker.Awaits.{Awaits}
use Rattle.marked_bytes.specs.declared.unpacker.Awaits.TheVariants.{Symbol, Channel, EscapedChannel, EscapedByte, Nothing}
use Rattle.marked_bytes.specs.declared.unpacker.Unpacker.{Unpacker}
use Rattle.marked_bytes.specs.Symbols.{begins_mark}
use Rattle.marked_bytes.specs.Items.{Spelled, Mark, Item, is_mark, is_item, marks_spelling, items_spelling, has_first, has_last, channel_marked, channel_of, packet_byte, given, channel_behind, is_inside_behind, may_stand, are_in_packets}

-- what stands behind whole marks of an item that isn't whole: nothing, the mark of a channel, that and an escape, or an escape
abbrev pub begun : Awaits → List ℕ
begun Symbol = []
begun Channel = 0x7c ∷ []
begun EscapedChannel = 0x7c ∷ 0x7d ∷ []
begun EscapedByte = 0x7d ∷ []
begun (Nothing rule) = []

abbrev pub awaits_some : Awaits → Bool
awaits_some Symbol = true
awaits_some Channel = true
awaits_some EscapedChannel = true
awaits_some EscapedByte = true
awaits_some (Nothing rule) = false

-- data with these marks may stand behind items
abbrev pub may_follow : List Item → List Mark → Bool
may_follow items marks =
    let before = given 0 items in
    may_stand (is_inside_behind false before) (channel_behind 0 before) (channel_of (channel_behind 0 before) marks)
    (has_first marks)

-- data begins behind an escape
abbrev pub may_begin : Awaits → List Item → List Mark → Bool
may_begin Symbol items marks = true
may_begin Channel items marks = true
may_begin EscapedChannel items marks = true
may_begin EscapedByte items marks = may_follow items marks
may_begin (Nothing rule) items marks = true

-- items that make packets, as far as they go
abbrev pub are_items : List Item → Bool
are_items items = list_all is_item items && are_in_packets false 0 (given 0 items)

-- so many bytes were fed: they spell these items, and behind them a part of one, without a fault
pub record IsFed (fed : List ℕ) (items : List Item) (unpacker : Unpacker) : Type 0 where
  pub marks : List Mark
  pub bytes : fed ≡ items_spelling items ++ (marks_spelling marks ++ begun unpacker.awaits)
  pub proper : are_items items ≡ true
  pub proper_marks : list_all is_mark marks ≡ true
  pub reads : awaits_some unpacker.awaits ≡ true
  pub begins : may_begin unpacker.awaits items marks ≡ true
  pub channel : unpacker.channel ≡ channel_behind 0 (given 0 items)
  pub inside : unpacker.is_inside ≡ is_inside_behind false (given 0 items)
  pub first : unpacker.first ≡ has_first marks
  pub last : unpacker.last ≡ has_last marks
  pub marked : unpacker.marked ≡ channel_marked None marks

-- the byte behind what was fed marks again where a channel is due
pub record IsMarkForChannel (fed : List ℕ) (items : List Item) (byte : ℕ) : Type 0 where
  pub marks : List Mark
  pub bytes : fed ≡ items_spelling items ++ (marks_spelling marks ++ 0x7c ∷ [])
  pub proper : are_items items ≡ true
  pub proper_marks : list_all is_mark marks ≡ true
  pub mark : begins_mark byte ≡ true

-- with the byte behind what was fed data begins that may not stand there
pub record IsOutOfPlace (fed : List ℕ) (items : List Item) (byte : ℕ) : Type 0 where
  pub marks : List Mark
  pub bytes : fed ≡ items_spelling items ++ marks_spelling marks
  pub proper : are_items items ≡ true
  pub proper_marks : list_all is_mark marks ≡ true
  pub «data» : begins_mark byte ≡ false
  pub stands : may_follow items marks ≡ false

-- the byte behind what was fed without a fault breaks a rule
abbrev pub IsFaulty : List ℕ → List Item → ℕ → ℕ → Type 0
IsFaulty fed items byte rule = ((rule ≡ 1) × IsMarkForChannel fed items byte) ⊎ ((rule ≡ 2) × IsOutOfPlace fed items byte)

-- a fault was answered
abbrev pub IsBad : ℕ → Unpacker → Type 0
IsBad rule unpacker = unpacker.awaits ≡ Nothing rule

-- data is due behind an escape
abbrev pub is_escaping : Awaits → Bool
is_escaping Symbol = false
is_escaping Channel = false
is_escaping EscapedChannel = false
is_escaping EscapedByte = true
is_escaping (Nothing rule) = false

abbrev pub is_escaped : Spelled → Bool
is_escaped (Spelled.Itself byte) = false
is_escaped (Spelled.Escaped byte) = true

-- the item that an unpacker gives behind items, at this byte: its data is escaped where it was due so
pub record IsGiven (fed : List ℕ) (items : List Item) (before : Unpacker) (byte : ℕ) (shown : PacketByte) (item : Item)
    (after : Unpacker) : Type 0 where
  pub is : shown ≡ packet_byte (channel_behind 0 (given 0 items)) item
  pub escaped : is_escaped item.byte ≡ is_escaping before.awaits
  pub spelled : fed ++ byte ∷ [] ≡ items_spelling (items ++ item ∷ [])
  pub read : IsFed (fed ++ byte ∷ []) (items ++ item ∷ []) after

-- what an answer says of a byte behind what was fed, and of the unpacker behind it
abbrev pub Follows : List ℕ → List Item → Unpacker → ℕ → Fed → Unpacker → Type 0
Follows fed items before byte More after = IsFed (fed ++ byte ∷ []) items after
Follows fed items before byte (Byte shown) after = (item : Item) × IsGiven fed items before byte shown item after
Follows fed items before byte (Bad rule) after = IsFaulty fed items byte rule × IsBad rule after

-- bytes that spell items whose packets are whole
pub record IsWhole (fed : List ℕ) (items : List Item) : Type 0 where
  pub bytes : fed ≡ items_spelling items
  pub ended : is_inside_behind false (given 0 items) ≡ false

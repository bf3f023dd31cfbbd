-- The packets of a stream, and its first fault.
use Rattle.std.specs.Prelude.{◌≡◌, ◌⊎◌, ℕ, ◌<◌, true, List, length, take, slice_index}
use Rattle.marked_bytes.specs.declared.unpacker.Unpacker.{Unpacker}
use Rattle.marked_bytes.specs.Items.{Item}
use Rattle.marked_bytes.specs.Unpacking.{are_items, IsFed, IsWhole, IsFaulty}
use Rattle.packet_bytes.specs.declared.gathering.Packet.{Packet}
use Rattle.packet_bytes.specs.declared.faults.PacketFault.{PacketFault}
use Rattle.packet_bytes.specs.declared.faults.PacketFault.TheVariants.{Refused, NoMemory}
use Rattle.packet_bytes.specs.Gathering.{gathered}

-- the stream spells whole packets alone, which are these
pub record AreRead (bytes : List ℕ) (packets : List Packet) : Type 0 where
  pub items : List Item
  pub proper : are_items items ≡ true
  pub whole : IsWhole bytes items
  pub are : packets ≡ (gathered items).packets

-- the byte at the place breaks the rule, and none before it breaks any
pub record IsFaultyAt (bytes : List ℕ) (place rule : ℕ) : Type 0 where
  pub items : List Item
  pub within : place < length bytes
  pub faulty : IsFaulty (take place bytes) items (slice_index bytes place) rule

-- no byte breaks a rule, and behind the last one a packet or an item stands open
pub record IsOpen (bytes : List ℕ) : Type 0 where
  pub items : List Item
  pub unpacker : Unpacker
  pub fed : IsFed bytes items unpacker
  pub open_still : ¬ (IsWhole bytes items)

-- the first fault of a stream; want of memory says nothing of it
abbrev pub IsStreamFault : List ℕ → PacketFault → Type 0
IsStreamFault bytes (Refused place rule) = IsFaultyAt bytes place rule ⊎ ((place ≡ length bytes) × (rule ≡ 3) × IsOpen bytes)
IsStreamFault bytes NoMemory = true ≡ true

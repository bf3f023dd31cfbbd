-- What a reader read so far.
use Rattle.std.specs.Prelude.{◌≡◌, ℕ, true, List}
use Rattle.marked_bytes.specs.Items.{Item}
use Rattle.marked_bytes.specs.Unpacking.{IsFed, IsFaulty}
use Rattle.packet_bytes.specs.declared.packets.Reader.{Reader}
use Rattle.packet_bytes.specs.declared.faults.PacketFault.{PacketFault}
use Rattle.packet_bytes.specs.declared.faults.PacketFault.TheVariants.{Refused, NoMemory}
use Rattle.packet_bytes.specs.Gathering.{gathered, held_by}

-- so many bytes were read without a fault, and the packets of their items gathered
pub record IsReading (fed : List ℕ) (reader : Reader) : Type 0 where
  pub items : List Item
  pub read : IsFed fed items reader.unpacker
  pub held : held_by reader.gathering ≡ gathered items

-- the byte behind what was read, which stands at the place, breaks the rule
abbrev pub IsRefusedAt : List ℕ → ℕ → ℕ → PacketFault → Type 0
IsRefusedAt fed place byte (Refused at rule) = (at ≡ place) × ((items : List Item) × IsFaulty fed items byte rule)
IsRefusedAt fed place byte NoMemory = true ≡ true

-- Which rule a packet breaks.
use Rattle.std.specs.Prelude.{◌≡◌, ◌⊎◌, ℕ, ◌+◌, ◌%◌, Bool, true, ◌&&◌, ◌==◌, not, nat_lt, List, [], ◌∷◌, length, Option, Some, None, slice_index, if◌then◌else◌}
use Rattle.packet_bytes.specs.declared.codes.Code.{Code}
use Rattle.packet_bytes.specs.declared.codes.Code.TheVariants.{WriteFixed, WriteIncrementing, ReadFixed, ReadIncrementing, NoTransaction}
use Rattle.packet_bytes.specs.declared.gathering.Packet.{Packet}
use Rattle.packet_bytes.specs.declared.faults.PacketFault.{PacketFault}
use Rattle.packet_bytes.specs.declared.faults.PacketFault.TheVariants.{Refused, NoMemory}
use Rattle.packet_bytes.specs.declared.transfers.Transfers.{Transfers}
use Rattle.packet_bytes.specs.Codes.{code_of, is_fixed, is_write, size_in, address_in}
use Rattle.packet_bytes.specs.Counts.{words_of, command_count}
use Rattle.packet_bytes.specs.Streams.{AreRead, IsStreamFault}

-- the sizes of a host's words in bytes
abbrev pub IsWordSize : ℕ → Type 0
IsWordSize bytes = (bytes ≡ 1) ⊎ ((bytes ≡ 2) ⊎ ((bytes ≡ 4) ⊎ ((bytes ≡ 8) ⊎ (bytes ≡ 16))))

-- how long the packet of a transaction is
abbrev pub due_length : Code → ℕ → ℕ
due_length code size = if is_write code then 8 + size else 8

abbrev pub has_length : Code → List ℕ → Bool
has_length code bytes = not (size_in bytes == 0) && length bytes == due_length code (size_in bytes)

-- the address behind its last byte
abbrev pub end_of : ℕ → Code → List ℕ → ℕ
end_of word_bytes code bytes = address_in bytes + (if is_fixed code then word_bytes else size_in bytes)

abbrev pub is_aligned : ℕ → List ℕ → Bool
is_aligned word_bytes bytes = address_in bytes % word_bytes == 0 && size_in bytes % word_bytes == 0

abbrev pub is_in_place : ℕ → ℕ → Code → List ℕ → Bool
is_in_place word_bytes range code bytes =
    not (is_fixed code && not (is_aligned word_bytes bytes)) && not (nat_lt range (end_of word_bytes code bytes))

abbrev pub most_commands : ℕ
most_commands = 4096

-- what refuses the packet of a transaction, behind so many commands
abbrev pub transaction_fault : ℕ → ℕ → ℕ → Packet → Code → Option PacketFault
transaction_fault word_bytes range before packet code =
    if has_length code packet.bytes then
    (if is_in_place word_bytes range code packet.bytes then
    (if nat_lt most_commands (before + words_of word_bytes packet.bytes) then Some (Refused packet.first_place 7) else None)
    else Some (Refused packet.first_place 6))
    else Some (Refused packet.last_place 5)

abbrev pub fault_by : ℕ → ℕ → ℕ → Packet → Option Code → Option PacketFault
fault_by word_bytes range before packet None = Some (Refused packet.first_place 4)
fault_by word_bytes range before packet (Some WriteFixed) = transaction_fault word_bytes range before packet WriteFixed
fault_by word_bytes range before packet (Some WriteIncrementing) =
    transaction_fault word_bytes range before packet WriteIncrementing
fault_by word_bytes range before packet (Some ReadFixed) = transaction_fault word_bytes range before packet ReadFixed
fault_by word_bytes range before packet (Some ReadIncrementing) =
    transaction_fault word_bytes range before packet ReadIncrementing
fault_by word_bytes range before packet (Some NoTransaction) = None

abbrev pub packet_fault : ℕ → ℕ → ℕ → Packet → Option PacketFault
packet_fault word_bytes range before packet = fault_by word_bytes range before packet (code_of (slice_index packet.bytes 0))

abbrev pub or_later : Option PacketFault → Option PacketFault → Option PacketFault
or_later (Some fault) later = Some fault
or_later None later = later

-- what refuses the first packet at fault
abbrev pub first_fault : ℕ → ℕ → ℕ → List Packet → Option PacketFault
first_fault word_bytes range before [] = None
first_fault word_bytes range before (packet ∷ rest) =
    or_later (packet_fault word_bytes range before packet)
    (first_fault word_bytes range (before + command_count word_bytes packet.bytes) rest)

-- packets of transactions that a host of such words and such a range can do
pub record AreTransfers (word_bytes range : ℕ) (bytes : List ℕ) (transfers : Transfers) : Type 0 where
  pub read : AreRead bytes transfers.packets.items
  pub words : transfers.word_bytes ≡ word_bytes
  pub faultless : first_fault word_bytes range 0 transfers.packets.items ≡ None

-- a packet of the stream is at fault
pub record IsPacketFault (word_bytes range : ℕ) (bytes : List ℕ) (fault : PacketFault) : Type 0 where
  pub packets : List Packet
  pub read : AreRead bytes packets
  pub first : first_fault word_bytes range 0 packets ≡ Some fault

-- the first fault of a stream, and else of its packets; want of memory says nothing of them
abbrev pub IsFaultOf : ℕ → ℕ → List ℕ → PacketFault → Type 0
IsFaultOf word_bytes range bytes (Refused place rule) =
    IsStreamFault bytes (Refused place rule) ⊎ IsPacketFault word_bytes range bytes (Refused place rule)
IsFaultOf word_bytes range bytes NoMemory = true ≡ true

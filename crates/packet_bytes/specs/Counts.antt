-- How many commands packets stand for.
use Rattle.std.specs.Prelude.{ℕ, ◌+◌, ◌-◌, ◌/◌, ◌%◌, Bool, true, ◌==◌, not, List, Option, Some, None, slice_index}
use Rattle.std.specs.List.{sum_by, list_all}
use Rattle.packet_bytes.specs.declared.codes.Code.{Code}
use Rattle.packet_bytes.specs.declared.codes.Code.TheVariants.{WriteFixed, WriteIncrementing, ReadFixed, ReadIncrementing, NoTransaction}
use Rattle.packet_bytes.specs.declared.gathering.Packet.{Packet}
use Rattle.packet_bytes.specs.Codes.{code_of, size_in, address_in}

-- how many words hold so many bytes, the first of which has this address
abbrev pub words_for : ℕ → ℕ → ℕ → ℕ
words_for word_bytes address size = (address % word_bytes + size + (word_bytes - 1)) / word_bytes

abbrev pub words_of : ℕ → List ℕ → ℕ
words_of word_bytes bytes = words_for word_bytes (address_in bytes) (size_in bytes)

-- the commands of a packet: one for each word that its bytes touch
abbrev pub commands_by : ℕ → List ℕ → Option Code → ℕ
commands_by word_bytes bytes None = 0
commands_by word_bytes bytes (Some WriteFixed) = words_of word_bytes bytes
commands_by word_bytes bytes (Some WriteIncrementing) = words_of word_bytes bytes
commands_by word_bytes bytes (Some ReadFixed) = words_of word_bytes bytes
commands_by word_bytes bytes (Some ReadIncrementing) = words_of word_bytes bytes
commands_by word_bytes bytes (Some NoTransaction) = 0

abbrev pub command_count : ℕ → List ℕ → ℕ
command_count word_bytes bytes = commands_by word_bytes bytes (code_of (slice_index bytes 0))

-- all commands of packets
abbrev pub commands_of : ℕ → List Packet → ℕ
commands_of word_bytes packets = sum_by (λ (packet : Packet). command_count word_bytes packet.bytes) packets

-- a transaction has some bytes
abbrev pub is_sized_by : List ℕ → Option Code → Bool
is_sized_by bytes None = true
is_sized_by bytes (Some WriteFixed) = not (size_in bytes == 0)
is_sized_by bytes (Some WriteIncrementing) = not (size_in bytes == 0)
is_sized_by bytes (Some ReadFixed) = not (size_in bytes == 0)
is_sized_by bytes (Some ReadIncrementing) = not (size_in bytes == 0)
is_sized_by bytes (Some NoTransaction) = true

abbrev pub is_sized : List ℕ → Bool
is_sized bytes = is_sized_by bytes (code_of (slice_index bytes 0))

abbrev pub are_sized : List Packet → Bool
are_sized packets = list_all (λ (packet : Packet). is_sized packet.bytes) packets

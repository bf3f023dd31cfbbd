-- The commands of transactions, as the statements of a host.
use Rattle.std.specs.Prelude.{ℕ, zero, suc, ◌+◌, ◌*◌, ◌^◌, List, [], ◌∷◌, ◌++◌, slice_index, flat_map, Option, Some, None, if◌then◌else◌}
use Rattle.scenario_tables.specs.declared.statements.HostStatement.{HostStatement}
use Rattle.scenario_tables.specs.declared.statements.HostStatement.TheVariants.{Write, Read}
use Rattle.packet_bytes.specs.declared.codes.Code.{Code}
use Rattle.packet_bytes.specs.declared.codes.Code.TheVariants.{WriteFixed, WriteIncrementing, ReadFixed, ReadIncrementing, NoTransaction}
use Rattle.packet_bytes.specs.declared.gathering.Packet.{Packet}
use Rattle.packet_bytes.specs.Codes.{code_of, is_write}
use Rattle.packet_bytes.specs.Counts.{words_of}
use Rattle.packet_bytes.specs.Commands.{lane_byte, enables_below, word_address}

-- the word that a write has, of the bytes of the lanes below so many, that of lane 0 lowest
abbrev pub word_below : ℕ → List ℕ → ℕ → ℕ → ℕ
word_below word_bytes bytes word zero = 0
word_below word_bytes bytes word (suc lane) =
    word_below word_bytes bytes word lane + lane_byte word_bytes bytes word lane * 256 ^ lane

-- the command of a word of a transaction: a write of one word or a read of one, with just the lanes that its bytes touch
abbrev pub command : ℕ → Code → List ℕ → ℕ → HostStatement
command word_bytes code bytes word =
    let address = word_address word_bytes code bytes word in
    let enables = enables_below word_bytes bytes word word_bytes in
    if is_write code then Write address enables (word_below word_bytes bytes word word_bytes ∷ []) else Read address enables 1

-- those of the words below so many, in rising order
abbrev pub commands_below : ℕ → Code → List ℕ → ℕ → List HostStatement
commands_below word_bytes code bytes zero = []
commands_below word_bytes code bytes (suc word) =
    commands_below word_bytes code bytes word ++ command word_bytes code bytes word ∷ []

abbrev pub commands_by : ℕ → List ℕ → Option Code → List HostStatement
commands_by word_bytes bytes None = []
commands_by word_bytes bytes (Some WriteFixed) = commands_below word_bytes WriteFixed bytes (words_of word_bytes bytes)
commands_by word_bytes bytes (Some WriteIncrementing) =
    commands_below word_bytes WriteIncrementing bytes (words_of word_bytes bytes)
commands_by word_bytes bytes (Some ReadFixed) = commands_below word_bytes ReadFixed bytes (words_of word_bytes bytes)
commands_by word_bytes bytes (Some ReadIncrementing) =
    commands_below word_bytes ReadIncrementing bytes (words_of word_bytes bytes)
commands_by word_bytes bytes (Some NoTransaction) = []

abbrev pub packet_commands : ℕ → Packet → List HostStatement
packet_commands word_bytes packet = commands_by word_bytes packet.bytes (code_of (slice_index packet.bytes 0))

-- the commands of packets, in their order
abbrev pub commands : ℕ → List Packet → List HostStatement
commands word_bytes packets = flat_map (packet_commands word_bytes) packets

-- The commands of a transaction, and the statements that ask for them.
use Rattle.std.specs.Prelude.{ℕ, zero, suc, ◌+◌, ◌-◌, ◌*◌, ◌/◌, ◌%◌, ◌^◌, Bool, ◌&&◌, nat_lt, nat_le, List, [], ◌++◌, slice_index, flat_map, Option, Some, None, codes, decimal, if◌then◌else◌}
use Rattle.verilog_writer.specs.Text.{hex_digits}
use Rattle.packet_bytes.specs.declared.codes.Code.{Code}
use Rattle.packet_bytes.specs.declared.codes.Code.TheVariants.{WriteFixed, WriteIncrementing, ReadFixed, ReadIncrementing, NoTransaction}
use Rattle.packet_bytes.specs.declared.gathering.Packet.{Packet}
use Rattle.packet_bytes.specs.Codes.{code_of, is_fixed, is_write, size_in, address_in}
use Rattle.packet_bytes.specs.Counts.{words_of}

-- the lane of its first word at which a transaction begins: its bytes take the lanes from there on, word after word
abbrev pub first_lane : ℕ → List ℕ → ℕ
first_lane word_bytes bytes = address_in bytes % word_bytes

-- a lane of a word, counted over all words
abbrev pub lane_at : ℕ → ℕ → ℕ → ℕ
lane_at word_bytes word lane = word * word_bytes + lane

abbrev pub is_touched : ℕ → List ℕ → ℕ → ℕ → Bool
is_touched word_bytes bytes word lane =
    nat_le (first_lane word_bytes bytes) (lane_at word_bytes word lane)
    && nat_lt (lane_at word_bytes word lane) (first_lane word_bytes bytes + size_in bytes)

-- the byte that a write has for a lane; 0 where it has none
abbrev pub lane_byte : ℕ → List ℕ → ℕ → ℕ → ℕ
lane_byte word_bytes bytes word lane =
    if is_touched word_bytes bytes word lane
    then slice_index bytes (8 + (lane_at word_bytes word lane - first_lane word_bytes bytes)) else 0

-- a bit for each touched lane below so many
abbrev pub enables_below : ℕ → List ℕ → ℕ → ℕ → ℕ
enables_below word_bytes bytes word zero = 0
enables_below word_bytes bytes word (suc lane) =
    enables_below word_bytes bytes word lane + (if is_touched word_bytes bytes word lane then 2 ^ lane else 0)

-- the bytes of the lanes below so many, the highest first
abbrev pub lanes_text : ℕ → List ℕ → ℕ → ℕ → List ℕ
lanes_text word_bytes bytes word zero = []
lanes_text word_bytes bytes word (suc lane) =
    hex_digits 2 (lane_byte word_bytes bytes word lane) ++ lanes_text word_bytes bytes word lane

-- where a word of a transaction stands
abbrev pub word_address : ℕ → Code → List ℕ → ℕ → ℕ
word_address word_bytes code bytes word =
    if is_fixed code then address_in bytes else address_in bytes / word_bytes * word_bytes + word * word_bytes

-- what stands last in its statement: the word of a write, and the count of a read
abbrev pub operand : ℕ → Code → List ℕ → ℕ → List ℕ
operand word_bytes code bytes word = if is_write code then lanes_text word_bytes bytes word word_bytes else codes "1"

abbrev pub keyword : Code → List ℕ
keyword WriteFixed = codes "write"
keyword WriteIncrementing = codes "write"
keyword ReadFixed = codes "read"
keyword ReadIncrementing = codes "read"
keyword NoTransaction = codes "read"

-- what its statement begins with
abbrev pub place_text : List ℕ → ℕ → Code → List ℕ → ℕ → List ℕ
place_text host word_bytes code bytes word =
    keyword code ++ codes " " ++ host ++ codes " " ++ hex_digits 10 (word_address word_bytes code bytes word)

-- the statement of one command of one word
abbrev pub statement : List ℕ → ℕ → Code → List ℕ → ℕ → List ℕ
statement host word_bytes code bytes word =
    place_text host word_bytes code bytes word ++ codes " " ++ hex_digits 4 (enables_below word_bytes bytes word word_bytes)
    ++ codes " "
    ++ operand word_bytes code bytes word ++ codes "\n"

-- those of the words below so many, in rising order
abbrev pub statements_below : List ℕ → ℕ → Code → List ℕ → ℕ → List ℕ
statements_below host word_bytes code bytes zero = []
statements_below host word_bytes code bytes (suc word) =
    statements_below host word_bytes code bytes word ++ statement host word_bytes code bytes word

abbrev pub statements_by : List ℕ → ℕ → List ℕ → Option Code → List ℕ
statements_by host word_bytes bytes None = []
statements_by host word_bytes bytes (Some WriteFixed) =
    statements_below host word_bytes WriteFixed bytes (words_of word_bytes bytes)
statements_by host word_bytes bytes (Some WriteIncrementing) =
    statements_below host word_bytes WriteIncrementing bytes (words_of word_bytes bytes)
statements_by host word_bytes bytes (Some ReadFixed) =
    statements_below host word_bytes ReadFixed bytes (words_of word_bytes bytes)
statements_by host word_bytes bytes (Some ReadIncrementing) =
    statements_below host word_bytes ReadIncrementing bytes (words_of word_bytes bytes)
statements_by host word_bytes bytes (Some NoTransaction) = []

abbrev pub packet_text : List ℕ → ℕ → Packet → List ℕ
packet_text host word_bytes packet = statements_by host word_bytes packet.bytes (code_of (slice_index packet.bytes 0))

-- a scenario of so many cycles that states the commands of packets, in their order
abbrev pub scenario_text : List ℕ → ℕ → ℕ → List Packet → List ℕ
scenario_text host cycles word_bytes packets =
    codes "cycles " ++ decimal cycles ++ codes "\n" ++ flat_map (packet_text host word_bytes) packets

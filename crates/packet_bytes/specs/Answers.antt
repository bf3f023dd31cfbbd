-- What transactions are answered with.
use Rattle.std.specs.Prelude.{ℕ, ◌-◌, ◌*◌, Bool, false, ◌&&◌, nat_le, List, [], ◌∷◌, length, take, drop, slice_index, flat_map, Option, Some, None, if◌then◌else◌}
use Rattle.std.specs.List.{sum_by}
use Rattle.std.specs.Int.{bytes_low_first}
use Rattle.marked_bytes.specs.Items.{Packet as Reply}
use Rattle.marked_bytes.specs.Packing.{packed}
use Rattle.packet_bytes.specs.declared.codes.Code.{Code}
use Rattle.packet_bytes.specs.declared.codes.Code.TheVariants.{WriteFixed, WriteIncrementing, ReadFixed, ReadIncrementing, NoTransaction}
use Rattle.packet_bytes.specs.declared.gathering.Packet.{Packet}
use Rattle.packet_bytes.specs.Codes.{code_of, is_write, size_in}
use Rattle.packet_bytes.specs.Counts.{command_count}
use Rattle.packet_bytes.specs.Commands.{first_lane}

-- whether a packet asks to write
abbrev pub asks_to_write : Option Code → Bool
asks_to_write None = false
asks_to_write (Some code) = is_write code

-- how many write beats a packet waits for
abbrev pub beats_due : ℕ → List ℕ → ℕ
beats_due word_bytes bytes = if asks_to_write (code_of (slice_index bytes 0)) then command_count word_bytes bytes else 0

-- and how many words
abbrev pub words_due : ℕ → List ℕ → ℕ
words_due word_bytes bytes = if asks_to_write (code_of (slice_index bytes 0)) then 0 else command_count word_bytes bytes

-- the bytes that a read asks for, of those of its words
abbrev pub bytes_read : ℕ → List ℕ → List ℕ → List ℕ
bytes_read word_bytes bytes given = take (size_in bytes) (drop (first_lane word_bytes bytes) given)

-- what a packet is answered with: a write with its code and 80, and its size; a read with its bytes
abbrev pub answer_by : ℕ → List ℕ → List ℕ → Option Code → List ℕ
answer_by word_bytes bytes given None = 0xff ∷ 0 ∷ 0 ∷ 0 ∷ []
answer_by word_bytes bytes given (Some WriteFixed) = 0x80 ∷ 0 ∷ slice_index bytes 2 ∷ slice_index bytes 3 ∷ []
answer_by word_bytes bytes given (Some WriteIncrementing) = 0x84 ∷ 0 ∷ slice_index bytes 2 ∷ slice_index bytes 3 ∷ []
answer_by word_bytes bytes given (Some ReadFixed) = bytes_read word_bytes bytes given
answer_by word_bytes bytes given (Some ReadIncrementing) = bytes_read word_bytes bytes given
answer_by word_bytes bytes given (Some NoTransaction) = 0xff ∷ 0 ∷ 0 ∷ 0 ∷ []

abbrev pub answer : ℕ → List ℕ → List ℕ → List ℕ
answer word_bytes bytes given = answer_by word_bytes bytes given (code_of (slice_index bytes 0))

-- so many write beats, and words of these bytes, are enough for a packet
abbrev pub is_answered : ℕ → List ℕ → ℕ → List ℕ → Bool
is_answered word_bytes bytes beats given =
    nat_le (beats_due word_bytes bytes) beats && nat_le (word_bytes * words_due word_bytes bytes) (length given)

-- the replies to the leading packets for which so many write beats, and the bytes of the words in a row, are enough, one after
-- the other
abbrev pub replies_of : ℕ → List Packet → ℕ → List ℕ → List Reply
replies_of word_bytes [] beats given = []
replies_of word_bytes (packet ∷ rest) beats given =
    if is_answered word_bytes packet.bytes beats given
    then record { channel = packet.channel; bytes = answer word_bytes packet.bytes given }
    ∷ replies_of word_bytes rest (beats - beats_due word_bytes packet.bytes)
    (drop (word_bytes * words_due word_bytes packet.bytes) given)
    else []

-- replies as they are sent
abbrev pub replies_text : List Reply → List ℕ
replies_text replies = flat_map (λ (reply : Reply). packed reply.channel reply.bytes) replies

-- the bytes of words, that of lane 0 first
abbrev pub bytes_of : ℕ → List ℕ → List ℕ
bytes_of word_bytes words = flat_map (bytes_low_first 0 word_bytes) words

-- how many words packets wait for
abbrev pub all_words_due : ℕ → List Packet → ℕ
all_words_due word_bytes packets = sum_by (λ (packet : Packet). words_due word_bytes packet.bytes) packets

-- The byte operations of a beat.
use Rattle.std.specs.Prelude.{ℕ, ◌+◌, ◌*◌, ◌/◌, ◌%◌, ◌^◌, min, Bool, true, false, List, [], ◌∷◌, map, if◌then◌else◌, nat_eq, filter, flat_map}
use Rattle.std.specs.List.{list_any}
use Rattle.histories.specs.History.{numbers}
use Rattle.memory_runs.specs.Views.{Shape, Kind}
use Rattle.memory_runs.specs.Views.Kind.{Reads, Writes}

pub data Operation : Type 0 where
  Write : (offset byte : ℕ) → Operation
  Read : (offset : ℕ) → Operation

-- one beat: its byte address, its data and its lanes
pub record Beat : Type 0 where
  pub kind : Kind
  pub address : ℕ
  pub word : ℕ
  pub enables : ℕ

-- bit `lane` of the byte enables is set
abbrev pub is_enabled : ℕ → ℕ → Bool
is_enabled enables lane = nat_eq ((enables / 2 ^ lane) % 2) 1

-- byte `lane` of a word
abbrev pub byte_at : ℕ → ℕ → ℕ
byte_at word lane = (word / 256 ^ lane) % 256

-- how many lanes of a beat lie in one word of the other end
abbrev pub piece_bytes : Shape → Shape → ℕ
piece_bytes from to = min from.word_bytes to.word_bytes

-- how many words of the other end a beat covers
abbrev pub pieces : Shape → Shape → ℕ
pieces from to = from.word_bytes / piece_bytes from to

-- the lanes of a beat that lie in its word number `piece` of the other end
abbrev pub lanes_of_piece : Shape → Shape → ℕ → List ℕ
lanes_of_piece from to piece = numbers (piece * piece_bytes from to) (piece_bytes from to)

-- the enabled ones; all of them where one is enabled and the other end has no byte enables
abbrev pub filled_of_piece : Shape → Shape → ℕ → ℕ → List ℕ
filled_of_piece from to enables piece =
    if to.has_enables then filter (is_enabled enables) (lanes_of_piece from to piece)
    else if list_any (is_enabled enables) (lanes_of_piece from to piece) then lanes_of_piece from to piece
    else []

-- the lanes of a beat that an operation fills, in rising order
abbrev pub filled_lanes : Shape → Shape → ℕ → List ℕ
filled_lanes from to enables = flat_map (filled_of_piece from to enables) (numbers 0 (pieces from to))

abbrev pub operation_of_kind : Kind → ℕ → ℕ → Operation
operation_of_kind Writes offset byte = Write offset byte
operation_of_kind Reads offset byte = Read offset

-- the operation of a lane. Offsets are modulo the span
abbrev pub operation_at : ℕ → Beat → ℕ → Operation
operation_at span beat lane = operation_of_kind beat.kind ((beat.address + lane) % span) (byte_at beat.word lane)

-- the byte operations of a beat of one end at the words of the other
abbrev pub operations_of : Shape → Shape → ℕ → Beat → List Operation
operations_of from to span beat = map (operation_at span beat) (filled_lanes from to beat.enables)

-- the byte operations of a beat at an agent's own port: its enabled lanes
abbrev pub own_operations : Shape → ℕ → Beat → List Operation
own_operations shape span beat =
    map (operation_at span beat) (filter (is_enabled beat.enables) (numbers 0 shape.word_bytes))

abbrev pub is_read : Operation → Bool
is_read (Write offset byte) = false
is_read (Read offset) = true

abbrev pub written : (ℕ → ℕ) → ℕ → ℕ → ℕ → ℕ
written contents offset byte place = if nat_eq place offset then byte else contents place

-- the byte map that the operations leave
abbrev pub memory_after : (ℕ → ℕ) → List Operation → ℕ → ℕ
memory_after contents [] = contents
memory_after contents (Write offset byte ∷ later) = memory_after (written contents offset byte) later
memory_after contents (Read offset ∷ later) = memory_after contents later

-- what each read of the list finds there, in order
abbrev pub bytes_read : (ℕ → ℕ) → List Operation → List ℕ
bytes_read contents [] = []
bytes_read contents (Write offset byte ∷ later) = bytes_read (written contents offset byte) later
bytes_read contents (Read offset ∷ later) = contents offset ∷ bytes_read contents later

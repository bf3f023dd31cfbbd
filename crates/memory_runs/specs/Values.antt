-- Values of the plain functions as the definitions see them.
use Rattle.std.specs.Prelude.{ℕ, Bool, ◌||◌, List, filter}
use Rattle.memory_runs.specs.Views.{Shape, Kind}
use Rattle.memory_runs.specs.Views.Kind.{Reads, Writes}
use Rattle.memory_runs.specs.Operations.{Beat, Operation, is_enabled}
use Rattle.memory_runs.specs.Operations.Operation.{Write, Read}
use Rattle.memory_runs.specs.declared.plain.Transfer.{Transfer}
use Rattle.memory_runs.specs.declared.plain.Transfer.TheVariants.{Reads as reads_value, Writes as writes_value}
use Rattle.memory_runs.specs.declared.plain.ByteOperation.{ByteOperation}
use Rattle.memory_runs.specs.declared.plain.ByteOperation.TheVariants.{Write as write_value, Read as read_value}
use Rattle.memory_runs.specs.declared.plain.BeatValue.{BeatValue}
use Rattle.memory_runs.specs.declared.plain.End.{End}

-- the enabled lanes of some, or all of them
abbrev pub lanes_of : Bool → ℕ → List ℕ → List ℕ
lanes_of all enables lanes = filter (λ lane. all || is_enabled enables lane) lanes

abbrev pub seen : ByteOperation → Operation
seen (write_value offset byte) = Write offset byte
seen (read_value offset) = Read offset

abbrev pub kind_of : Transfer → Kind
kind_of reads_value = Reads
kind_of writes_value = Writes

abbrev pub beat_of_value : BeatValue → Beat
beat_of_value beat = record { kind = kind_of beat.transfer; address = beat.address; word = beat.word; enables = beat.enables }

-- addresses are in bytes, and there is no burst
abbrev pub shape_of_end : End → Shape
shape_of_end side = record { word_bytes = side.word_bytes; unit_bytes = 1; burst_bits = 1; has_enables = side.has_enables }

-- Word sizes of two ends of which one divides the other.
use Rattle.std.specs.Prelude.{◌≡◌, ◌*◌}
use Rattle.memory_runs.specs.Views.{Shape}
use Rattle.memory_runs.specs.Operations.{pieces, piece_bytes}

-- each lane of a beat lies in one of the words of the other end that the beat covers
abbrev pub FitsPieces : Shape → Shape → Type 0
FitsPieces from to = pieces from to * piece_bytes from to ≡ from.word_bytes

-- The bytes that a read's commands ask for.
use Rattle.std.specs.Prelude.{ℕ, zero, suc, ◌+◌, List, [], ◌∷◌, ◌++◌, if◌then◌else◌}
use Rattle.std.specs.Int.{byte_at}
use Rattle.packet_bytes.specs.Commands.{is_touched}

-- the bytes of those of so many lanes of a word, from one on, that are enabled
abbrev pub enabled_from : ℕ → List ℕ → ℕ → ℕ → ℕ → ℕ → List ℕ
enabled_from word_bytes bytes word value lane zero = []
enabled_from word_bytes bytes word value lane (suc count) =
    (if is_touched word_bytes bytes word lane then byte_at lane value ∷ [] else [])
    ++ enabled_from word_bytes bytes word value (suc lane) count

-- the bytes of the enabled lanes of words in rising order, the first of which has this number in its transaction
abbrev pub enabled_bytes : ℕ → List ℕ → ℕ → List ℕ → List ℕ
enabled_bytes word_bytes bytes word [] = []
enabled_bytes word_bytes bytes word (value ∷ rest) =
    enabled_from word_bytes bytes word value 0 word_bytes ++ enabled_bytes word_bytes bytes (word + 1) rest

-- Lines, and the values on a line, as pieces between bytes that part them.
use Rattle.std.specs.Prelude.{ℕ, ◌==◌, nat_lt, List, [], ◌∷◌, length, drop, if◌then◌else◌}

abbrev pub line_feed : ℕ
line_feed = 10

abbrev pub carriage_return : ℕ
carriage_return = 13

abbrev pub blank : ℕ
blank = 32

-- a byte more at the front of the first piece
abbrev pub longer_first : ℕ → List (List ℕ) → List (List ℕ)
longer_first byte [] = (byte ∷ []) ∷ []
longer_first byte (first ∷ others) = (byte ∷ first) ∷ others

-- what stands before, between and behind the bytes that part it: one piece more than there are such bytes
abbrev pub pieces : ℕ → List ℕ → List (List ℕ)
pieces parting [] = [] ∷ []
pieces parting (byte ∷ rest) = if byte == parting then [] ∷ pieces parting rest else longer_first byte (pieces parting rest)

-- a line without the carriage return at its end, if it has one
abbrev pub without_return : List ℕ → List ℕ
without_return [] = []
without_return (byte ∷ []) = if byte == carriage_return then [] else byte ∷ []
without_return (byte ∷ next ∷ rest) = byte ∷ without_return (next ∷ rest)

-- each piece that a line feed ends is a line, and what follows the last line feed where it isn't empty
abbrev pub ended : List (List ℕ) → List (List ℕ)
ended [] = []
ended ([] ∷ []) = []
ended ((byte ∷ rest) ∷ []) = (byte ∷ rest) ∷ []
ended (line ∷ next ∷ others) = without_return line ∷ ended (next ∷ others)

abbrev pub lines : List ℕ → List (List ℕ)
lines bytes = ended (pieces line_feed bytes)

-- the texts of the values on a line: none on an empty one
abbrev pub texts : List ℕ → List (List ℕ)
texts [] = []
texts (byte ∷ rest) = pieces blank (byte ∷ rest)

-- the texts from a place on the line; there are none behind its end
abbrev pub texts_from : ℕ → List ℕ → List (List ℕ)
texts_from at line = if nat_lt (length line) at then [] else pieces blank (drop at line)

-- The words of a line.
use Rattle.std.specs.Prelude.{ℕ, Bool, true, false, ◌&&◌, ◌==◌, nat_lt, List, [], ◌∷◌, drop}
use Rattle.std.specs.List.{list_all}
use Rattle.waves.specs.Cuts.{blank, pieces}

abbrev pub hash : ℕ
hash = 35

-- an empty line, and one that begins with `#`, count for nothing
abbrev pub is_silent : List ℕ → Bool
is_silent [] = true
is_silent (byte ∷ rest) = byte == hash

abbrev pub is_printable : ℕ → Bool
is_printable byte = nat_lt 31 byte && nat_lt byte 127

abbrev pub is_filled : List ℕ → Bool
is_filled [] = false
is_filled (byte ∷ rest) = true

-- what stands before, between and behind the blanks
abbrev pub words_of : List ℕ → List (List ℕ)
words_of line = pieces blank line

-- printable ASCII, without two blanks together or one at either end
unfoldable pub is_clean : List ℕ → Bool
is_clean line = list_all is_printable line && list_all is_filled (words_of line)

abbrev pub first_word : List (List ℕ) → List ℕ
first_word [] = []
first_word (word ∷ others) = word

-- the word at a place; empty where there is none
abbrev pub word_at : ℕ → List (List ℕ) → List ℕ
word_at place words = first_word (drop place words)

abbrev pub is_none_left : List (List ℕ) → Bool
is_none_left [] = true
is_none_left (word ∷ others) = false

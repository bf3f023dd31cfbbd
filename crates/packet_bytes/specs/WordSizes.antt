-- The sizes of words.
use Rattle.std.specs.Prelude.{ℕ, Bool, ◌||◌, ◌==◌}

-- a host's word has so many bytes
abbrev pub is_word_size : ℕ → Bool
is_word_size bytes = bytes == 1 || (bytes == 2 || (bytes == 4 || (bytes == 8 || bytes == 16)))

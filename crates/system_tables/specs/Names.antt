-- Names, as bytes.
use Rattle.std.specs.Prelude.{ℕ, Bool, false, ◌&&◌, ◌||◌, ◌==◌, nat_le, List, [], ◌∷◌, length}
use Rattle.std.specs.List.{list_all}
use Rattle.std.specs.Char.{is_ascii_alphabetic, is_ascii_alphanumeric}

-- a letter, a digit or '_'
abbrev pub is_name_byte : ℕ → Bool
is_name_byte byte = is_ascii_alphanumeric byte || byte == 95

abbrev pub begins_with_letter : List ℕ → Bool
begins_with_letter [] = false
begins_with_letter (byte ∷ bytes) = is_ascii_alphabetic byte

-- a letter, then letters, digits and '_'; 64 bytes at most
unfoldable pub is_name : List ℕ → Bool
is_name text = begins_with_letter text && list_all is_name_byte text && nat_le (length text) 64

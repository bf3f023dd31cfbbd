-- The bytes that a script gives a meaning, and how a text may begin.
use Rattle.std.specs.Prelude.{ℕ, Bool, true, false, ◌&&◌, ◌||◌, ◌==◌, List, [], ◌∷◌, if◌then◌else◌}

abbrev pub tab : ℕ
tab = 9

abbrev pub line_feed : ℕ
line_feed = 10

abbrev pub carriage_return : ℕ
carriage_return = 13

abbrev pub space : ℕ
space = 32

abbrev pub quote : ℕ
quote = 34

abbrev pub hash : ℕ
hash = 35

abbrev pub semicolon : ℕ
semicolon = 59

abbrev pub backslash : ℕ
backslash = 92

abbrev pub open_brace : ℕ
open_brace = 123

abbrev pub close_brace : ℕ
close_brace = 125

abbrev pub is_space_or_tab : ℕ → Bool
is_space_or_tab byte = byte == space || byte == tab

-- space, tab, vertical tab, form feed, carriage return
abbrev pub is_blank : ℕ → Bool
is_blank byte = is_space_or_tab byte || (byte == 11 || (byte == 12 || byte == carriage_return))

-- what ends a command
abbrev pub is_separator : ℕ → Bool
is_separator byte = byte == line_feed || byte == semicolon

-- `$` and `[`, which would substitute something
abbrev pub substitutes : ℕ → Bool
substitutes byte = byte == 36 || byte == 91

-- whether there is a first byte, and it passes
abbrev pub begins_with : (ℕ → Bool) → List ℕ → Bool
begins_with passes [] = false
begins_with passes (byte ∷ rest) = passes byte

abbrev pub begins_with_line_feed : List ℕ → Bool
begins_with_line_feed bytes = begins_with (λ byte. byte == line_feed) bytes

-- a line ends here: with a line feed, or with a carriage return and a line feed
abbrev pub begins_with_line_end : List ℕ → Bool
begins_with_line_end [] = false
begins_with_line_end (byte ∷ rest) = byte == line_feed || (byte == carriage_return && begins_with_line_feed rest)

-- what may follow a word: a blank, a line join, the end of the command, or the end of the text
abbrev pub ends_word : List ℕ → Bool
ends_word [] = true
ends_word (byte ∷ rest) = is_blank byte || (is_separator byte || (byte == backslash && begins_with_line_end rest))

-- what a byte inside braces or quotes stands for: nothing where it is a carriage return before a line feed, and else itself
abbrev pub kept : ℕ → List ℕ → List ℕ
kept byte rest = if byte == carriage_return && begins_with_line_feed rest then [] else byte ∷ []

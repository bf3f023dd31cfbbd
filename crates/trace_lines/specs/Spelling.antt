-- How a trace spells numbers.
use Rattle.std.specs.Prelude.{ℕ, zero, suc, ◌+◌, ◌/◌, ◌%◌, Bool, true, false, nat_lt, List, [], ◌∷◌, ◌++◌, codes, Option, Some, None, if◌then◌else◌}
use Rattle.av_base.specs.Word.{Word}
use Rattle.verilog_writer.specs.Text.{hex_digit, hex_digits}

-- a quarter of the width, rounded up, as hexadecimal digits
abbrev pub value_text : Word → List ℕ
value_text value = hex_digits ((value.width + 3) / 4) value.bits

-- a number of at most so many hexadecimal digits, without zeros in front
abbrev pub hex_within : ℕ → ℕ → List ℕ
hex_within zero n = []
hex_within (suc most) n = (if nat_lt n 16 then [] else hex_within most (n / 16)) ++ hex_digit (n % 16) ∷ []

abbrev pub short_hex : ℕ → List ℕ
short_hex n = hex_within 8 n

-- the code of a word behind a blank, where there is one
abbrev pub code_text : Option ℕ → List ℕ
code_text None = []
code_text (Some code) = codes " " ++ short_hex code

-- whether a beat begins a packet, and whether it ends one
abbrev pub flags_text : Bool → Bool → List ℕ
flags_text false false = codes "-"
flags_text true false = codes "s"
flags_text false true = codes "e"
flags_text true true = codes "se"

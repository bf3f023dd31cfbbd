-- What holes of a dump tell.
use Rattle.std.specs.Prelude.{ℕ, ◌+◌, ◌-◌, ◌*◌, ◌^◌, Bool, ◌&&◌, ◌||◌, not, ◌==◌, nat_lt, nat_eq, List, [], ◌∷◌, Option, Some, None, codes, decimal, if◌then◌else◌}
use Rattle.std.specs.List.{list_all, list_any, ends_with}
use Rattle.std.specs.Str.{bytes_eq}
use Rattle.av_base.specs.Word.{Word, word}
use Rattle.netlist.specs.Names.{is_name_byte, is_dollar, begins_with_letter}
use Rattle.vcd_text.specs.declared.port.DumpPort.{DumpPort}
use Rattle.vcd_text.specs.Text.{binary}

-- a byte of a name: a letter, a digit, `_` or `$`
abbrev pub is_of_name : ℕ → Bool
is_of_name byte = is_name_byte byte || is_dollar byte

-- a byte of a number
abbrev pub is_of_number : ℕ → Bool
is_of_number byte = nat_lt 47 byte && nat_lt byte 58

-- a byte of a code
abbrev pub is_of_code : ℕ → Bool
is_of_code byte = nat_lt 32 byte && nat_lt byte 127

-- the number that digits of a radix write behind another, the highest first
abbrev pub number_behind : ℕ → ℕ → List ℕ → ℕ
number_behind radix before [] = before
number_behind radix before (digit ∷ digits) = number_behind radix (before * radix + (digit - 48)) digits

-- a number above one and up to another, of which the digits are the decimal
abbrev pub number_in : ℕ → ℕ → List ℕ → Option ℕ
number_in above most run =
    if bytes_eq run (decimal (number_behind 10 0 run))
    && (nat_lt above (number_behind 10 0 run) && nat_lt (number_behind 10 0 run) (most + 1))
    then Some (number_behind 10 0 run) else None

-- the name of a module
abbrev pub module_name_in : List ℕ → Option (List ℕ)
module_name_in run =
    if begins_with_letter run && (list_all is_name_byte run && ends_with nat_eq run (codes "_interconnect")) then Some run
    else None

-- the name of a port behind these
abbrev pub port_name_in : List DumpPort → List ℕ → Option (List ℕ)
port_name_in ports run =
    if begins_with_letter run && (list_any is_dollar run && not (list_any (λ (port : DumpPort). bytes_eq port.name run) ports))
    then Some run else None

-- the number of the port with a code: its bytes less 33 are digits, the lowest first, each behind the first counted from 1
abbrev pub port_number : List ℕ → ℕ
port_number [] = 0
port_number (byte ∷ []) = byte - 33
port_number (byte ∷ next ∷ code) = byte - 33 + 94 * (port_number (next ∷ code) + 1)

-- the number of one of the ports that are let in
abbrev pub port_in : (ℕ → Bool) → List ℕ → Option ℕ
port_in lets_in [] = None
port_in lets_in (byte ∷ code) = if lets_in (port_number (byte ∷ code)) then Some (port_number (byte ∷ code)) else None

-- a value as its line spells it: a byte, or digits behind a `b`
pub data Spelled : Type 0 where
  bit : ℕ → Spelled
  digits : List ℕ → Spelled

abbrev pub is_bit : ℕ → Bool
is_bit byte = byte == 48 || byte == 49

-- the value of a port of this width: a bit, or a number that fits, of which the digits are the binary
abbrev pub value_in : ℕ → Spelled → Option Word
value_in width (Spelled.bit byte) = if width == 1 && is_bit byte then Some (word 1 (byte - 48)) else None
value_in width (Spelled.digits run) =
    if nat_lt 1 width && (bytes_eq run (binary width (number_behind 2 0 run)) && nat_lt (number_behind 2 0 run) (2 ^ width))
    then Some (word width (number_behind 2 0 run)) else None

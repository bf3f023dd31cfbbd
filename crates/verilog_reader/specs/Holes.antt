-- What the holes of a text tell, from a spot on.
use Rattle.std.specs.Prelude.{◌≡◌, ℕ, ◌+◌, ◌<◌, ◌^◌, ◌==◌, Bool, true, false, nat_lt, List, length, Option, Some, None, codes, if◌then◌else◌}
use Rattle.std.specs.List.{list_all}
use Rattle.std.specs.Char.{is_digit}
use Rattle.std.specs.Str.Parse.{digits_value}
use Rattle.av_base.specs.declared.value.Val.{Val}
use Rattle.netlist.specs.declared.line.Line.{Line}
use Rattle.verilog_writer.specs.Text.{hex_digit, hex_digits}
use Rattle.verilog_forms.specs.declared.rule.Rule.{Rule}
use Rattle.verilog_forms.specs.declared.rule.Rule.TheVariants.{Width, Spelling, Bounds}
use Rattle.verilog_reader.specs.declared.spot.Spot.{Spot}
use Rattle.verilog_reader.specs.declared.holes.Wanted.{Wanted}
use Rattle.verilog_reader.specs.declared.holes.Wanted.TheVariants.{Any, Exactly, Behind}
use Rattle.verilog_forms.specs.RightSides.{unless, value_of, is_number, net_of, is_net, fit_any, operand_test, is_constant}
use Rattle.verilog_forms.specs.WireLines.{high_test, number_test}
use Rattle.verilog_reader.specs.Spots.{fixed_from, hole_from, Takes}

-- a number, or 2^32 where it is larger: more than any count that it is compared with
abbrev pub capped : ℕ → ℕ
capped n = if nat_lt n (2 ^ 32) then n else 2 ^ 32

-- the digits' number, where they are digits
abbrev pub TellsDigits : List ℕ → Option ℕ → Type 0
TellsDigits run None = list_all (λ b. is_digit b 10) run ≡ false
TellsDigits run (Some n) = (list_all (λ b. is_digit b 10) run ≡ true) × (n ≡ capped (value_of run))

-- the number, where it is spelled as it has to be
abbrev pub TellsNumber : List ℕ → Option ℕ → Type 0
TellsNumber run None = is_number run ≡ false
TellsNumber run (Some n) = (is_number run ≡ true) × (n ≡ capped (value_of run))

-- the number of a net, where that is spelled as it has to be
abbrev pub TellsNet : List ℕ → Option ℕ → Type 0
TellsNet run None = is_net run ≡ false
TellsNet run (Some n) = (is_net run ≡ true) × (n ≡ capped (net_of run))

abbrev pub width_told : List ℕ → ℕ
width_told run = value_of run + 1

-- the spot behind a range, and the width that it tells
pub record Ranges (text : List ℕ) (spot : Spot) (w : ℕ) (behind : Spot) : Type 0 where
  pub inner : Spot
  pub high : Takes high_test width_told text (fixed_from (codes "[") text spot) w inner
  pub closes : behind ≡ fixed_from (codes ":0]") text inner

-- the spot behind net n's name
abbrev pub named_from : ℕ → List ℕ → Spot → Spot
named_from n text spot = hole_from (number_test n) text (fixed_from (codes "n") text spot)

-- the widths that an operand may have
abbrev pub fits : Wanted → ℕ → Bool
fits Any = fit_any
fits (Exactly w) = λ v. v == w
fits (Behind high whole) = λ v. high + v == whole

-- an operand among these nets
abbrev pub TakesOperand : List Line → Wanted → List ℕ → Spot → ℕ → Spot → Type 0
TakesOperand lines wanted text spot net behind =
    Takes (operand_test lines (length lines) (fits wanted)) net_of text spot net behind

-- the highest bit of a slice of a net of this width
abbrev pub high_bound : ℕ → List ℕ → Option Rule
high_bound wide run = unless (is_number run) Spelling (unless (nat_lt (value_of run) wide) Bounds None)

-- the lowest bit of a slice from this bit down, of so many bits
abbrev pub low_bound : ℕ → ℕ → List ℕ → Option Rule
low_bound high w run = unless (is_number run) Spelling (unless (value_of run + w == high + 1) Bounds None)

-- the width of a constant
abbrev pub width_bound : ℕ → List ℕ → Option Rule
width_bound w run = unless (is_number run) Spelling (unless (value_of run == w) Width None)

-- the digits of a constant
abbrev pub hex_bound : ℕ → List ℕ → Option Rule
hex_bound w run = unless (is_constant w run) Spelling None

abbrev pub constant_told : ℕ → List ℕ → Val
constant_told w run = record { width = w; bits = digits_value 16 run }

abbrev pub TellsHexDigit : ℕ → Option ℕ → Type 0
TellsHexDigit byte None = (d : ℕ) → d < 16 → hex_digit d ≡ byte → ⊥
TellsHexDigit byte (Some d) = (d < 16) × (hex_digit d ≡ byte)

abbrev pub TellsHex : List ℕ → Option ℕ → Type 0
TellsHex run None = (n : ℕ) → hex_digits (length run) n ≡ run → ⊥
TellsHex run (Some n) = (n ≡ digits_value 16 run) × (hex_digits (length run) n ≡ run)

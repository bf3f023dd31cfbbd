-- What holes of lines tell.
use Rattle.std.specs.Prelude.{ℕ, List}
use Rattle.verilog_forms.specs.RightSides.{value_of}
use Rattle.verilog_forms.specs.MemoryLines.{address_bits_of}

-- the address bits of a memory, by its last address
abbrev pub last_told : List ℕ → ℕ
last_told run = address_bits_of (value_of run)

-- a hole that has to be something known
abbrev pub nothing_told : List ℕ → Unit {0}
nothing_told run = tt

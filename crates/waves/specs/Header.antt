-- The first line of a waves file.
use Rattle.std.specs.Prelude.{ℕ, Bool, ◌&&◌, ◌==◌, not, nat_eq, nat_lt, List, length, drop, slice_index, Option, Some, None, codes, if◌then◌else◌}
use Rattle.std.specs.List.{list_all, starts_with}
use Rattle.waves.specs.Digits.{is_decimal, number_behind}

-- up to five decimal digits without a zero at the front, of a number up to 65,536
abbrev pub is_count : List ℕ → Bool
is_count digits =
    nat_lt (length digits) 6
    && (list_all is_decimal digits && (not (slice_index digits 0 == 48) && nat_lt (number_behind 10 0 digits) 65537))

-- `cycles` and a count behind one blank
abbrev pub is_header : List ℕ → Bool
is_header line = nat_lt 7 (length line) && (starts_with nat_eq line (codes "cycles ") && is_count (drop 7 line))

-- for how many cycles the first line says that a file is
abbrev pub cycles_in : List ℕ → Option ℕ
cycles_in line = if is_header line then Some (number_behind 10 0 (drop 7 line)) else None

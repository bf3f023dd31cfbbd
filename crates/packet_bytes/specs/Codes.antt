-- What a packet asks for.
use Rattle.std.specs.Prelude.{ℕ, ◌+◌, ◌*◌, Bool, true, false, ◌==◌, List, slice_index, Option, Some, None, if◌then◌else◌}
use Rattle.packet_bytes.specs.declared.codes.Code.{Code}
use Rattle.packet_bytes.specs.declared.codes.Code.TheVariants.{WriteFixed, WriteIncrementing, ReadFixed, ReadIncrementing, NoTransaction}

abbrev pub code_of : ℕ → Option Code
code_of byte =
    if byte == 0x00 then Some WriteFixed
    else (if byte == 0x04 then Some WriteIncrementing
    else (if byte == 0x10 then Some ReadFixed
    else (if byte == 0x14 then Some ReadIncrementing
    else (if byte == 0x7f then Some NoTransaction else None))))

abbrev pub is_fixed : Code → Bool
is_fixed WriteFixed = true
is_fixed WriteIncrementing = false
is_fixed ReadFixed = true
is_fixed ReadIncrementing = false
is_fixed NoTransaction = false

abbrev pub is_write : Code → Bool
is_write WriteFixed = true
is_write WriteIncrementing = true
is_write ReadFixed = false
is_write ReadIncrementing = false
is_write NoTransaction = false

-- the size behind the code and a reserved byte, high byte first; a byte that isn't there counts as 0
abbrev pub size_in : List ℕ → ℕ
size_in bytes = slice_index bytes 2 * 256 + slice_index bytes 3

-- and the address behind it
abbrev pub address_in : List ℕ → ℕ
address_in bytes = ((slice_index bytes 4 * 256 + slice_index bytes 5) * 256 + slice_index bytes 6) * 256 + slice_index bytes 7

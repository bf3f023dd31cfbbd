-- The bytes that mean something of their own.
use Rattle.std.specs.Prelude.{ℕ, Bool, true, false, ◌==◌, if◌then◌else◌}
use Rattle.marked_bytes.specs.declared.symbols.Symbol.{Symbol}
use Rattle.marked_bytes.specs.declared.symbols.Symbol.TheVariants.{First, Last, Channel, Escape, Plain}

abbrev pub symbol_of : ℕ → Symbol
symbol_of byte =
    if byte == 0x7a then First
    else (if byte == 0x7b then Last
    else (if byte == 0x7c then Channel
    else (if byte == 0x7d then Escape else Plain)))

abbrev pub is_plain_symbol : Symbol → Bool
is_plain_symbol Plain = true
is_plain_symbol First = false
is_plain_symbol Last = false
is_plain_symbol Channel = false
is_plain_symbol Escape = false

-- a byte that stands for itself
abbrev pub is_plain : ℕ → Bool
is_plain byte = is_plain_symbol (symbol_of byte)

abbrev pub is_mark_symbol : Symbol → Bool
is_mark_symbol First = true
is_mark_symbol Last = true
is_mark_symbol Channel = true
is_mark_symbol Escape = false
is_mark_symbol Plain = false

-- a byte that begins a mark
abbrev pub begins_mark : ℕ → Bool
begins_mark byte = is_mark_symbol (symbol_of byte)

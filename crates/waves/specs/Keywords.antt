-- The statements, by the word that each begins with.
use Rattle.std.specs.Prelude.{ℕ, Bool, ◌==◌, nat_le, List, Option, Some, None, codes, if◌then◌else◌}
use Rattle.std.specs.Str.{bytes_eq}
use Rattle.waves.specs.declared.keywords.Keyword.{Keyword}
use Rattle.waves.specs.declared.keywords.Keyword.TheVariants.{Cycles, Write, Read, Idle, Fill, Code, Stall, Latency, Beat, Gap}

unfoldable pub keyword_in : List ℕ → Option Keyword
keyword_in word =
    if bytes_eq word (codes "cycles") then Some Cycles
    else (if bytes_eq word (codes "write") then Some Write
    else (if bytes_eq word (codes "read") then Some Read
    else (if bytes_eq word (codes "idle") then Some Idle
    else (if bytes_eq word (codes "fill") then Some Fill
    else (if bytes_eq word (codes "code") then Some Code
    else (if bytes_eq word (codes "stall") then Some Stall
    else (if bytes_eq word (codes "latency") then Some Latency
    else (if bytes_eq word (codes "beat") then Some Beat
    else (if bytes_eq word (codes "gap") then Some Gap else None)))))))))

-- a statement has so many words, the first among them
abbrev pub fits_words : Keyword → ℕ → Bool
fits_words Cycles count = count == 2
fits_words Write count = nat_le 5 count
fits_words Read count = count == 5
fits_words Idle count = count == 3
fits_words Fill count = count == 4
fits_words Code count = count == 4
fits_words Stall count = count == 3
fits_words Latency count = count == 3
fits_words Beat count = count == 7
fits_words Gap count = count == 3

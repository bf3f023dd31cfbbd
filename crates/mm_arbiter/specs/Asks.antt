-- Who asks, as the bits of a number, and whose turn it is by these bits. The lowest bit is that of the first seat.
use Rattle.std.specs.Prelude.{ℕ, zero, suc, ◌+◌, ◌-◌, ◌*◌, ◌^◌, Bool, false, ◌&&◌, if◌then◌else◌, nat_lt, List, [], ◌∷◌, get_or, Option, Some, None}
use Rattle.histories.specs.History.{one_if}

-- the bits as a number
abbrev pub number : List Bool → ℕ
number [] = 0
number (bit ∷ later) = one_if bit + 2 * number later

-- one more, if there is a number
abbrev pub one_more : Option ℕ → Option ℕ
one_more None = None
one_more (Some k) = Some (suc k)

-- the place of the first bit that is high
abbrev pub first_high : List Bool → Option ℕ
first_high [] = None
first_high (bit ∷ later) = if bit then Some 0 else one_more (first_high later)

-- the same bits, but so many low ones are low
abbrev pub past : ℕ → List Bool → List Bool
past zero bits = bits
past (suc k) [] = []
past (suc k) (bit ∷ later) = false ∷ past k later

abbrev pub or_else : Option ℕ → Option ℕ → Option ℕ
or_else None other = other
or_else (Some k) other = Some k

-- the first seat that asks after seat k, else the first that asks
abbrev pub first_after : ℕ → List Bool → Option ℕ
first_after k asks = or_else (first_high (past (suc k) asks)) (first_high asks)

-- the seat as a bit; none is high for nobody
abbrev pub seat_bit : Option ℕ → ℕ
seat_bit None = 0
seat_bit (Some k) = 2 ^ k

-- the holder asks and has shares left
abbrev pub stays_on : ℕ → ℕ → List Bool → Bool
stays_on holder left asks = get_or asks holder false && nat_lt 0 left

-- the seat whose beat is shown: the holder alone while its command is open, or while it stays on; else the first one after it
abbrev pub chosen_seat : Bool → ℕ → ℕ → List Bool → Option ℕ
chosen_seat inside holder left asks =
    if inside then (if get_or asks holder false then Some holder else None)
    else (if stays_on holder left asks then Some holder else first_after holder asks)

-- the holder after a cycle: the one that was chosen
abbrev pub holder_after : ℕ → Option ℕ → ℕ
holder_after holder None = holder
holder_after holder (Some seat) = seat

-- the shares that it has left, where these are those of each seat after its first command
abbrev pub begun_left : List ℕ → Option ℕ → ℕ
begun_left spares None = 0
begun_left spares (Some seat) = get_or spares seat 0

abbrev pub left_after : Bool → ℕ → ℕ → List Bool → List ℕ → ℕ
left_after inside holder left asks spares =
    if inside then left
    else (if stays_on holder left asks then left - 1 else begun_left spares (first_after holder asks))

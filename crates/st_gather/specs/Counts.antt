-- How many words each channel has, side by side.
use Rattle.std.specs.Prelude.{ℕ, ◌+◌, ◌*◌, ◌/◌, ◌%◌, ◌^◌, ◌<◌, ◌≡◌, ◌==◌, ◌&&◌, if◌then◌else◌}
use Rattle.netlist.specs.Nets.{NetValue}
use Rattle.netlist.specs.Runs.{Cycle}

-- the part of this number, of so many bits each, counted from the low-order end
abbrev pub field : ℕ → ℕ → ℕ → ℕ
field bits number parts = parts / 2 ^ (bits * number) % 2 ^ bits

-- of so many values, from one on, the item is the one that has the number of the index's lowest bits among them
abbrev pub Picks : (ℕ → ℕ) → ℕ → ℕ → ℕ → ℕ → ℕ → Type 0
Picks value index bits from count item = (k : ℕ) → k < count → index % 2 ^ bits ≡ k → item ≡ value (from + k)

-- the counts of so many channels a cycle later: the next one for the channel where a word moves, and the same for the others
abbrev pub AreLater : NetValue → NetValue → NetValue → NetValue → ℕ → ℕ → NetValue → Cycle → Type 0
AreLater counts moves channel next bits channels later cycle =
    (k : ℕ) → k < channels
    → field bits k (cycle.net later.number)
    ≡ (if (cycle.net moves.number == 1) && (cycle.net channel.number == k) then cycle.net next.number
    else field bits k (cycle.net counts.number))

-- When a beat transfers.
use Rattle.std.specs.Prelude.{ℕ, ◌||◌, ◌==◌, nat_lt, if◌then◌else◌}

-- `valid` where a beat transfers: behind a ready latency above 0, or where ready is high
abbrev pub moving : ℕ → ℕ → ℕ → ℕ
moving latency valid ready = if nat_lt 0 latency || (ready == 1) then valid else 0

-- The channel port of an end of a stream.
use Rattle.std.specs.Prelude.{ℕ, ◌^◌, ◌<◌, ◌≤◌}

-- an end's largest channel fits its channel port of so many bits; without the port it is 0
pub record HasChannels (bits largest : ℕ) : Type 0 where
  pub few : bits ≤ 16
  pub fits : largest < 2 ^ bits

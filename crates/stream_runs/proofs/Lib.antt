pub mod Beginnings
pub mod WireLaw
pub mod Computed
pub mod StandingStill
pub mod ErrorLemmas
pub mod SameBeginnings
pub mod WaitingSinks

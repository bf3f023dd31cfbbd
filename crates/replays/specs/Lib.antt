pub mod Traces
pub mod Replays
pub mod Texts
pub mod Worked

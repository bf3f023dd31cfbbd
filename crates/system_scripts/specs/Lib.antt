pub mod Clocks
pub mod Sound
pub mod System

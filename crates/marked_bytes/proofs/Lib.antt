pub mod Pushes
pub mod Feeding
pub mod Resting
pub mod Writing
pub mod Readings
pub mod Packets
pub mod Running
pub mod Going

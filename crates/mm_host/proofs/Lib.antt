pub mod Levels
pub mod Memories
pub mod Queues
pub mod Bursts
pub mod BurstRuns
pub mod Machine
pub mod Ignores

pub mod Levels
pub mod Queues
pub mod Waiting
pub mod Rows
pub mod Words
pub mod Machine
pub mod Ignores

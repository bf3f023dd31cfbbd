pub mod Agents
pub mod Reads
pub mod Waits
pub mod Answers
pub mod Forms
pub mod Memories

pub mod Lists
pub mod Inputs
pub mod Growth
pub mod Memories
pub mod Valuations
pub mod Existence
pub mod Ports
pub mod EndlessRuns

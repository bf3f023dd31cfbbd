pub mod Ends
pub mod Simulated

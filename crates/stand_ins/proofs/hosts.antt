pub mod Legality
pub mod Bounds
pub mod Stepping

pub mod Values
pub mod Lines
pub mod Settled
pub mod Rows

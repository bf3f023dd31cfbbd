pub mod Sims
pub mod Standing
pub mod Settled
pub mod Given
pub mod Orders
pub mod Readers
pub mod Registers

pub mod Needed
pub mod Numbers
pub mod Moved
pub mod Pruned
pub mod Inputs

pub mod Levels
pub mod Rows
pub mod Runs

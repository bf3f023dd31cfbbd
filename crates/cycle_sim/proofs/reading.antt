pub mod Values
pub mod Lines
pub mod Blocks
pub mod Reading
pub mod RegisterLists

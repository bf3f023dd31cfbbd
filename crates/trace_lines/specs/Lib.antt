pub mod Spelling
pub mod Names
pub mod Lines
pub mod Told
pub mod Counted
pub mod Sums
pub mod Worked

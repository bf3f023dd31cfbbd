pub mod Rules
pub mod Found
pub mod Spellings
pub mod Readings
pub mod Reads
pub mod Worked
pub mod Walks
pub mod Undumps

pub mod Counting
pub mod Keeping
pub mod Gathering
pub mod Growing

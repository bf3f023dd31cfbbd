pub mod FewBits
pub mod Counts
pub mod Written
pub mod Shifts
pub mod Steps

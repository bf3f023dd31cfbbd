pub mod Changes
pub mod Statements
pub mod Scenarios
pub mod Worked

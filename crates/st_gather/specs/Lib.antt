pub mod Whole
pub mod Counts
pub mod Words
pub mod Gatherers
pub mod Flows

pub mod TextLemmas
pub mod Worked

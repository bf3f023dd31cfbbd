pub mod Pairs
pub mod Links
pub mod Kept
pub mod Widths

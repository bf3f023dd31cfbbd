pub mod Gaps
pub mod Masks
pub mod Narrowed
pub mod Copies
pub mod Rows

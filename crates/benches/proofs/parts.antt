mod Widths
mod Many
pub mod Numbered

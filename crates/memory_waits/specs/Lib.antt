pub mod Waits
pub mod Watched
pub mod Neighbours
pub mod Windows
pub mod Fits
pub mod Examples

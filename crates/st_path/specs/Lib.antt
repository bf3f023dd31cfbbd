pub mod Joining
pub mod Ends
pub mod Serving
pub mod Between
pub mod Parts

pub mod Counted
pub mod ReorderNets
pub mod NarrowNets
pub mod WidenNets
pub mod ClearNets
pub mod ResizeNets
pub mod FormatNets
pub mod FormatStands

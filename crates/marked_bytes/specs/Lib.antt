pub mod Symbols
pub mod Items
pub mod Unpacking
pub mod Steps
pub mod Packing

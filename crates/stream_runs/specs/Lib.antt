pub mod View
pub mod Source
pub mod Symbols
pub mod Delivery
pub mod Awake
pub mod Ends
pub mod Laws
pub mod Rows

pub mod Spots
pub mod Holes
pub mod Operators
pub mod DeclaredLines
pub mod Sections
pub mod ClockedParts
pub mod PortNames
pub mod Faults

pub mod Lists
pub mod Ports
pub mod Ends
pub mod EndFacts
pub mod Numbering
pub mod PortMaps
pub mod Wires

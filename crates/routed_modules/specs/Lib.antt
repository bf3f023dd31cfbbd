pub mod Sizes
pub mod Ports
pub mod Drivers
pub mod Ends
pub mod Demultiplexers
pub mod Multiplexers
pub mod Gatherers
pub mod Routed

pub mod Ports
pub mod ErrorNets
pub mod FilterNets

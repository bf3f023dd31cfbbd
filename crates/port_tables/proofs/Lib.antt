pub mod Names
pub mod Words
pub mod PortForms
pub mod Headers
pub mod Signals
pub mod PortPlaces
pub mod StreamConnections

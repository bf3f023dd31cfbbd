pub mod Decoding
pub mod Levels
pub mod Places
pub mod Latches
pub mod Machine
pub mod WireMachine
pub mod RouteMachine
pub mod Ignores

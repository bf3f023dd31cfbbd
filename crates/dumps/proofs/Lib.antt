mod Ports
mod RunLemmas
pub mod SameRows

pub mod Nets
pub mod Groups
pub use Rattle.net_parts.specs.Levels
pub mod Ports

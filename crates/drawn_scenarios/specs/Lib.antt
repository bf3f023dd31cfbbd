pub mod Draws
pub mod Hosts
pub mod Agents
pub mod Streams
pub mod Drawn
pub mod Worked

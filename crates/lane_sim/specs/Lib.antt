pub mod LaneSims
pub mod Changes
pub mod Planes
pub mod LaneWords

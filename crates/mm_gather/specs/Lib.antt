pub mod Reads
pub mod GatherNets

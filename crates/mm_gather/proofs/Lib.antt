pub mod LaneLaws
pub mod GivenWords
pub mod GatherRun
pub mod Queues
pub mod GatherLaws

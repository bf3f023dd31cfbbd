pub mod Computed
pub mod RightRuns
pub mod Swallowed
pub mod Waiting

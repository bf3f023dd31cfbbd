pub mod Links
pub mod Pairs
pub mod PlanConnections
pub mod Plans

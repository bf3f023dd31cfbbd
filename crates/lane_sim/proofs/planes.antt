pub mod PlaneLemmas
pub mod Halves
pub mod Shifts

pub mod Faults
pub mod Plans
pub mod Scripts
pub mod Systems

pub mod Texts
pub mod Components
pub mod Systems
pub mod Workloads

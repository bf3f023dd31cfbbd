pub mod Routes
pub mod Systems
pub mod Maps
pub mod Shown

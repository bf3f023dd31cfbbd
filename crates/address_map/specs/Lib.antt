pub mod Ends
pub mod Footprints
pub mod MapRules
pub mod Maps

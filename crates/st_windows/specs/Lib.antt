pub mod Cuts
pub mod RowNets
pub mod Rows
pub mod WindowNets

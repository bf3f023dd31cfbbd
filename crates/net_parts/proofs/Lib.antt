pub mod GroupsMade
pub mod RowsGrown

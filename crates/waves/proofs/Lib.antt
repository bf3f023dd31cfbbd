pub mod RowLemmas
pub mod Reading
pub mod LawLemmas
pub mod WordLemmas
pub mod CountLemmas

pub mod Written
pub mod LawLemmas

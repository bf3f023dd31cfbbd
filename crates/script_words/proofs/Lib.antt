pub mod NamesLemmas
pub mod ValueLemmas

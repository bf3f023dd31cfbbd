pub mod BuiltInLemmas
pub mod LibraryLemmas

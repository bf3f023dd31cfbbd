pub mod MemoryLemmas
pub mod OutsideLemmas

pub mod LinkLemmas
pub mod RootLemmas

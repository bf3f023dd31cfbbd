pub mod LawLemmas
pub mod BridgeLemmas
pub mod NotedLemmas

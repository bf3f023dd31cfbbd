pub mod CountLemmas
pub mod LinkLemmas
pub mod PairLemmas
pub mod PlanLemmas
pub mod StreamLemmas
pub mod Worked

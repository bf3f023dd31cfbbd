mod GoingOn
pub mod Growing
mod LegalLemmas
mod AgentBeginnings
mod HostBeginnings
mod StreamBeginnings

pub mod PreparedLemmas
pub mod LawLemmas
mod CampaignLemmas

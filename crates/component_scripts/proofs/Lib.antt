pub mod ComponentDraftLemmas
pub mod RuleLemmas

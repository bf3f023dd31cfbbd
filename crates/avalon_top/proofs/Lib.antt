pub mod FileLemmas
pub mod AnswerLemmas
pub mod OutcomeLemmas

pub mod StepLemmas
pub mod KeepingLemmas
pub mod LegalLemmas
pub mod AnswerLemmas

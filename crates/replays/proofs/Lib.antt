pub mod TextLemmas
pub mod RunLemmas
pub mod LawLemmas
pub mod TextLaws

pub mod ComponentLemmas
pub mod EitherLemmas
pub mod FirstLemmas
pub mod FrontLemmas
pub mod PlanLemmas
pub mod ScriptLemmas
pub mod SystemLemmas

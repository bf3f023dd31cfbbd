pub mod ClockLemmas
pub mod EndingLemmas
pub mod JointLemmas
pub mod SoundLemmas
pub mod StatedLemmas
pub mod SystemDraftLemmas

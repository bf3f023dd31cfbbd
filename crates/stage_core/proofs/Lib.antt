pub mod BeatGroups
pub mod FewBits

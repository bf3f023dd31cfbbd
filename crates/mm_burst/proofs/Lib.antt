mod CutterLaw
mod Levels
mod Steps
pub mod WayLaws

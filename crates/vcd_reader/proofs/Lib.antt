mod Spell
mod Lines
mod Whole
mod Told
mod Sound
mod DumpTold
pub mod Steps
pub mod Numbers
pub mod Runs
pub mod ValueSteps
pub mod RowSteps
pub mod HeaderSteps

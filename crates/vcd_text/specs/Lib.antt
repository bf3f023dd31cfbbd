pub mod Text
pub mod Dumps
pub mod Sinks
pub mod Worked
pub mod CodeLaws

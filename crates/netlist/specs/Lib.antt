pub mod Names
pub mod Nets
pub mod Netlists
pub mod Runs
pub mod Longer
pub mod Signals
pub mod Makers
pub mod Fed

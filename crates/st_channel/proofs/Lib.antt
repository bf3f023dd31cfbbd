pub mod Growing
pub mod Numbers
pub mod Comparing
pub mod Raising
pub mod FilterLaw
pub mod ErrorLaw

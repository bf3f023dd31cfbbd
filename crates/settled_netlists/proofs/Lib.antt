pub mod Lists
pub mod Given
pub mod Rounds
pub mod Constants
pub mod Same
pub mod Copying

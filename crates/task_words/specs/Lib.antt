pub mod Words
pub mod OneTask
pub mod Asking
pub mod OneModule

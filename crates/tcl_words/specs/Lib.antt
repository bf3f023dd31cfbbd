pub mod Bytes
pub mod FirstFault
pub mod Reading
pub mod Rules
pub mod Script
pub mod Spelling

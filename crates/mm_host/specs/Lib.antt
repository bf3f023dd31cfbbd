pub mod Hosts
pub mod Queued
pub mod Reads
pub mod Writes
pub mod Forms

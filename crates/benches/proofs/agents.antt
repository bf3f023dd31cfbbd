mod Reading
mod Outputs
mod Telling
mod Showing
mod Making
mod Many

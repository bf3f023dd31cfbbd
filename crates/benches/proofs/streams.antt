mod Links
mod Part
mod Lines
mod Keeping

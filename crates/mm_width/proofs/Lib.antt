mod Bursts
mod Machines
mod Rooms
mod Rows
mod Tags
mod Takes
mod Wires
pub mod Numbers

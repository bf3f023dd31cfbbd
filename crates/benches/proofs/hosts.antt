mod Widths
mod HostEnds
mod Gathering
mod Taking

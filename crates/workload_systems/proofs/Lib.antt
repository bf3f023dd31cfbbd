mod Spelled
mod Accepting
mod Computed
mod Residues
mod Accepted
mod Writing

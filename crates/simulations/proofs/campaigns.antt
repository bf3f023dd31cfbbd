mod Many
mod Rows
mod Cycles
mod Begun

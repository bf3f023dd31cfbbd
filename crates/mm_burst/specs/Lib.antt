pub mod Pieces
pub mod CutterNets
pub mod Ways

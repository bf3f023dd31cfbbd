mod CountNets
mod CutLemmas
mod CutNets
mod RowWidths
mod WindowLaw
mod WindowRows
mod WordLemmas
pub mod ClearWindow

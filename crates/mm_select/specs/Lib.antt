pub mod Queue
pub mod SelectNets
pub mod Laws

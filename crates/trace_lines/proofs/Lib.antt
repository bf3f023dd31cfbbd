mod EndNames
pub mod CountLemmas
pub mod ToldLemmas

mod ApartLemmas
mod BlockLemmas

pub mod Following
pub mod Turning
pub mod WordParts
pub mod DemultiplexerLaw
pub mod MultiplexerLaw
pub mod GathererLaw

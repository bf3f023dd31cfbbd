pub mod PlaceLaws
pub mod SelectRun

pub mod Ends
pub mod TieNets
pub mod TransferNets
pub mod DelayNets
pub mod PromiseNets
pub mod BufferNets
pub mod AllowanceNets
pub mod TimingNets

pub mod ClosedRun

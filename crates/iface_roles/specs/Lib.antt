pub mod Held
pub mod Kinds
pub mod Names
pub mod Proper
pub mod Properties
pub mod Records
pub mod Roles
pub mod Rules

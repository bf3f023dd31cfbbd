pub mod Laws
pub mod Wire
pub mod Held
pub mod Between
pub mod ChainAnswers
pub mod Lag
pub mod Greatest
pub mod ChainCodes
pub mod Path
pub mod Rows
pub mod Pipes
pub mod Settle
pub mod Flows
pub mod Parts
pub mod Headline
pub mod Back
pub mod Limits
pub mod Whole
pub mod TurnOrder
pub mod Gathered
pub mod Safe
pub mod Responses
pub mod RegisterBeats
pub mod RegisterLegal
pub mod RegisterTags
pub mod OnePipe
pub mod PipeRow
pub mod TagOrder
mod Lasting
mod Flow
mod Chained
mod WireRank
mod OnePlace
pub mod Stage
pub mod StageLink
pub mod Pieces
pub mod Expander
pub mod ExpanderLink
mod Alike
pub mod Joined
pub mod Split
pub mod StageRank
pub mod Select
pub mod SelectLink
mod WireStraight
mod WireMoves
mod FairTurns
mod Boundaries

-- The laws of the node table, with no code in sight.
pub mod KindNumbers
pub mod KindRule
pub mod Accept
pub mod Answers
pub mod Sound
pub mod Unfolded
pub mod Nodes
pub mod Refusals

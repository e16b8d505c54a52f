-- The definitions of the node table, in the order in which they stand on each other.
pub mod Refusal
pub mod Kinds
pub mod Node
pub mod Fault
pub mod Parts
pub mod Unfold
pub mod Document
pub mod Sound
pub mod Valid

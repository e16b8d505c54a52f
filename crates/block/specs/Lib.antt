-- The definitions of the block layouts: what is added, what a run of parts leaves and asks, and the document.
pub mod Affixes
pub mod Block
pub mod Run
pub mod Operands
pub mod Documents

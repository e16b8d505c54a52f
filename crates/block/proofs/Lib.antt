-- The laws of the block layouts, with no code in sight: lists of affixes and runs of parts first, then each part.
mod Heads
mod Chain
mod Layers
mod Steps
mod Groups
mod Backward
mod Loops
mod Splits
mod Starts
mod Places
mod Asking
mod Meaning
pub mod Alternatives

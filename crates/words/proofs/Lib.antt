-- The laws of cutting words and of building nodes, with no code in sight.
pub mod Chain
mod Cutting
pub mod Filling

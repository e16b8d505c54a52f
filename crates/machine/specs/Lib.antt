-- The layout rules as an engine walks them: a list of what waits, and one turn after another.
pub mod Waiting
pub mod Fit
pub mod Turn
pub mod Well
pub mod Reached

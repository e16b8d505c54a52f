-- Which words of the work area hold what, and how it is read as a list of what waits.
pub mod Area
pub mod Stack

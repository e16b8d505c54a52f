-- Laws of a turn, for those who lay a table out.
pub mod Arms

-- Where a mark is open.
pub mod Marks

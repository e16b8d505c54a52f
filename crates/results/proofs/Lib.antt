-- The laws of reading results, with no code in sight.
pub mod Digits
pub mod Saying
pub mod Walking
pub mod Marks

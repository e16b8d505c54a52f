-- The laws of writing one behind the other, with no code in sight.
pub mod Digits
pub mod Appending

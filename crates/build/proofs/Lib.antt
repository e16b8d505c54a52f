-- The laws of the constructors, with no code in sight: what grows, what has room, each constructor part by part, and what is promised.
pub mod Handed
pub mod Grow
pub mod Room
pub mod Stand
mod Counting
mod Stores
mod Words
mod Choices
mod Stays
mod Leaf
mod Texts
mod Lines
mod Softlines
mod Hangs
mod Indents
pub mod Joins
mod Concats
mod Separated
pub mod Only
pub mod Clean
pub mod Says
pub mod Means
pub mod Compose
pub mod Promises
pub mod Lent
pub mod Unique

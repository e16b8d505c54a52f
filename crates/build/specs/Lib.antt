-- The definitions of the constructors, in the order in which they stand on each other.
pub mod Draft
pub mod Parts
pub mod Solid
pub mod Outcome
pub mod Constructors
pub mod Documents
pub mod Promise

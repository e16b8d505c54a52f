-- The laws of a run of stores, and of text bytes.
pub mod Put
pub mod Octets
pub mod Reading
pub mod Placing
pub mod ByLine

-- What a run of stores leaves of a buffer, and what text bytes are well-formed.
pub mod Run
pub mod Utf8
pub mod Reader
pub mod Parts
pub mod Placing
pub mod Lines

-- What the lists of numbers are, the bases they are written in, and what their numbers are as bytes.
pub mod Numbers
pub mod Bases
pub mod Bytes

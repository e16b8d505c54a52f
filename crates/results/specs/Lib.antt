-- What a chest's test results say, what is within tolerance, and how the lines of an input stand to it.
pub mod Numbers
pub mod Pallets
pub mod Tolerance
pub mod Marks
pub mod Standing

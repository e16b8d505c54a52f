-- Bytes written one behind the other, and how a number is written.
pub mod Append
pub mod Decimal

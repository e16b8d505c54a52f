-- How the code's page is read, and what its functions promise.
pub mod Reading
pub mod Putting

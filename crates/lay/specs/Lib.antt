-- How the code's state is read, and what its functions promise.
pub mod Turning

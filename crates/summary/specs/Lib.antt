-- What a node's summary says, and what the functions over it promise.
pub mod Summary
pub mod Promise

-- What the call and its functions promise.
pub mod Promise

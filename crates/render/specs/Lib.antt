-- What the engine's functions promise, over the step function.
pub mod Visit
pub mod TakeUp
pub mod Best

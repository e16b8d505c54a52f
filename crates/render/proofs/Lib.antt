-- Laws of the engine, for its proofs.
mod Visits
mod Rising
mod Turns
mod Coming
mod Going
mod Again

-- Laws of the walk over what waits.
mod Walk

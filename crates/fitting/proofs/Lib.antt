-- Laws of the fit test's code.
mod Arms
mod Walk
mod Row

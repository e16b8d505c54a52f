-- What the fit test's functions promise.
pub mod Fitting

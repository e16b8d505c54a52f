-- Laws of the call, and what every outcome says.
mod Asked
mod Visits
pub mod Outcomes

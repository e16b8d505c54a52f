-- Laws that the exports' proofs cite, and the demands of the exported layouts.
pub mod Answering
pub mod Demands
pub mod WhyExports
mod Making
mod Flags

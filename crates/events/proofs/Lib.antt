-- Laws of event records that the proofs cite, and the demands of the call over records.
pub mod Filled
pub mod Published
pub mod Staging
pub mod Demands

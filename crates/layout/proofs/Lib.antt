-- Laws of a whole call, and the demands: for every form of a call, and for the calls over words.
mod Words
pub mod Whole
pub mod Returned
pub mod Demands

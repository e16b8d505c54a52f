-- Laws of the work area, for those who push on it and read it.
pub mod Laws

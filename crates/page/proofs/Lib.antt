-- Laws of the code's page, for those who write on it.
pub mod Events
pub mod Pages

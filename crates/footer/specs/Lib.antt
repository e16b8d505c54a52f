-- What the footer is: its document.
pub mod Documents

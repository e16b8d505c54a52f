-- What a row is: its bytes, its remark, its document.
pub mod Fields
pub mod Remark
pub mod Documents

-- What a text comes to: its columns, its words, its documents, what the functions that build nodes promise, and the nodes that all share.
pub mod Widths
pub mod Words
pub mod Documents
pub mod Build
pub mod Start

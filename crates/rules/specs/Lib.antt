-- Document 01 as definitions: the layout rules, a whole call, and the laws of demand 3. And document 02's: why a group broke.
pub mod Layout
pub mod Call
pub mod Law
pub mod Why
pub mod Pieces

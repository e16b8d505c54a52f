-- What the public calls promise, and what demands 1 and 3 ask of any form of them.
pub mod Called
pub mod Demands

-- Laws of the step function: what a turn keeps and so what bounds a run, how a run ends by the rules, and that the step function ends where the rules end.
pub mod Kept
pub mod Bounds
pub mod Due
pub mod Ends
pub mod Tested
pub mod Rules

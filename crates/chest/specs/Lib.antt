-- What the main job's sheet is: its document, and what the functions that build it promise.
pub mod Documents
pub mod Build

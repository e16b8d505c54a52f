-- Laws of summaries, with no code in sight; then what they say of a table's node, by its kind word.
pub mod Laws
mod Arms
mod Steps

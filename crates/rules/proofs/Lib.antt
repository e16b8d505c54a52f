-- What follows from the definitions, with no code in sight.
-- computed: how a case is written and tested, document 01's marked cases, and the readings of its open points
pub mod Case
pub mod Marked
mod Readings
-- demand 3: what a document means, the laws as equations of meanings, that a run meets its meaning, and the theorem
pub mod Meaning
pub mod Laws
pub mod Bridge
pub mod Hold
pub mod Demand3
-- computed: a pair of tables for each law, and what is not a law
mod Pairs
mod Examples
mod NotLaws
-- every run keeps its limits, what a call answers, and what its buffers hold
pub mod Bounds
pub mod Answers
pub mod Cleared
-- why a group broke: what the fit test says, and that the reason is the first node met that breaks or ends it
pub mod Reasons
pub mod FirstMet
-- computed: the request's cases
mod WhyCases
-- every line feed in the output is a Hardline's
pub mod Feeds
-- like trees run alike
pub mod Like
-- random calls, with the answers of the interpreter in compare
pub mod Sample

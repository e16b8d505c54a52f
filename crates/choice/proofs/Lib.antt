-- The laws of tests and choices, with no code in sight.
pub mod Tests

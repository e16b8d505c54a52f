-- The laws of marks, with no code in sight.
pub mod Opening

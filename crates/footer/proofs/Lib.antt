-- The laws of the footer, with no code in sight.
mod Digits
mod Footing

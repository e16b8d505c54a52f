-- What a slice of event records holds, and what a call over one promises.
pub mod Records
pub mod Called

-- What a tidy line says.
pub mod Tidy

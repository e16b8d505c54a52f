-- What the exports promise: the layouts; the constructors and the block layouts by number; why a group broke.
pub mod Exported
pub mod Building
pub mod WhyExported

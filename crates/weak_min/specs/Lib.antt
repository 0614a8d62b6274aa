pub mod Quotients
pub mod FractionClasses
pub mod Shapes

pub mod Passing
pub mod WholeStatements

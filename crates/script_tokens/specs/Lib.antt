pub mod Kinds
pub mod Tokens
pub mod Lexing
pub mod Shape
pub mod Naming
pub use Rattle.parser_laws.specs.Parsing
pub use Rattle.parser_laws.specs.Placed
pub use Rattle.formula_core.specs.Names

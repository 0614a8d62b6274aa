pub mod Answers
pub use Rattle.script_meaning.specs.Resolving
pub use Rattle.script_pieces.specs.Taking

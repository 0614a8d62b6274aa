pub mod Turns
pub mod Closures
pub use Rattle.matrix_powers.specs.Matrices
pub use Rattle.matrix_powers.specs.Powers
pub use Rattle.matrix_powers.specs.Orbits
pub use Rattle.term_substitution.specs.Substitution

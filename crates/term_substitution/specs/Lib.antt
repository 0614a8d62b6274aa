pub mod Substitution
pub mod Values
pub mod Conditions
pub mod Limits
pub mod Weights
pub mod Passing
pub use Rattle.lash_model.specs.Formulas
pub use Rattle.lash_model.specs.Meaning

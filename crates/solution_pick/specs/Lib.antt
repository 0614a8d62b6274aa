pub mod Solutions
pub mod FractionSolutions
pub mod FractionSearches

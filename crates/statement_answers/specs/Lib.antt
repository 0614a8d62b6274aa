pub mod Loops
pub mod Automata
pub mod Keeping
pub mod Pieces

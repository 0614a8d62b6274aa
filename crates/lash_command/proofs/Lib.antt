mod Letters
mod GivenSets
mod LoopBodies
mod Fitting
mod Coming
mod Turning
pub mod Endings

pub mod Marks
pub mod WeakForms
pub mod TornWords
pub mod NoWeak
pub mod LeastWords

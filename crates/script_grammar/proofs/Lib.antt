pub mod Spellings
pub mod TermsGood
pub mod FormulasGood
pub mod StatementsGood
pub mod Answers

pub mod Fractions
pub mod LongDivision
pub mod FixedCodes
pub mod Reading
pub mod DigitText
pub mod Steps

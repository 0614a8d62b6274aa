pub mod Coefficients
pub mod Counting
pub mod Judging
pub mod Placing
pub mod Calling
pub mod Valuing
pub mod Connecting
pub mod CallValues

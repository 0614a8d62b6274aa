pub mod Cutting
pub mod Passing
pub mod Slices
pub mod Opening
pub mod Fetching
pub mod OneCut

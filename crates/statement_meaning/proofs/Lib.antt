pub mod Members
pub mod SortLists
pub mod Filling
pub mod Excluding

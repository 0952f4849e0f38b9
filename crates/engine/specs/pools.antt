pub mod Sizes
pub mod Entries
pub mod Pools
pub mod Rows
pub mod Valid

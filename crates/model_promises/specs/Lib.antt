pub mod Loads
pub mod Samples
pub mod Across
pub mod Promises
pub mod One

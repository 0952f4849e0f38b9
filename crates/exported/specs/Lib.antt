pub mod Bytes
pub mod Calls
pub mod Laws
pub mod Answers
pub mod Sizes

pub mod Tests
pub mod Below
pub mod Groups
pub mod Lists
pub mod Masks
pub mod Stores

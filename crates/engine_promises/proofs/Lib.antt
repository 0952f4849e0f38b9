pub mod Pools
pub mod Places
pub mod Refusals
pub mod Steps
pub mod Always
pub mod TapeRuns
pub mod One

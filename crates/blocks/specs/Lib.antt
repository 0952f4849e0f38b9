pub mod Checks
pub mod Blocks
pub mod Made
pub mod Verdicts

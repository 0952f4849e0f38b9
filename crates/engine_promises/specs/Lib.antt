pub mod Runs
pub mod Exact
pub mod Moves
pub mod Reserves

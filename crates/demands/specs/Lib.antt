pub mod Answers
pub mod Shares
pub mod Due
pub mod Ends
pub mod Orchard
pub mod Engines
pub mod Marked
pub mod Met

pub mod Reads
pub mod Refusals
pub mod Spine
pub mod Tapes

pub mod pools
pub mod configs
pub mod commands
pub mod Steps
pub mod Tapes
pub mod inner

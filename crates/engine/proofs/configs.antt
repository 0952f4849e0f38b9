pub mod Good
pub mod ModelFacts
pub mod IndexFacts
pub mod ValidLaws
pub mod FaultLaws
pub mod ShareLaws
pub mod Defaults

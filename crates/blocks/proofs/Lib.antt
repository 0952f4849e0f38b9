pub mod FoldLaws
pub mod BlockLaws
pub mod Made
pub mod MakingLaws

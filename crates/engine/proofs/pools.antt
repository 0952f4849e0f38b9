pub mod PoolLaws
pub mod EntryLaws
pub mod AppendLaws

-- The laws of pools and configurations that other crates cite.
pub use Rattle.engine.proofs.pools.EntryLaws.{delivered_length, delivered_none, withdrawn_none}
pub use Rattle.engine.proofs.pools.PoolLaws.{delivered_same, held_delivered, held_pooled, held_taken, held_withdrawn}
pub use Rattle.engine.proofs.pools.AppendLaws.{held_appended, place_free}
pub use Rattle.engine.proofs.configs.Good.{GoodSubject, GoodConfig}
pub use Rattle.engine.proofs.configs.IndexFacts.{few_rows, state_there_lem}
pub use Rattle.engine.proofs.configs.ModelFacts.{n_low, n_high, subject_there, state_right_lem}
pub use Rattle.engine.proofs.configs.ValidLaws.{at_put_same, at_put_other, at_each, each_put, fresh_held, fresh_valid, fresh_there, fresh_gone, config_good, if_true, true_if}

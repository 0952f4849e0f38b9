-- What validity tells of a model, for the layers above.
pub use Rattle.model.proofs.Facts.{model_good}

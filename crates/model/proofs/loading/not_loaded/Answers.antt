use Rattle.model.proofs.loading.not_loaded.Goals as goal

pub returns : goal.returns
returns c = rw c.empty_model.ensures

use mathlib.Core.Path.{refl}
use mathlib.Core.List.{[], ◌∷◌}
use Rattle.sets.specs.Stores.{each_of}
use Rattle.sets.proofs.Stores.{chained, chained_from, chained_stored, stored_more}
use Rattle.exported.proofs.config_bytes.put_numbers.Goals as goal

pub returns : goal.returns
unfolding chained chained_from each_of
returns c = stored_more _ _ _ _ (_ ∷ []) 0 8 c.put_all.ensures (chained_stored _ 8 (_ ∷ [])) refl

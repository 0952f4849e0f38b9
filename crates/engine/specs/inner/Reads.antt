-- What the code reads of a model and a configuration where it decides validity. No public contract cites this file.
use Rattle.std.specs.Prelude.{Bool, List, ℕ, ◌+◌, ◌*◌, ◌%◌, get_or}
use Rattle.sets.specs.Below.{all_below, table}
use Rattle.model.specs.Sizes.{most_subjects, most_states}
use Rattle.model.specs.Valid.{state_at}
use Rattle.model.specs.declared.Model.{Model}
use Rattle.model.specs.declared.State.{State}
use Rattle.engine.specs.configs.Subjects.{at}
use Rattle.engine.specs.configs.Valid.{place_right}
use Rattle.engine.specs.declared.Config.{Config}

-- the place in the model of the state in which subject s is; a state that is not there is looked for where there is one
abbrev pub place_here : Config → ℕ → ℕ
place_here c s = s * most_states + (at c s).state % most_states

-- the state there
abbrev pub read_here : Model → Config → ℕ → State
read_here m c s = state_at m (place_here c s)

-- the mask of each subject
abbrev pub masks_of : Config → List ℕ
masks_of c = table (λ s. (at c s).mask) most_subjects

-- the masks of the n subjects say where there are reservations of the types
unfoldable pub places_of : ℕ → List ℕ → Config → Bool
places_of n types c = all_below (λ r. all_below (λ s. place_right s (at c s).mask (get_or types s 0) r (at c r).pool) n) n

-- Refusal 5 alone: the rules that ask for more than one record.
use Rattle.std.specs.Prelude.{Bool, true, ◌&&◌, not, cond, List, ℕ, ◌+◌, ◌*◌, ◌/◌, ◌%◌, ltb, leb, eqb}
use Rattle.sets.specs.Below.{all_below}
use Rattle.model.specs.Decoded.{model_of, in_place}
use Rattle.model.specs.Rules.{end_kind, state_reaches, exit_reaches, row_reaches}
use Rattle.model.specs.Sizes.{most_subjects, most_states, state_places, most_exits, most_exits_in_all, most_rows}
use Rattle.model.specs.Valid.{subject_at, state_at, exit_at, row_at, kind_at, start_right, exits_in_all}
use Rattle.model.specs.declared.Model.{Model}

-- the initial state of subject s exists and is no end
unfoldable pub initial_there : Model → ℕ → Bool
initial_there m s =
    cond (ltb s m.n)
    (ltb (subject_at m s).initial (subject_at m s).states && not (eqb (kind_at m.states (s * most_states + (subject_at m s).initial)) end_kind))
    true

-- the sender of every row of subject s exists
unfoldable pub rows_there : Model → ℕ → Bool
rows_there m s = all_below (λ k. cond (ltb k (subject_at m s).rows) (row_reaches m.n (row_at (subject_at m s) k)) true) most_rows

-- the targets, senders and receivers of the state at place p and of its exits exist
unfoldable pub state_there : Model → ℕ → Bool
state_there m p =
    cond (ltb (p % most_states) (subject_at m (p / most_states)).states) (state_reaches m.n (subject_at m (p / most_states)).states (state_at m p)) true
    && all_below (λ x. cond (ltb x (state_at m p).exits) (exit_reaches m.n (subject_at m (p / most_states)).states (exit_at (state_at m p) x)) true) most_exits

-- all that refusal 5 lists
unfoldable pub row_five : List ℕ → Bool
row_five file =
    in_place file
    && start_right (model_of file).n (model_of file).start
    && all_below (initial_there (model_of file)) most_subjects
    && all_below (rows_there (model_of file)) most_subjects
    && all_below (state_there (model_of file)) state_places
    && leb (exits_in_all (model_of file)) most_exits_in_all

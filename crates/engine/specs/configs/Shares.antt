-- The yes/no for a pool, of so many places: whether it is shared out among its senders.
use Rattle.std.specs.Prelude.{Bool, ◌&&◌, ◌||◌, not, cond, ℕ, eqb, leb, ltb, Result, Ok, Err}
use Rattle.sets.specs.Below.{all_below, some_below, sum_below}
use Rattle.sets.specs.Masks.{bit}
use Rattle.model.specs.Rules.{any}
use Rattle.model.specs.Valid.{subject_at, row_at, valid}
use Rattle.model.specs.declared.Model.{Model}
use Rattle.model.specs.declared.Row.{Row}
use Rattle.model.specs.declared.State.{State}
use Rattle.model.specs.declared.Subject.{Subject}
use Rattle.engine.specs.configs.Subjects.{is_send, state_of}
use Rattle.engine.specs.declared.NotAsked.{NotAsked}
use Rattle.engine.specs.declared.NotAsked.TheVariants.{ModelNotValid, NoSubject}

-- the row names one sender, for all message types
abbrev pub row_names : Row → Bool
row_names w = not (eqb w.sender any) && eqb w.typ any

-- every limit row names one sender for all message types
unfoldable pub rows_name : Subject → Bool
rows_name own = all_below (λ k. row_names (row_at own k)) own.rows

-- no sender twice
unfoldable pub none_twice : Subject → Bool
none_twice own = all_below (λ k. all_below (λ j. not (eqb (row_at own j).sender (row_at own k).sender)) k) own.rows

-- a row for the sender
unfoldable pub has_row : Subject → ℕ → Bool
has_row own s = some_below (λ k. eqb (row_at own k).sender s) own.rows

-- the state is a send and names the owner
abbrev pub sends_to : ℕ → State → Bool
sends_to owner st = is_send st.kind && bit st.receivers owner

-- subject s has a send state that names the owner
unfoldable pub can_send : Model → ℕ → ℕ → Bool
can_send m owner s = some_below (λ t. sends_to owner (state_of m s t)) (subject_at m s).states

-- a row for each subject with a send state that names the owner
unfoldable pub senders_have_rows : Model → ℕ → Bool
senders_have_rows m owner = all_below (λ s. not (can_send m owner s) || has_row (subject_at m owner) s) m.n

-- limits that add up to no more than the places
unfoldable pub limits_fit : ℕ → Subject → Bool
limits_fit places own = leb (sum_below (λ k. (row_at own k).limit) own.rows) places

unfoldable pub shared_out : ℕ → Model → ℕ → Bool
shared_out places m owner =
    ((rows_name (subject_at m owner) && none_twice (subject_at m owner)) && limits_fit places (subject_at m owner)) && senders_have_rows m owner

-- 8: model not valid; 11: no such subject; else yes or no
unfoldable pub share_of : ℕ → Model → ℕ → Result Bool NotAsked
share_of places m owner = cond (valid m) (cond (ltb owner m.n) (Ok (shared_out places m owner)) (Err NoSubject)) (Err ModelNotValid)

-- A configuration: for each subject its mode, state, ticks waited, word, the mask of receivers with a place, closed marks and pool.
use Rattle.std.specs.Prelude.{◌≡◌, Bool, cond, [], ℕ, ◌+◌, ◌*◌, ◌^◌, ◌<◌, eqb, length, get_or, set, replicate}
use Rattle.sets.specs.Below.{table}
use Rattle.model.specs.Sizes.{most_subjects, most_states}
use Rattle.model.specs.Valid.{state_at}
use Rattle.model.specs.declared.Model.{Model}
use Rattle.model.specs.declared.State.{State}
use Rattle.engine.specs.pools.Sizes.{most_entries}
use Rattle.engine.specs.pools.Pools.{held, has_message, pooled}
use Rattle.engine.specs.declared.Pool.{Pool}
use Rattle.engine.specs.declared.Config.{Config}
use Rattle.engine.specs.declared.Subject.{Subject}

-- ---- modes and kinds of states

abbrev pub asleep : ℕ
asleep = 0

abbrev pub running : ℕ
running = 1

abbrev pub ended_properly : ℕ
ended_properly = 2

abbrev pub ended_improperly : ℕ
ended_improperly = 3

abbrev pub is_send : ℕ → Bool
is_send kind = eqb kind 2

abbrev pub is_end : ℕ → Bool
is_end kind = eqb kind 7

-- ---- looking things up

-- past the end of the array: nothing
abbrev pub no_one : Subject
no_one = record { mode = 0; state = 0; waited = 0; word = 0; mask = 0; closed = []; pool = record { entries = []; count = 0 } }

abbrev pub at : Config → ℕ → Subject
at c s = get_or c.subjects s no_one

-- state t of subject s
abbrev pub state_of : Model → ℕ → ℕ → State
state_of m s t = state_at m (s * most_states + t)

-- the state in which subject s is
abbrev pub here_of : Model → Config → ℕ → State
here_of m c s = state_of m s (at c s).state

-- ---- changing things

-- subject s becomes x
abbrev pub put : Config → ℕ → Subject → Config
put c s x = record { subjects = set c.subjects s x }

-- subject r becomes f r of what it was, for each r
unfoldable pub each_subject : (ℕ → Subject → Subject) → Config → Config
each_subject f c = record { subjects = table (λ r. f r (at c r)) most_subjects }

abbrev pub with_word : ℕ → Subject → Subject
with_word w x = record { mode = x.mode; state = x.state; waited = x.waited; word = w; mask = x.mask; closed = x.closed; pool = x.pool }

abbrev pub with_waited : ℕ → Subject → Subject
with_waited w x = record { mode = x.mode; state = x.state; waited = w; word = x.word; mask = x.mask; closed = x.closed; pool = x.pool }

abbrev pub with_mask : ℕ → Subject → Subject
with_mask w x = record { mode = x.mode; state = x.state; waited = x.waited; word = x.word; mask = w; closed = x.closed; pool = x.pool }

abbrev pub with_pool : Pool → Subject → Subject
with_pool p x = record { mode = x.mode; state = x.state; waited = x.waited; word = x.word; mask = x.mask; closed = x.closed; pool = p }

-- entering a state: state set, waited 0, mask 0, and for an end the mode becomes 3 if a message is left in the own pool, else 2
unfoldable pub entered : ℕ → Bool → Subject → Subject
entered t end x =
    record {
      mode = cond end (cond (has_message (held x.pool)) ended_improperly ended_properly) x.mode;
      state = t;
      waited = 0;
      word = x.word;
      mask = 0;
      closed = x.closed;
      pool = x.pool;
    }

-- subject s, as it is now, enters a state
abbrev pub enters : Config → ℕ → ℕ → Bool → Config
enters c s t end = put c s (entered t end (at c s))

-- a subject that is not there: all zero
unfoldable pub nobody : Subject
nobody = record { mode = 0; state = 0; waited = 0; word = 0; mask = 0; closed = replicate most_subjects 0; pool = pooled most_entries [] }

-- the all-zero configuration
unfoldable pub zero_config : Config
zero_config = record { subjects = replicate most_subjects nobody }

-- ---- what the machine can hold

-- arrays of their length and masks of their width: every Config in the machine is so
pub record Held (c : Config) : Type 0 where
  pub subjects : length c.subjects ≡ most_subjects
  pub marks : (s : ℕ) → s < most_subjects → length (at c s).closed ≡ most_subjects
  pub entries : (s : ℕ) → s < most_subjects → length (at c s).pool.entries ≡ most_entries
  pub masks : (s : ℕ) → s < most_subjects → (at c s).mask < 2 ^ most_subjects

-- What validity tells of a configuration, subject by subject and pool by pool.
use mathlib.Core.Path.{◌≡◌}
use mathlib.Core.Bool.{true, cond}
use Prim.Native.Nat.{ℕ, ◌≤◌, ◌<◌}
use Rattle.sets.specs.Lists.{all_of}
use Rattle.sets.specs.Masks.{bit}
use Rattle.model.specs.Rules.{any}
use Rattle.model.specs.Sizes.{most_subjects}
use Rattle.model.specs.Valid.{subject_at}
use Rattle.model.specs.declared.Model.{Model}
use Rattle.engine.specs.pools.Sizes.{most_entries}
use Rattle.engine.specs.pools.Pools.{held, has_message, reservations, Well}
use Rattle.engine.specs.pools.Rows.{rows_kept}
use Rattle.engine.specs.pools.Valid.{entry_valid}
use Rattle.engine.specs.configs.Subjects.{ended_improperly, nobody, at, state_of, here_of}
use Rattle.engine.specs.configs.Valid.{fields_right, marks_right, type_of}
use Rattle.engine.specs.declared.Config.{Config}
use Rattle.engine.specs.declared.Subject.{Subject}

-- of subject s by itself
pub record GoodSubject (m : Model) (s : ℕ) (x : Subject) : Type 0 where
  pub fields : fields_right (subject_at m s) (state_of m s x.state) x ≡ true
  pub marks : marks_right m.n x ≡ true
  pub well : Well most_entries x.pool
  pub entries : all_of (entry_valid m.n) (held x.pool) ≡ true
  pub rows : rows_kept (subject_at m s) (held x.pool) ≡ true
  pub message : x.mode ≡ ended_improperly → has_message (held x.pool) ≡ true

-- of all: subjects that are there, those that are not, and where each sender has a place
pub record GoodConfig (m : Model) (c : Config) : Type 0 where
  pub subject : (s : ℕ) → s < m.n → GoodSubject m s (at c s)
  pub absent : (s : ℕ) → m.n ≤ s → s < most_subjects → at c s ≡ nobody
  pub one : (r s : ℕ) → r < m.n → s < m.n → reservations s any (held (at c r).pool) ≡ cond (bit (at c s).mask r) 1 0
  pub typed : (r s : ℕ) → r < m.n → s < m.n → reservations s (type_of (here_of m c s)) (held (at c r).pool) ≡ cond (bit (at c s).mask r) 1 0

-- every pool stores its list
abbrev pub WellPools : Config → Type 0
WellPools c = (r : ℕ) → r < most_subjects → Well most_entries (at c r).pool

-- Take (subject, exit), receive: the earliest message that matches the exit is removed, its content becomes the word.
use Rattle.std.specs.Prelude.{Bool, ℕ, Option, Some, None}
use Rattle.model.specs.Valid.{exit_at}
use Rattle.model.specs.declared.State.{State}
use Rattle.engine.specs.pools.Sizes.{most_entries}
use Rattle.engine.specs.pools.Pools.{held, first_message, taken_at}
use Rattle.engine.specs.configs.Subjects.{at, put, with_word, with_pool, entered}
use Rattle.engine.specs.declared.Config.{Config}
use Rattle.engine.specs.declared.Subject.{Subject}

-- the earliest message that matches the exit's sender and type
abbrev pub wanted_at : State → ℕ → Subject → Option ℕ
wanted_at here e x = first_message (exit_at here e).sender (exit_at here e).typ (held x.pool)

-- it is removed, its content becomes the word, the target is entered
abbrev pub taken_as : State → Bool → ℕ → ℕ → Subject → Subject
taken_as here end e i x = entered (exit_at here e).target end (with_word (taken_at most_entries x.pool i).content (with_pool (taken_at most_entries x.pool i).pool x))

unfoldable pub taking_at : Option ℕ → State → Bool → Config → ℕ → ℕ → Config
taking_at (Some i) here end c s e = put c s (taken_as here end e i (at c s))
taking_at None here end c s e = c

unfoldable pub taking : State → Bool → Config → ℕ → ℕ → Config
taking here end c s e = taking_at (wanted_at here e (at c s)) here end c s e

-- Do (subject, exit, word), internal: the word is set, the exit's target entered.
use Rattle.std.specs.Prelude.{Bool, ℕ}
use Rattle.model.specs.Valid.{exit_at}
use Rattle.model.specs.declared.State.{State}
use Rattle.engine.specs.configs.Subjects.{at, put, with_word, entered}
use Rattle.engine.specs.declared.Config.{Config}
use Rattle.engine.specs.declared.Subject.{Subject}

-- the word is set, the exit's target entered
abbrev pub done_as : State → Bool → ℕ → ℕ → Subject → Subject
done_as here end e w x = entered (exit_at here e).target end (with_word w x)

unfoldable pub doing : State → Bool → Config → ℕ → ℕ → ℕ → Config
doing here end c s e w = put c s (done_as here end e w (at c s))

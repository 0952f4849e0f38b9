-- The fresh start.
use Rattle.std.specs.Prelude.{cond, [], ℕ, ltb, replicate}
use Rattle.sets.specs.Below.{table}
use Rattle.sets.specs.Masks.{bit}
use Rattle.model.specs.Sizes.{most_subjects}
use Rattle.model.specs.Valid.{subject_at, valid}
use Rattle.model.specs.declared.Model.{Model}
use Rattle.engine.specs.pools.Sizes.{most_entries}
use Rattle.engine.specs.pools.Pools.{pooled}
use Rattle.engine.specs.configs.Answers.{refused, done}
use Rattle.engine.specs.configs.Subjects.{asleep, running, nobody, zero_config}
use Rattle.engine.specs.declared.Config.{Config}
use Rattle.engine.specs.declared.Stepped.{Stepped}
use Rattle.engine.specs.declared.Subject.{Subject}

-- in its initial state, running or asleep; word, mask, wait 0; pool empty and open
unfoldable pub starting : ℕ → ℕ → Subject
starting mode initial =
    record { mode = mode; state = initial; waited = 0; word = 0; mask = 0; closed = replicate most_subjects 0; pool = pooled most_entries [] }

-- subjects in the start mask run, the others sleep
unfoldable pub fresh_subject : Model → ℕ → Subject
fresh_subject m s = cond (ltb s m.n) (starting (cond (bit m.start s) running asleep) (subject_at m s).initial) nobody

unfoldable pub fresh_config : Model → Config
fresh_config m = record { subjects = table (fresh_subject m) most_subjects }

-- 8: the all-zero configuration
unfoldable pub fresh_of : Model → Stepped
fresh_of m = cond (valid m) (done (fresh_config m)) (refused zero_config 8)

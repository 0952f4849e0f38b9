-- Deliver (subject), send: each reservation becomes a message, receivers start, the sender enters the target.
use Rattle.std.specs.Prelude.{Bool, ◌||◌, cond, List, ℕ, eqb, get_or}
use Rattle.sets.specs.Masks.{bit}
use Rattle.model.specs.Valid.{no_subject, exit_at}
use Rattle.model.specs.declared.State.{State}
use Rattle.model.specs.declared.Subject as model_subject
use Rattle.engine.specs.pools.Sizes.{most_entries}
use Rattle.engine.specs.pools.Pools.{delivered_in}
use Rattle.engine.specs.configs.Subjects.{asleep, running, ended_properly, at, each_subject, with_pool, enters}
use Rattle.engine.specs.declared.Config.{Config}
use Rattle.engine.specs.declared.Subject.{Subject}

-- asleep or ended properly, a receiver starts at its initial state with word 0, waited 0, mask 0, marks kept
unfoldable pub started : ℕ → Subject → Subject
started initial x =
    cond (eqb x.mode asleep || eqb x.mode ended_properly)
    (record { mode = running; state = initial; waited = 0; word = 0; mask = 0; closed = x.closed; pool = x.pool })
    x

-- in every pool each reservation of s becomes a message with the word, at the same place in the line; receivers start
unfoldable pub delivered_as : Bool → ℕ → ℕ → ℕ → Subject → Subject
delivered_as receives initial s word x =
    cond receives (started initial (with_pool (delivered_in most_entries s word x.pool) x)) (with_pool (delivered_in most_entries s word x.pool) x)

abbrev pub delivered_to : List model_subject.Subject → State → ℕ → ℕ → ℕ → Subject → Subject
delivered_to subjects here s word r x = delivered_as (bit here.receivers r) (get_or subjects r no_subject).initial s word x

-- then the sender enters the target
unfoldable pub delivering : List model_subject.Subject → State → Bool → Config → ℕ → Config
delivering subjects here end c s = enters (each_subject (delivered_to subjects here s (at c s).word) c) s (exit_at here 0).target end

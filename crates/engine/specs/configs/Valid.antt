-- A valid configuration of a model: a line for each clause of the rule.
use Rattle.std.specs.Prelude.{Bool, ◌&&◌, ◌||◌, not, cond, ℕ, eqb, leb, ltb, length, get_or}
use Rattle.sets.specs.Below.{all_below}
use Rattle.sets.specs.Masks.{bit, others}
use Rattle.model.specs.Rules.{any}
use Rattle.model.specs.Sizes.{most_subjects}
use Rattle.model.specs.Valid.{subject_at, exit_at, valid}
use Rattle.model.specs.declared.Model.{Model}
use Rattle.model.specs.declared.State.{State}
use Rattle.model.specs.declared.Subject as model_subject
use Rattle.engine.specs.pools.Sizes.{most_entries}
use Rattle.engine.specs.pools.Pools.{held, has_message, reservations}
use Rattle.engine.specs.pools.Valid.{pool_valid, is_blank_pool}
use Rattle.engine.specs.declared.Pool.{Pool}
use Rattle.engine.specs.configs.Subjects.{asleep, running, ended_properly, ended_improperly, is_send, is_end, at, here_of}
use Rattle.engine.specs.declared.Config.{Config}
use Rattle.engine.specs.declared.Subject.{Subject}

-- ---- a subject by itself, where `own` is what the model says of it and `here` the state in which it is

-- modes are 0 to 3
abbrev pub mode_right : Subject → Bool
mode_right x = leb x.mode 3

-- pools have at most 16 entries; reservations have content 0; unused entries are all zero; senders are below n, types
-- below 32; every limit row is kept
abbrev pub pool_right : ℕ → model_subject.Subject → Subject → Bool
pool_right n own x = pool_valid most_entries n own x.pool

-- senders' marks from n up are all zero
unfoldable pub marks_right : ℕ → Subject → Bool
marks_right n x = all_below (λ i. ltb i n || eqb (get_or x.closed i 0) 0) most_subjects

-- states exist
abbrev pub state_there : model_subject.Subject → Subject → Bool
state_there own x = ltb x.state own.states

-- running is never at an end, ended always is
abbrev pub end_right : State → Subject → Bool
end_right here x =
    (not (eqb x.mode running) || not (is_end here.kind))
    && (not (eqb x.mode ended_properly || eqb x.mode ended_improperly) || is_end here.kind)

-- asleep has the initial state and word 0
abbrev pub sleep_right : model_subject.Subject → Subject → Bool
sleep_right own x = not (eqb x.mode asleep) || (eqb x.state own.initial && eqb x.word 0)

-- who isn't running has waited 0
abbrev pub wait_right : Subject → Bool
wait_right x = eqb x.mode running || eqb x.waited 0

-- the mask is 0 unless running in a send, and lies within its receivers
abbrev pub mask_right : State → Subject → Bool
mask_right here x =
    (eqb x.mask 0 || (eqb x.mode running && is_send here.kind))
    && eqb (length (others most_subjects x.mask here.receivers)) 0

-- who ended improperly holds a message
abbrev pub improper_right : Subject → Bool
improper_right x = not (eqb x.mode ended_improperly) || has_message (held x.pool)

-- its fields, the pool aside
unfoldable pub fields_right : model_subject.Subject → State → Subject → Bool
fields_right own here x =
    ((mode_right x && state_there own x) && (end_right here x && sleep_right own x)) && (wait_right x && mask_right here x)

unfoldable pub subject_valid : ℕ → model_subject.Subject → State → Subject → Bool
subject_valid n own here x = fields_right own here x && (marks_right n x && (pool_right n own x && improper_right x))

-- subjects from n up are all zero
unfoldable pub is_nobody : Subject → Bool
is_nobody x =
    ((eqb x.mode 0 && eqb x.state 0) && (eqb x.waited 0 && eqb x.word 0))
    && (eqb x.mask 0 && (marks_right 0 x && is_blank_pool most_entries x.pool))

-- subject s of n
unfoldable pub subject_right : Model → Config → ℕ → Bool
subject_right m c s = cond (ltb s m.n) (subject_valid m.n (subject_at m s) (here_of m c s) (at c s)) (is_nobody (at c s))

-- ---- senders and receivers

-- the type of a send
abbrev pub type_of : State → ℕ
type_of here = (exit_at here 0).typ

-- receiver r is in the mask of s exactly when the pool of r holds a reservation from s, then one only, of the send's type
unfoldable pub place_right : ℕ → ℕ → ℕ → ℕ → Pool → Bool
place_right s mask typ r p =
    eqb (reservations s any (held p)) (cond (bit mask r) 1 0) && eqb (reservations s typ (held p)) (cond (bit mask r) 1 0)

unfoldable pub places_right : Model → Config → Bool
places_right m c =
    all_below (λ r. all_below (λ s. place_right s (at c s).mask (type_of (here_of m c s)) r (at c r).pool) m.n) m.n

-- ---- all of it

unfoldable pub config_valid : Model → Config → Bool
config_valid m c = all_below (subject_right m c) most_subjects && places_right m c

-- 8: model not valid; 10: configuration not valid for the model; else 0
unfoldable pub fault_of : Model → Config → ℕ
fault_of m c = cond (valid m) (cond (config_valid m c) 0 10) 8

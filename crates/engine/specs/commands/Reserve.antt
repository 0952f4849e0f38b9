-- Reserve: each receiver that has no place yet answers, from the lowest number.
use Rattle.std.specs.Prelude.{Bool, not, cond, List, ℕ, eqb, length, get_or}
use Rattle.sets.specs.Lists.{folded}
use Rattle.sets.specs.Masks.{bit, with_bit, others}
use Rattle.model.specs.Sizes.{most_subjects}
use Rattle.model.specs.Valid.{no_subject}
use Rattle.model.specs.declared.State.{State}
use Rattle.model.specs.declared.Subject as model_subject
use Rattle.engine.specs.pools.Sizes.{most_entries}
use Rattle.engine.specs.pools.Entries.{reservation}
use Rattle.engine.specs.pools.Pools.{held, appended}
use Rattle.engine.specs.pools.Rows.{has_room}
use Rattle.engine.specs.configs.Subjects.{ended_improperly, at, put, with_mask, with_pool}
use Rattle.engine.specs.configs.Valid.{type_of}
use Rattle.engine.specs.declared.Answer.TheVariants.{Reserved}
use Rattle.engine.specs.declared.Config.{Config}
use Rattle.engine.specs.declared.Stepped.{Stepped}
use Rattle.engine.specs.declared.Subject.{Subject}
use Rattle.engine.specs.declared.Places.{Places}
use Rattle.engine.specs.declared.Reply.{Reply}
use Rattle.engine.specs.declared.Reply.TheVariants.{Placed, Improper, Closed, Full}

-- the queue is closed for this sender and type
unfoldable pub is_closed : Subject → ℕ → ℕ → Bool
is_closed x sender typ = bit (get_or x.closed sender 0) typ

-- ended improperly, else closed for this sender and type, else full, else there is a place
unfoldable pub reply_of : model_subject.Subject → Subject → ℕ → ℕ → Reply
reply_of own x sender typ =
    cond (eqb x.mode ended_improperly) Improper
    (cond (is_closed x sender typ) Closed
    (cond (not (has_room most_entries own (held x.pool) sender typ)) Full
    Placed))

-- a reservation is put at the end of the pool
unfoldable pub with_place : Reply → ℕ → ℕ → Subject → Subject
with_place Placed sender typ x = with_pool (appended most_entries x.pool (reservation sender typ)) x
with_place Improper sender typ x = x
with_place Closed sender typ x = x
with_place Full sender typ x = x

-- the receiver is noted in the mask of its answer; where it is placed, the sender's mask grows
unfoldable pub noted : Reply → ℕ → Places → Places
noted Placed r p = record { mask = with_bit p.mask r; placed = with_bit p.placed r; improper = p.improper; closed = p.closed; full = p.full }
noted Improper r p = record { mask = p.mask; placed = p.placed; improper = with_bit p.improper r; closed = p.closed; full = p.full }
noted Closed r p = record { mask = p.mask; placed = p.placed; improper = p.improper; closed = with_bit p.closed r; full = p.full }
noted Full r p = record { mask = p.mask; placed = p.placed; improper = p.improper; closed = p.closed; full = with_bit p.full r }

-- the configuration and the answers after some turns
pub record Round : Type 0 where
  pub config : Config
  pub places : Places

-- the turn of receiver r
unfoldable pub turn_as : Reply → ℕ → ℕ → Round → ℕ → Round
turn_as reply sender typ now r =
    record { config = put now.config r (with_place reply sender typ (at now.config r)); places = noted reply r now.places }

unfoldable pub turn_of : List model_subject.Subject → ℕ → ℕ → Round → ℕ → Round
turn_of subjects sender typ now r = turn_as (reply_of (get_or subjects r no_subject) (at now.config r) sender typ) sender typ now r

-- before the first turn
abbrev pub begun : Config → ℕ → Round
begun c mask = record { config = c; places = record { mask = mask; placed = 0; improper = 0; closed = 0; full = 0 } }

-- for each receiver not in the mask, from the lowest number
unfoldable pub rounds : List model_subject.Subject → State → Config → ℕ → Round
rounds subjects here c s =
    folded (turn_of subjects s (type_of here)) (begun c (at c s).mask) (others most_subjects here.receivers (at c s).mask)

-- the four masks, and the number of receivers still without a place
unfoldable pub answered : State → ℕ → Round → Stepped
answered here s done =
    record {
      config = put done.config s (with_mask done.places.mask (at done.config s));
      answer =
          Reserved done.places.placed done.places.improper done.places.closed done.places.full
          (length (others most_subjects here.receivers done.places.mask));
    }

unfoldable pub reserving : List model_subject.Subject → State → Config → ℕ → Stepped
reserving subjects here c s = answered here s (rounds subjects here c s)

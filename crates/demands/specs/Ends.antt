-- Ends: who ended improperly holds a message and keeps it; who ended properly, with reservations waiting, is started by the
-- Deliver that fills one of them.
use Rattle.std.specs.Prelude.{◌≡◌, true, List, ℕ, ◌<◌, length, get_or}
use Rattle.sets.specs.Lists.{passing}
use Rattle.model.specs.Rules.{any}
use Rattle.model.specs.Valid.{subject_at, valid}
use Rattle.model.specs.declared.Model.{Model}
use Rattle.engine.specs.pools.Entries.{blank_entry, message_for, reserved_by}
use Rattle.engine.specs.pools.Pools.{held, has_message}
use Rattle.engine.specs.declared.Entry.{Entry}
use Rattle.engine.specs.configs.Subjects.{running, ended_properly, ended_improperly, at, Held}
use Rattle.engine.specs.declared.Config.{Config}
use Rattle.engine.specs.declared.Subject.{Subject}
use Rattle.engine.specs.Steps.{stepped}
use Rattle.engine.specs.declared.Command.{Command}
use Rattle.engine.specs.declared.Command.TheVariants.{Deliver}
use Rattle.engine_promises.specs.Runs.{run_from, Call}
use Rattle.demands.specs.Due.{step_refusal}
use Rattle.demands.specs.Shares.{at_last, on_tape}

-- ---- a message is left

-- in c a subject that ended improperly holds a message
abbrev pub HoldsMessage : Config → Type 0
HoldsMessage c = (s : ℕ) → (at c s).mode ≡ ended_improperly → has_message (held (at c s).pool) ≡ true

-- after any commands from a fresh start
abbrev pub ImproperHoldsMessage : Type 0
ImproperHoldsMessage = (m : Model) (ks : List Command) → valid m ≡ true → HoldsMessage (at_last m ks)

-- after any calls from a fresh start, at any place of a tape
abbrev pub ImproperHoldsMessageOnTapes : Type 0
ImproperHoldsMessageOnTapes = (m : Model) (calls : List Call) (tape : List ℕ) (i : ℕ) → valid m ≡ true → HoldsMessage (on_tape m calls tape i)

-- ---- and stays there

-- the messages of a subject's pool, in order
abbrev pub messages_of : Subject → List Entry
messages_of x = passing (λ e. e.message) (held x.pool)

-- y has ended improperly too, with the messages of x
pub record StillImproper (x y : Subject) : Type 0 where
  pub improper : y.mode ≡ ended_improperly
  pub messages : messages_of y ≡ messages_of x

-- whatever commands come after the first, no message is taken from a subject that ended improperly, and none is added
abbrev pub NoMessageTaken : Type 0
NoMessageTaken = (m : Model) (ks more : List Command) (s : ℕ) → valid m ≡ true → (at (at_last m ks) s).mode ≡ ended_improperly
    → StillImproper (at (at_last m ks) s) (at (run_from m (at_last m ks) more) s)

-- ---- reservations only

-- r has ended properly, and at place i of its pool s has a reservation
pub record WaitsAt (c : Config) (r s i : ℕ) : Type 0 where
  pub proper : (at c r).mode ≡ ended_properly
  pub there : i < length (held (at c r).pool)
  pub reserved : reserved_by s any (get_or (held (at c r).pool) i blank_entry) ≡ true

-- in d it runs in its initial state with word 0, and at place i stands the message with the word that s had in c
pub record Woken (m : Model) (c d : Config) (r s i : ℕ) : Type 0 where
  pub runs : (at d r).mode ≡ running
  pub initial : (at d r).state ≡ (subject_at m r).initial
  pub word : (at d r).word ≡ 0
  pub message : get_or (held (at d r).pool) i blank_entry ≡ message_for (at c s).word (get_or (held (at c r).pool) i blank_entry)

-- an accepted Deliver of s starts every subject that ended properly with a reservation of s
abbrev pub DeliverWakes : Type 0
DeliverWakes = (m : Model) (c : Config) (r s i : ℕ) → Held c → WaitsAt c r s i → step_refusal m c (Deliver s) ≡ 0
    → Woken m c (stepped m c (Deliver s)).config r s i

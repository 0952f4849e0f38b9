-- What Take, Deliver, Expire and Cancel do to the pools, entry by entry.
use Rattle.std.specs.Prelude.{◌≡◌, ◌≢◌, true, false, not, List, ℕ, ◌<◌, length, get_or}
use Rattle.sets.specs.Lists.{passing, without}
use Rattle.model.specs.Rules.{any}
use Rattle.model.specs.Sizes.{most_subjects}
use Rattle.engine.specs.pools.Entries.{blank_entry, matches, is_message, message_for, reserved_by}
use Rattle.engine.specs.pools.Pools.{held, reservations}
use Rattle.engine.specs.declared.Entry.{Entry}
use Rattle.engine.specs.configs.Subjects.{at}
use Rattle.engine.specs.declared.Config.{Config}
use Rattle.engine.specs.declared.Subject.{Subject}

-- Take: of the entries `old`, the word handed over is the content of the earliest message that matches, never of a
-- reservation, and the others keep their order
pub record Handed (sender typ : ℕ) (old : List Entry) (word : ℕ) (new : List Entry) : Type 0 where
  pub place : ℕ
  pub there : place < length old
  pub message : (get_or old place blank_entry).message ≡ true
  pub matching : matches sender typ (get_or old place blank_entry) ≡ true
  pub earliest : (j : ℕ) → j < place → is_message sender typ (get_or old j blank_entry) ≡ false
  pub content : word ≡ (get_or old place blank_entry).content
  pub others : new ≡ without place old

-- Deliver: each reservation of s is the message with the word, at its own place in the line; every other entry is as it was
pub record AtItsPlace (s word : ℕ) (old new : List Entry) : Type 0 where
  pub as_many : length new ≡ length old
  pub message : (i : ℕ) → i < length old → reserved_by s any (get_or old i blank_entry) ≡ true
      → get_or new i blank_entry ≡ message_for word (get_or old i blank_entry)
  pub unchanged : (i : ℕ) → i < length old → reserved_by s any (get_or old i blank_entry) ≡ false
      → get_or new i blank_entry ≡ get_or old i blank_entry

-- y is x, the pool aside
pub record OnlyPool (x y : Subject) : Type 0 where
  pub mode : y.mode ≡ x.mode
  pub state : y.state ≡ x.state
  pub waited : y.waited ≡ x.waited
  pub word : y.word ≡ x.word
  pub mask : y.mask ≡ x.mask
  pub closed : y.closed ≡ x.closed

-- Expire and Cancel: the reservations of s leave every pool, the others stay in order, and nothing else moves but s
pub record Withdrawn (s : ℕ) (old new : Config) : Type 0 where
  pub pools : (r : ℕ) → r < most_subjects → held (at new r).pool ≡ passing (λ e. not (reserved_by s any e)) (held (at old r).pool)
  pub none : (r typ : ℕ) → r < most_subjects → reservations s typ (held (at new r).pool) ≡ 0
  pub others : (r : ℕ) → r < most_subjects → r ≢ s → OnlyPool (at old r) (at new r)

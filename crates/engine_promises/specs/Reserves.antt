-- What the answer to a Reserve says.
use Rattle.std.specs.Prelude.{◌≡◌, Bool, true, false, ◌&&◌, ◌||◌, not, cond, List, [], ◌∷◌, ◌++◌, ℕ, ◌+◌, ◌≤◌, ◌<◌, length, get_or}
use Rattle.std.specs.Int.Count.{ones}
use Rattle.sets.specs.Masks.{bit, members, others}
use Rattle.model.specs.Sizes.{most_subjects}
use Rattle.model.specs.Valid.{no_subject}
use Rattle.model.specs.declared.State.{State}
use Rattle.model.specs.declared.Subject as model_subject
use Rattle.engine.specs.pools.Entries.{reservation}
use Rattle.engine.specs.pools.Pools.{held}
use Rattle.engine.specs.configs.Subjects.{at}
use Rattle.engine.specs.configs.Valid.{type_of}
use Rattle.engine.specs.declared.Config.{Config}
use Rattle.engine.specs.commands.Reserve.{reply_of}
use Rattle.engine.specs.declared.Reply.{Reply}

-- 1 where the test holds
abbrev pub one : Bool → ℕ
one b = cond b 1 0

-- nothing is noted
pub record NothingNoted (placed improper closed full missing : ℕ) : Type 0 where
  pub none_placed : placed ≡ 0
  pub none_improper : improper ≡ 0
  pub none_closed : closed ≡ 0
  pub none_full : full ≡ 0
  pub none_missing : missing ≡ 0

-- the masks of an answer, where the mask of receivers with a place was `old` and is `new`
pub record FourMasks (receivers old new placed improper closed full missing : ℕ) : Type 0 where
  -- a number is in one of the four at most
  pub at_most_one : (k : ℕ) → one (bit placed k) + one (bit improper k) + one (bit closed k) + one (bit full k) ≤ 1
  -- it is in one exactly when it is a receiver that had no place
  pub together : (k : ℕ) → (bit placed k || bit improper k || bit closed k || bit full k) ≡ (bit receivers k && not (bit old k))
  -- the placed ones have a place now
  pub grown : (k : ℕ) → bit new k ≡ (bit old k || bit placed k)
  -- the others of the four are those that still miss one
  pub still_missing : missing ≡ length (members most_subjects improper) + length (members most_subjects closed) + length (members most_subjects full)
  pub still_missing_ones : missing ≡ ones improper + ones closed + ones full
  -- where none missed a place, nothing is noted
  pub none_missed : length (others most_subjects receivers old) ≡ 0 → NothingNoted placed improper closed full missing

-- r is a receiver without a place, and to s, on the configuration before, it answers q
pub record Answered (subjects : List model_subject.Subject) (here : State) (c : Config) (s : ℕ) (q : Reply) (r : ℕ) : Type 0 where
  pub receiver : bit here.receivers r ≡ true
  pub no_place : bit (at c s).mask r ≡ false
  pub replies : reply_of (get_or subjects r no_subject) (at c r) s (type_of here) ≡ q

-- where placed is the mask of an answer to s: who is in it has the reservation at the end of its pool, every other pool stays
pub record PlacedAtEnd (s typ placed : ℕ) (old new : Config) : Type 0 where
  pub grown : (r : ℕ) → r < most_subjects → bit placed r ≡ true → held (at new r).pool ≡ held (at old r).pool ++ (reservation s typ ∷ [])
  pub others : (r : ℕ) → r < most_subjects → bit placed r ≡ false → (at new r).pool ≡ (at old r).pool

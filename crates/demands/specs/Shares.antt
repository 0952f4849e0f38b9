-- Demand 3: a pool that is shared out. From a fresh start, after any commands, no sender holds more than its limit, and a
-- sender that reserves gets a place exactly when the owner has not ended improperly, the queue is open and its own entries
-- are below its limit. All of it is said of the definitions that the contracts cite: `share_of`, `fresh_of`, `stepped`; and on
-- tapes, after any calls from a fresh start, of `codedStep`, `ran` and `after`.
use Rattle.std.specs.Prelude.{◌≡◌, ◌↔◌, ◌≢◌, Bool, true, false, ◌||◌, not, cond, List, [], ◌∷◌, ◌++◌, ℕ, ◌<◌, ◌≤◌, eqb, get_or}
use Rattle.sets.specs.Below.{sum_below}
use Rattle.sets.specs.Lists.{all_of, counted}
use Rattle.sets.specs.Masks.{bit}
use Rattle.model.specs.Rules.{any}
use Rattle.model.specs.Valid.{subject_at, row_at, valid}
use Rattle.model.specs.declared.Model.{Model}
use Rattle.model.specs.declared.Subject.{Subject}
use Rattle.engine.specs.pools.Sizes.{most_entries}
use Rattle.engine.specs.pools.Entries.{reservation}
use Rattle.engine.specs.pools.Pools.{held}
use Rattle.engine.specs.declared.Entry.{Entry}
use Rattle.engine.specs.configs.Answers.{values_of, is_yes}
use Rattle.engine.specs.configs.Fresh.{fresh_of}
use Rattle.engine.specs.configs.Shares.{share_of}
use Rattle.engine.specs.configs.Subjects.{running, ended_improperly, at, state_of, here_of}
use Rattle.engine.specs.configs.Valid.{type_of}
use Rattle.engine.specs.declared.Answer.{Answer}
use Rattle.engine.specs.declared.Config.{Config}
use Rattle.engine.specs.commands.Codes.{names, subject_of}
use Rattle.engine.specs.commands.Reserve.{is_closed}
use Rattle.engine.specs.Steps.{stepped}
use Rattle.engine.specs.Tapes.{config_after}
use Rattle.engine.specs.declared.Command.{Command}
use Rattle.engine.specs.declared.Command.TheVariants.{Reserve}
use Rattle.engine_promises.specs.Runs.{run_from, commands_of, Call, after_calls}

-- ---- the yes/no

-- subject s has a send state that names the owner
pub record SendsTo (m : Model) (owner s : ℕ) : Type 0 where
  pub state : ℕ
  pub there : state < (subject_at m s).states
  pub send : (state_of m s state).kind ≡ 2
  pub named : bit (state_of m s state).receivers owner ≡ true

-- the owner has a row for sender s
pub record RowFor (own : Subject) (s : ℕ) : Type 0 where
  pub row : ℕ
  pub there : row < own.rows
  pub sender : (row_at own row).sender ≡ s

-- every limit row names one sender for all message types, no sender twice; a row for each subject with a send state naming
-- the owner; limits that add up to at most 16
pub record SharedOut (m : Model) (owner : ℕ) : Type 0 where
  pub one_sender : (k : ℕ) → k < (subject_at m owner).rows → (row_at (subject_at m owner) k).sender ≢ any
  pub all_types : (k : ℕ) → k < (subject_at m owner).rows → (row_at (subject_at m owner) k).typ ≡ any
  pub none_twice : (j k : ℕ) → j < k → k < (subject_at m owner).rows
      → (row_at (subject_at m owner) j).sender ≢ (row_at (subject_at m owner) k).sender
  pub row_for_each : (s : ℕ) → s < m.n → SendsTo m owner s → RowFor (subject_at m owner) s
  pub limits_fit : sum_below (λ k. (row_at (subject_at m owner) k).limit) (subject_at m owner).rows ≤ 16

-- the answer is yes exactly for the pools of a valid model that are shared out so
abbrev pub YesSays : Type 0
YesSays = (m : Model) (owner : ℕ) → (is_yes (share_of most_entries m owner) ≡ true) ↔ ((valid m ≡ true) × (owner < m.n) × SharedOut m owner)

-- ---- what a sender holds, and its limit

-- the entries of sender s in the owner's pool, reservations included
unfoldable pub holds : Config → ℕ → ℕ → ℕ
holds c owner s = counted (λ (e : Entry). eqb e.sender s) (held (at c owner).pool)

-- the limit of sender s: that of the row that names it, 0 where none does
unfoldable pub limit_of : Subject → ℕ → ℕ
limit_of own s = sum_below (λ k. cond (eqb (row_at own k).sender s) (row_at own k).limit 0) own.rows

-- in a pool that is shared out it is the limit of that one row
abbrev pub LimitIsTheRows : Type 0
LimitIsTheRows = (m : Model) (owner k : ℕ) → is_yes (share_of most_entries m owner) ≡ true → k < (subject_at m owner).rows
    → limit_of (subject_at m owner) (row_at (subject_at m owner) k).sender ≡ (row_at (subject_at m owner) k).limit

-- ---- a. no sender holds more than its limit

-- after commands from a fresh start
abbrev pub at_last : Model → List Command → Config
at_last m ks = run_from m (fresh_of m).config ks

-- after any calls from a fresh start, and then the first i commands of a tape
abbrev pub on_tape : Model → List Call → List ℕ → ℕ → Config
on_tape m calls tape i = config_after m (after_calls m (fresh_of m).config calls) tape i

-- no sender holds more than its limit in c
abbrev pub LimitsKept : Model → ℕ → Config → Type 0
LimitsKept m owner c = (s : ℕ) → holds c owner s ≤ limit_of (subject_at m owner) s

-- after any commands
abbrev pub WithinLimits : Type 0
WithinLimits = (m : Model) (owner : ℕ) (ks : List Command) → is_yes (share_of most_entries m owner) ≡ true → LimitsKept m owner (at_last m ks)

-- after any calls, at any place of a tape
abbrev pub WithinLimitsOnTapes : Type 0
WithinLimitsOnTapes = (m : Model) (owner : ℕ) (calls : List Call) (tape : List ℕ) (i : ℕ) → is_yes (share_of most_entries m owner) ≡ true
    → LimitsKept m owner (on_tape m calls tape i)

-- ---- b. a sender that reserves gets a place exactly when

-- s is in a send state that names the owner, and has no place there yet
pub record Asks (m : Model) (c : Config) (owner s : ℕ) : Type 0 where
  pub there : s < m.n
  pub runs : (at c s).mode ≡ running
  pub sends : (here_of m c s).kind ≡ 2
  pub named : bit (here_of m c s).receivers owner ≡ true
  pub no_place : bit (at c s).mask owner ≡ false

-- the owner has not ended improperly, the queue is open for this sender and type, its own entries are below its limit
pub record MayHave (m : Model) (c : Config) (owner s : ℕ) : Type 0 where
  pub proper : (at c owner).mode ≢ ended_improperly
  pub not_closed : is_closed (at c owner) s (type_of (here_of m c s)) ≡ false
  pub below : holds c owner s < limit_of (subject_at m owner) s

-- the mask of those placed now
abbrev pub placed_in : Answer → ℕ
placed_in answer = get_or (values_of answer) 0 0

-- s reserves and gets a place: the placed mask has the owner, and its pool ends with the new reservation
pub record Gets (m : Model) (c : Config) (owner s : ℕ) : Type 0 where
  pub placed : bit (placed_in (stepped m c (Reserve s)).answer) owner ≡ true
  pub at_the_end : held (at (stepped m c (Reserve s)).config owner).pool ≡ held (at c owner).pool ++ (reservation s (type_of (here_of m c s)) ∷ [])

-- s reserves and gets none: the placed mask has not the owner, and its pool stays
pub record GetsNone (m : Model) (c : Config) (owner s : ℕ) : Type 0 where
  pub not_placed : bit (placed_in (stepped m c (Reserve s)).answer) owner ≡ false
  pub stays : (at (stepped m c (Reserve s)).config owner).pool ≡ (at c owner).pool

-- in c a sender that asks gets a place exactly when it may have one, and else none
abbrev pub GetsWhere : Model → ℕ → Config → Type 0
GetsWhere m owner c = (s : ℕ) → Asks m c owner s
    → (Gets m c owner s ↔ MayHave m c owner s) × (¬ MayHave m c owner s → GetsNone m c owner s)

-- after any commands
abbrev pub GetsExactly : Type 0
GetsExactly = (m : Model) (owner : ℕ) (ks : List Command) → is_yes (share_of most_entries m owner) ≡ true → GetsWhere m owner (at_last m ks)

-- after any calls, at any place of a tape
abbrev pub GetsExactlyOnTapes : Type 0
GetsExactlyOnTapes = (m : Model) (owner : ℕ) (calls : List Call) (tape : List ℕ) (i : ℕ) → is_yes (share_of most_entries m owner) ≡ true
    → GetsWhere m owner (on_tape m calls tape i)

-- ---- as the growers say it: a chattering probe, however many commands it sends, never takes a place from a healthy one

-- a command of the probe, or a tick
abbrev pub of_probe : ℕ → Command → Bool
of_probe probe k = not (names k) || eqb (subject_of k) probe

-- a healthy sender that asks for a place in c asks for it still in d, and gets it there exactly when it would have got it in c
abbrev pub AsksAndGets : Model → ℕ → ℕ → Config → Config → Type 0
AsksAndGets m owner healthy c d = Asks m c owner healthy → Asks m d owner healthy × (Gets m d owner healthy ↔ Gets m c owner healthy)

-- after any commands, and then all the chatter
abbrev pub NeverCrowdedOut : Type 0
NeverCrowdedOut = (m : Model) (owner healthy probe : ℕ) (ks chatter : List Command) → is_yes (share_of most_entries m owner) ≡ true
    → probe ≢ healthy → probe ≢ owner → all_of (of_probe probe) chatter ≡ true
    → AsksAndGets m owner healthy (at_last m ks) (run_from m (at_last m ks) chatter)

-- after any calls and the first i commands of a tape, and then the first j of a tape of chatter
abbrev pub NeverCrowdedOutOnTapes : Type 0
NeverCrowdedOutOnTapes = (m : Model) (owner healthy probe : ℕ) (calls : List Call) (tape : List ℕ) (i : ℕ) (chatter : List ℕ) (j : ℕ)
    → is_yes (share_of most_entries m owner) ≡ true → probe ≢ healthy → probe ≢ owner → all_of (of_probe probe) (commands_of chatter j) ≡ true
    → AsksAndGets m owner healthy (on_tape m calls tape i) (config_after m (on_tape m calls tape i) chatter j)

-- The refusals of a step: each test once, and for each command the tests with their numbers in the order in which they are judged.
use Rattle.std.specs.Prelude.{Bool, true, false, ◌&&◌, not, cond, List, [], ◌∷◌, ℕ, eqb, leb, ltb, length, Option, Some, None}
use Rattle.sets.specs.Below.{some_below}
use Rattle.sets.specs.Masks.{bit, others}
use Rattle.sets.specs.Tests.{within}
use Rattle.model.specs.Rules.{none}
use Rattle.model.specs.Sizes.{most_subjects}
use Rattle.model.specs.declared.State.{State}
use Rattle.engine.specs.configs.Answers.{refused}
use Rattle.engine.specs.configs.Subjects.{running, ended_improperly, is_send, at}
use Rattle.engine.specs.commands.Codes.{subject_of}
use Rattle.engine.specs.commands.Take.{wanted_at}
use Rattle.engine.specs.declared.Command.{Command}
use Rattle.engine.specs.declared.Command.TheVariants.{Do, Reserve, Deliver, Take, Run, Expire, Cancel, Tick}
use Rattle.engine.specs.declared.Config.{Config}
use Rattle.engine.specs.declared.Stepped.{Stepped}
use Rattle.engine.specs.declared.Subject.{Subject}

-- ---- the tests. `here` is the state in which the command's subject is, x the subject

-- 11: subject is n or more
abbrev pub not_there : ℕ → ℕ → Bool
not_there n s = leb n s

-- 12: subject not running
abbrev pub not_running : Subject → Bool
not_running x = not (eqb x.mode running)

-- 13: state of the wrong kind
abbrev pub wrong_kind : ℕ → State → Bool
wrong_kind kind here = not (eqb here.kind kind)

-- 13 for Run: no close, open or ask-empty
abbrev pub not_pool_kind : State → Bool
not_pool_kind here = not (within 4 here.kind 6)

-- 14: exit not there
abbrev pub no_exit : State → ℕ → Bool
no_exit here e = leb here.exits e

abbrev pub is_nothing : Option ℕ → Bool
is_nothing (Some i) = false
is_nothing None = true

-- 15: no matching message
unfoldable pub no_message : State → ℕ → Subject → Bool
no_message here e x = is_nothing (wanted_at here e x)

-- 16: a place is missing: a receiver is not in the mask
unfoldable pub place_missing : State → Subject → Bool
place_missing here x = not (eqb (length (others most_subjects here.receivers x.mask)) 0)

-- 17: a receiver ended improperly
unfoldable pub some_improper : State → Config → Bool
some_improper here c = some_below (λ r. bit here.receivers r && eqb (at c r).mode ended_improperly) most_subjects

-- 18: no timeout target, no cancel target
abbrev pub no_timeout : State → Bool
no_timeout here = eqb here.timeout none

abbrev pub no_cancel : State → Bool
no_cancel here = eqb here.cancel none

-- 19: waited less than the duration
abbrev pub too_early : State → Subject → Bool
too_early here x = ltb x.waited here.after

-- 20: a send where Deliver would be accepted: no place missing, no receiver ended improperly
unfoldable pub can_deliver : State → Subject → Bool → Bool
can_deliver here x improper = is_send here.kind && (not (place_missing here x) && not improper)

-- ---- the rules of each command

-- by what they read: n, the state, the subject, and whether a receiver ended improperly
abbrev pub rules_for : ℕ → State → Subject → Bool → Command → List (Bool × ℕ)
rules_for n here x improper (Do s e w) = (not_there n s, 11) ∷ (not_running x, 12) ∷ (wrong_kind 1 here, 13) ∷ (no_exit here e, 14) ∷ []
rules_for n here x improper (Reserve s) = (not_there n s, 11) ∷ (not_running x, 12) ∷ (wrong_kind 2 here, 13) ∷ []
rules_for n here x improper (Deliver s) =
    (not_there n s, 11) ∷ (not_running x, 12) ∷ (wrong_kind 2 here, 13) ∷ (place_missing here x, 16) ∷ (improper, 17) ∷ []
rules_for n here x improper (Take s e) =
    (not_there n s, 11) ∷ (not_running x, 12) ∷ (wrong_kind 3 here, 13) ∷ (no_exit here e, 14) ∷ (no_message here e x, 15) ∷ []
rules_for n here x improper (Run s) = (not_there n s, 11) ∷ (not_running x, 12) ∷ (not_pool_kind here, 13) ∷ []
rules_for n here x improper (Expire s) =
    (not_there n s, 11) ∷ (not_running x, 12) ∷ (no_timeout here, 18) ∷ (too_early here x, 19) ∷ (can_deliver here x improper, 20) ∷ []
rules_for n here x improper (Cancel s) = (not_there n s, 11) ∷ (not_running x, 12) ∷ (no_cancel here, 18) ∷ []
rules_for n here x improper Tick = []

-- of a command on a configuration
abbrev pub rules : ℕ → State → Config → Command → List (Bool × ℕ)
rules n here c k = rules_for n here (at c (subject_of k)) (some_improper here c) k

-- ---- what rules give

-- the number of the first rule that holds, 0 where none does
unfoldable pub first_number : List (Bool × ℕ) → ℕ
first_number [] = 0
first_number (rule ∷ rest) = cond rule.0 rule.1 (first_number rest)

-- the first rule that holds refuses, with its number; where none does, what comes next
unfoldable pub guarded : Config → List (Bool × ℕ) → Stepped → Stepped
guarded c [] next = next
guarded c (rule ∷ rest) next = cond rule.0 (refused c rule.1) (guarded c rest next)

use Prim.Native.Nat.{ℕ, ◌≤◌, ◌<◌}
use mathlib.Core.Path.{◌≡◌}
use mathlib.Core.Bool.{true}
use lib.ListN.{length, get_or}
use Rattle.sets.specs.Below.{all_below}
use Rattle.engine.specs.configs.Valid.{subject_right, type_of}
use Rattle.engine.specs.inner.Reads.{read_here}
use Rattle.engine.proofs.configs.valid.config_valid.Given as goal

-- the subjects below s are right, and their types are noted
abbrev pub invariant-loop-s : goal.invariant-loop-s
invariant-loop-s l =
    (l.n ≤ 16) × (all_below (subject_right l.m l.c) l.s ≡ true) × (length l.types ≡ 16) × ((k : ℕ) → k < l.s → get_or l.types k 0 ≡ type_of (read_here l.m l.c k))

use mathlib.Core.Path.{◌≡◌}
use mathlib.Core.List.{List}
use Prim.Native.Nat.{ℕ}
use lib.ListN.{length}
use Rattle.sets.specs.Groups.{place_in}
use Rattle.model.proofs.Facts.{rows_of}
use Rattle.model.proofs.KindLaws.{Ready, Lay}
use Rattle.model.proofs.writing.write_limits.Given as goal

abbrev pub invariant-loop-row : goal.invariant-loop-row
invariant-loop-row l =
    (length l.buffer ≡ length l.initial.buffer)
    × ((old : List ℕ) → Ready l.m 4 old → Lay l.m 4 old (place_in (rows_of l.m) l.s 0) l.initial.line l.initial.buffer → Lay l.m 4 old (place_in (rows_of l.m) l.s l.row-index) l.line l.buffer)

abbrev pub invariant-loop-s : goal.invariant-loop-s
invariant-loop-s l = (length l.buffer ≡ length l.initial.buffer) × Lay l.m 4 l.initial.buffer (place_in (rows_of l.m) l.s 0) l.line l.buffer

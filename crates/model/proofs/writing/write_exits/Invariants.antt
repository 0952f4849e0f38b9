use mathlib.Core.Path.{◌≡◌}
use mathlib.Core.List.{List}
use Prim.Native.Nat.{ℕ}
use lib.ListN.{length}
use Rattle.sets.specs.Groups.{place_in}
use Rattle.model.proofs.KindLaws.{Ready, Lay, exits_kept}
use Rattle.model.proofs.writing.write_exits.Given as goal

abbrev pub invariant-loop-x : goal.invariant-loop-x
invariant-loop-x l =
    (length l.buffer ≡ length l.initial.buffer)
    × ((old : List ℕ) → Ready l.m 3 old → Lay l.m 3 old (place_in (exits_kept l.m) l.p 0) l.initial.line l.initial.buffer → Lay l.m 3 old (place_in (exits_kept l.m) l.p l.x) l.line l.buffer)

abbrev pub invariant-loop-p : goal.invariant-loop-p
invariant-loop-p l = (length l.buffer ≡ length l.initial.buffer) × Lay l.m 3 l.initial.buffer (place_in (exits_kept l.m) l.p 0) l.line l.buffer

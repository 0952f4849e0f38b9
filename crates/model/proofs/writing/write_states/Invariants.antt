use mathlib.Core.Path.{◌≡◌}
use mathlib.Core.List.{List}
use Prim.Native.Nat.{ℕ}
use lib.ListN.{length}
use Rattle.sets.specs.Groups.{place_in}
use Rattle.model.proofs.Facts.{states_of}
use Rattle.model.proofs.KindLaws.{Ready, Lay}
use Rattle.model.proofs.writing.write_states.Given as goal

abbrev pub invariant-loop-t : goal.invariant-loop-t
invariant-loop-t l =
    (length l.buffer ≡ length l.initial.buffer)
    × ((old : List ℕ) → Ready l.m 2 old → Lay l.m 2 old (place_in (states_of l.m) l.s 0) l.initial.line l.initial.buffer → Lay l.m 2 old (place_in (states_of l.m) l.s l.t) l.line l.buffer)

abbrev pub invariant-loop-s : goal.invariant-loop-s
invariant-loop-s l = (length l.buffer ≡ length l.initial.buffer) × Lay l.m 2 l.initial.buffer (place_in (states_of l.m) l.s 0) l.line l.buffer

use mathlib.Core.Path.{◌≡◌}
use mathlib.Core.List.{List}
use Prim.Native.Nat.{ℕ, suc}
use lib.ListN.{length}
use Rattle.model.proofs.KindLaws.{Ready, Lay}
use Rattle.model.proofs.writing.write_header.Given as goal

abbrev pub invariant-loop-s : goal.invariant-loop-s
invariant-loop-s l =
    (length l.buffer ≡ length l.initial.buffer) × ((old : List ℕ) → Ready l.m 1 old → Lay l.m 1 old 1 l.initial.line l.initial.buffer → Lay l.m 1 old (suc l.s) l.line l.buffer)

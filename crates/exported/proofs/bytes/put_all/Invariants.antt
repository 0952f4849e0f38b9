use mathlib.Core.Path.{◌≡◌}
use lib.ListN.{length, get_or}
use Rattle.sets.specs.Stores.{each_of, stored}
use Rattle.exported.proofs.bytes.put_all.Given as goal

abbrev pub invariant-loop-i : goal.invariant-loop-i
invariant-loop-i g l = (length l.room ≡ length l.initial.room) × (l.room ≡ stored l.initial.room l.p (each_of (λ k. g.T.Bytes.bytes (get_or l.all k g.T.Bytes.blank)) l.i))

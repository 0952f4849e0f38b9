use mathlib.Core.Path.{◌≡◌}
use Prim.Native.Nat.{◌≤◌}
use Rattle.sets.specs.Below.{table}
use Rattle.sets.specs.Stores.{stored}
use Rattle.exported.specs.Bytes.{exit_in}
use Rattle.exported.proofs.model_from.put_exits.Given as goal

abbrev pub invariant-loop-x : goal.invariant-loop-x
invariant-loop-x l = (l.exits ≤ 255) × (l.line ≡ stored l.initial.line l.place (table (exit_in l.b) l.x))

use mathlib.Core.Path.{◌≡◌}
use Rattle.sets.specs.Below.{changed}
use Rattle.engine.specs.commands.Runs.{mark_at}
use Rattle.engine.proofs.commands.runs.with_marks.Given as goal

-- the marks of the senders below i are changed
abbrev pub invariant-loop-i : goal.invariant-loop-i
invariant-loop-i l = l.closed ≡ changed (mark_at l.n l.here) 0 l.initial.closed 16 l.i

use mathlib.Core.Path.{◌≡◌}
use Rattle.engine.specs.Tapes.{config_after}
use Rattle.exported.proofs.walk.Given as goal

abbrev pub invariant-loop-i : goal.invariant-loop-i
invariant-loop-i l = l.latest ≡ config_after l.m l.initial.latest l.tape l.i

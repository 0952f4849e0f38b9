use mathlib.Core.Path.{◌≡◌}
use Rattle.model.specs.Valid.{state_at}
use Rattle.sets.specs.Stores.{each_of, stored}
use Rattle.exported.specs.Bytes.{state_bytes}
use Rattle.exported.proofs.model_bytes.put_states.Given as goal

abbrev pub invariant-loop-i : goal.invariant-loop-i
invariant-loop-i l = l.room ≡ stored l.initial.room 435 (each_of (λ k. state_bytes (state_at l.m k)) l.i)

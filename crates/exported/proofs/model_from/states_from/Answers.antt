use mathlib.Core.Path.{sym, ap, ◌∙◌}
use mathlib.Core.List.{List}
use Prim.Native.Nat.{ℕ}
use native.Mathlib.Omega.{arith}
use lib.ListN.{get_or, replicate}
use Rattle.sets.proofs.Below.{sum_start, sum_turn, fill_start, fill_turn, fill_end}
use Rattle.exported.proofs.ModelLaws.{stored_is, room_for}
use Rattle.exported.proofs.model_from.states_from.Goals as goal

pub loop-p-init : goal.loop-p-init
loop-p-init c = (sym (sum_start _), ap (replicate 512) c.head_from-states.ensures ∙ fill_start _ _ _)

pub overflow_add-place : goal.overflow_add-place
overflow_add-place c =
    omega (arith, c.byte-in-loop-p.ensures, room_for _ _ _ _ c.rest-own.ensures c.loop-p.invariant.0 c.loop-p-test.true c.requires)

pub loop-p-preserved : goal.loop-p-preserved
loop-p-preserved c =
    let inv = c.loop-p.invariant in
    let here = stored_is _ _ _ _ c.rest-own.ensures inv.0 in (
      sum_turn _ _ _ _ inv.0 (c.byte-in-loop-p.ensures ∙ ap (λ (d : List ℕ). get_or d 1 0) c.rest-own.ensures),
      rw inv.1 (fill_turn _ _ _ _ _ c.loop-p-test.true (rw (c.head_from.ensures, c.first_of.ensures, c.byte.ensures) here)),
    )

pub returns : goal.returns
returns c =
    let inv = c.loop-p.invariant in
    inv.1 ∙ fill_end _ _ _ _ c.loop-p.auto.p-end c.loop-p-test.false

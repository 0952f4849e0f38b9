use mathlib.Core.Path.{◌≡◌, sym, ap, ◌∙◌}
use mathlib.Core.List.{List}
use Prim.Native.Nat.{ℕ}
use native.Mathlib.Nat.{le_trans}
use native.Mathlib.Omega.{arith}
use lib.ListN.{get_or}
use Rattle.sets.proofs.Below.{sum_start, sum_turn, sum_has}
use Rattle.model.specs.Records.{blank_exit}
use Rattle.exported.specs.Bytes.{exit_line}
use Rattle.sets.proofs.LineStores.{line_start, line_turn, line_end}
use Rattle.exported.proofs.ModelLaws.{room_for}
use Rattle.exported.proofs.model_from.exits_from.Goals as goal

pub loop-p-init : goal.loop-p-init
loop-p-init c =
    let zero = c.default-line.ensures in
    let none : c.default-line.result ≡ blank_exit = λ i. record { target = zero.0 i; sender = zero.1.0 i; typ = zero.1.1 i } in
    (sym (sum_start _), rw none (line_start blank_exit _ _ _))

pub put_exits-requires : goal.put_exits-requires
put_exits-requires c = room_for _ _ _ _ c.rest-own.ensures c.loop-p.invariant.0 c.loop-p-test.true c.requires

pub overflow_add-place : goal.overflow_add-place
overflow_add-place c = omega (arith, c.byte.ensures, room_for _ _ _ _ c.rest-own.ensures c.loop-p.invariant.0 c.loop-p-test.true c.requires)

pub loop-p-preserved : goal.loop-p-preserved
loop-p-preserved c =
    let inv = c.loop-p.invariant in (
      sum_turn _ _ _ _ inv.0 (c.byte.ensures ∙ ap (λ (d : List ℕ). get_or d 1 0) c.rest-own.ensures),
      line_turn _ _ _ _ _ _ _ _ inv.1 inv.0
          (le_trans (sum_has _ _ 512 c.loop-p-test.true) c.requires)
          (rw c.rest-own.ensures at c.put_exits.ensures),
    )

pub returns : goal.returns
unfolding exit_line
returns c =
    let inv = c.loop-p.invariant in
    line_end _ _ _ _ _ _ 512 c.loop-p.auto.p-end c.loop-p-test.false inv.1

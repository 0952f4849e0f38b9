use mathlib.Core.Path.{sym, ap, ◌∙◌}
use mathlib.Core.List.{List}
use Prim.Native.Nat.{ℕ}
use borrow.Author.Rules.{rules}
use lib.ListN.{get_or}
use Rattle.sets.proofs.Below.{sum_start, sum_turn, sum_end}
use Rattle.exported.proofs.model_from.exits_in_all.Goals as goal

pub loop-p-init : goal.loop-p-init
loop-p-init c = (search rules, sym (sum_start _))

pub loop-p-preserved : goal.loop-p-preserved
loop-p-preserved c =
    (search rules, sum_turn _ _ _ _ c.loop-p.invariant.1 (c.byte.ensures ∙ ap (λ (own : List ℕ). get_or own 1 0) c.rest.ensures))

pub returns : goal.returns
returns c = sum_end _ _ _ 512 c.loop-p.auto.p-end c.loop-p-test.false c.loop-p.invariant.1

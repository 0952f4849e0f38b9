use mathlib.Core.Path.{refl, ap, ◌∙◌}
use Prim.Native.Nat.{ℕ, ◌+◌, ◌*◌}
use Rattle.sets.proofs.Stores.{each_start, each_turn, each_end}
use Rattle.std.proofs.lemmas.List.{get_or_default}
use Rattle.sets.specs.Stores.{stored}
use Rattle.exported.proofs.bytes.put_all.Goals as goal

pub loop-i-init : goal.loop-i-init
loop-i-init g c = (refl, each_start _ g.T.Bytes.SIZE (λ k. g.met.T.Bytes.sized _) _ _)

pub loop-i-preserved : goal.loop-i-preserved
loop-i-preserved g c =
    let inv = c.loop-i.invariant in (
      c.put.auto.room ∙ inv.0,
      each_turn _ g.T.Bytes.SIZE (λ k. g.met.T.Bytes.sized _) _ _ _ _ _ _ (ap (λ (s : ℕ). c.args.p + s * c.loop-i.i) c.SIZE.ensures) inv.1
          (c.put.ensures ∙ ap (λ (x : g.row.T.Denot). stored c.loop-i.room (c.args.p + c.SIZE.result * c.loop-i.i) (g.T.Bytes.bytes x)) (c.index-all-i.is ∙ get_or_default _ _ _ _ c.loop-i-test.true)),
    )

pub returns : goal.returns
returns g c =
    let inv = c.loop-i.invariant in
    each_end _ _ _ _ _ _ c.loop-i.auto.i-end c.loop-i-test.false inv.1

use Prim.Native.Nat.{ℕ}
use mathlib.Core.Path.{◌≡◌, sym, ap, ◌∙◌}
use mathlib.Core.List.{List}
use lib.ListN.{get_or}
use Rattle.sets.specs.Below.{all_below}
use Rattle.sets.proofs.Below.{all_start, all_more, all_stop, all_end}
use Rattle.engine.specs.configs.Subjects.{at}
use Rattle.engine.specs.configs.Valid.{place_right}
use Rattle.engine.specs.inner.Reads.{places_of}
use Rattle.engine.proofs.configs.FaultLaws.{masks_read}
use Rattle.engine.proofs.configs.valid.places_of.Invariants.{placed}
use Rattle.engine.proofs.configs.valid.places_of.Goals as goal
use Rattle.engine.proofs.configs.valid.places_of.Goals.{After-pool_placed}

-- the masks that are read are those of the configuration
placed_is : (e : After-pool_placed) → placed e.args.n e.args.types e.args.c.now e.loop-r.r ≡ e.pool_placed.result
placed_is e =
    let a = e.args in
    let r = e.loop-r.r in
    sym (e.pool_placed.ensures
    ∙ ap (λ (masks : List ℕ). all_below (λ s. place_right s (get_or masks s 0) (get_or a.types s 0) r (at a.c.now r).pool) a.n) e.masks_of-masks.ensures
    ∙ masks_read a.n a.types a.c.now r (at a.c.now r).pool e.requires)

pub loop-r-init : goal.loop-r-init
loop-r-init c = all_start _

pub returns-then-not-pool_placed : goal.returns-then-not-pool_placed
unfolding places_of
returns-then-not-pool_placed c =
    let found = placed_is (goal.at.returns-then-not-pool_placed c).After-pool_placed in
    sym (all_stop _ _ _ c.loop-r-test.true (found ∙ c.if-not-pool_placed.true))

pub loop-r-preserved : goal.loop-r-preserved
loop-r-preserved c =
    let found = placed_is (goal.at.loop-r-preserved c).After-pool_placed in
    all_more _ _ c.loop-r.invariant (found ∙ c.if-not-pool_placed.false)

pub returns : goal.returns
unfolding places_of
returns c = sym (all_end _ _ _ c.loop-r.auto.r-end c.loop-r-test.false c.loop-r.invariant)

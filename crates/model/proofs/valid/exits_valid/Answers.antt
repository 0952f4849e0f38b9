use mathlib.Core.Path.{◌≡◌, refl, sym, ◌∙◌}
use mathlib.Core.Bool.{Bool, true, false}
use mathlib.Core.List.{List}
use Prim.Native.Nat.{ℕ, ◌<◌, min}
use native.Mathlib.Omega.{arith}
use lib.Dec.{ltb}
use borrow.Author.Tests.{ltb-true, ltb-false}
use Rattle.sets.specs.Below.{all_below}
use Rattle.sets.proofs.Below.{all_start, all_more, all_stop, all_by, all_each}
use Rattle.model.specs.Valid.{exit_valid, unpacked}
use Rattle.model.specs.declared.Exit.{Exit}
use Rattle.model.specs.declared.Stored.{Stored}
use Rattle.model.proofs.BlankLaws.{has_exit, no_exit_lem}
use Rattle.model.proofs.valid.exits_valid.Goals as goal

-- past the last exit there is nothing to judge
rest : (exits : List Exit) (n states x : ℕ) (st : Stored) → x ≡ min st.exits 8
    → all_below (exit_valid n states (unpacked exits st)) x ≡ true → all_below (exit_valid n states (unpacked exits st)) 8 ≡ true
rest exits n states x st e h = all_by _ 8 (λ i l. go i l (ltb i x) refl)
  where
    go : (i : ℕ) → i < 8 → (b : Bool) → ltb i x ≡ b → exit_valid n states (unpacked exits st) i ≡ true
    go i l true g = all_each _ x h i (ltb-true i x g)
    go i l false g = no_exit_lem exits st n states i l (omega (arith, ltb-false i x g))

pub loop-x-init : goal.loop-x-init
loop-x-init c = all_start _

pub returns-then-not-exit_right : goal.returns-then-not-exit_right
returns-then-not-exit_right c =
    let few = c.exits_of-x-end.ensures in
    let t = c.loop-x-test.true in
    let a = c.args in
    let e = has_exit a.exits.now a.st a.n a.states c.loop-x.x (omega (arith, few, t)) (omega (arith, few, t)) ∙ sym (rw (c.exit_right.ensures, c.exit_no-e.ensures)) in
    sym (all_stop _ c.loop-x.x 8 (omega (arith, few, t)) (e ∙ c.if-not-exit_right.true))

pub loop-x-preserved : goal.loop-x-preserved
loop-x-preserved c =
    let few = c.exits_of-x-end.ensures in
    let t = c.loop-x-test.true in
    let a = c.args in
    let e = has_exit a.exits.now a.st a.n a.states c.loop-x.x (omega (arith, few, t)) (omega (arith, few, t)) ∙ sym (rw (c.exit_right.ensures, c.exit_no-e.ensures)) in
    all_more _ _ c.loop-x.invariant (e ∙ c.if-not-exit_right.false)

pub returns : goal.returns
returns c =
    let few = c.exits_of-x-end.ensures in
    sym (rest _ _ _ _ c.args.st (omega (arith, few, c.loop-x.auto.x-end, c.loop-x-test.false)) c.loop-x.invariant)

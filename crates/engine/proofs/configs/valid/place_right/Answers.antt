use mathlib.Core.Path.{◌≡◌, refl, sym}
use mathlib.Core.Bool.{Bool, true, false, ◌&&◌, not, cond}
use Prim.Native.Nat.{ℕ}
use lib.Dec.{eqb}
use Rattle.sets.specs.Lists.{counted}
use Rattle.sets.specs.Masks.{bit}
use Rattle.engine.specs.pools.Pools.{held, reservations}
use Rattle.engine.specs.declared.Pool.{Pool}
use Rattle.engine.specs.configs.Valid.{place_right}
use Rattle.engine.proofs.configs.valid.place_right.Goals as goal

-- an empty pool holds no reservation
empty : (s t : ℕ) (p : Pool) → p.count ≡ 0 → reservations s t (held p) ≡ 0
unfolding reservations held counted
empty s t p e = rw e

-- both counts are 0, which is right where r has no place
neither : (b : Bool) → (eqb 0 (cond b 1 0) && eqb 0 (cond b 1 0)) ≡ not b
neither true = refl
neither false = refl

pub returns-then-p-eq0 : goal.returns-then-p-eq0
unfolding place_right
returns-then-p-eq0 c =
    let a = c.args in
    let p = a.p.now in
    rw (empty a.s 255 p c.if-p-eq0.true, empty a.s a.typ p c.if-p-eq0.true, c.has-placed.ensures)
    (sym (neither (bit a.mask a.r)))

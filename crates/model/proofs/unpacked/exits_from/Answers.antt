use mathlib.Core.Path.{◌≡◌, refl, sym, ap, ◌∙◌}
use mathlib.Core.Bool.{Bool, true, false, cond}
use mathlib.Core.List.{List, ◌++◌}
use Prim.Native.Nat.{ℕ, ◌-◌, min}
use native.Mathlib.Omega.{arith}
use lib.Dec.{ltb, leb}
use lib.ListN.{replicate}
use borrow.Author.Tests.{lt-ltb, le-ltb, leb-true, leb-false}
use Rattle.sets.specs.Below.{filled}
use Rattle.sets.specs.Groups.{in_places}
use Rattle.sets.proofs.Below.{table_same, fill_start, fill_turn, fill_rest, fill_end}
use Rattle.model.specs.Records.{blank_exit}
use Rattle.model.specs.Valid.{exits_from}
use Rattle.model.specs.declared.Exit.{Exit}
use Rattle.model.proofs.unpacked.exits_from.Goals as goal

-- the first x places are filled, and there are no more
filled-places : (f : ℕ → Exit) (count x : ℕ) → x ≡ min count 8 → filled f blank_exit 8 x ≡ in_places 8 blank_exit count f
unfolding filled in_places
filled-places f count x e =
    ap (λ (l : List Exit). l ++ replicate (8 - x) blank_exit) (table_same f there x (λ k l. sym (rw (lt-ltb k count (omega arith))))) ∙ go (leb 8 count) refl
  where
    there : ℕ → Exit
    there k = cond (ltb k count) (f k) blank_exit

    go : (b : Bool) → leb 8 count ≡ b → filled there blank_exit 8 x ≡ in_places 8 blank_exit count f
    go true h = fill_end there blank_exit 8 x (omega arith) (omega (arith, leb-true 8 count h))
    go false h = fill_rest there blank_exit 8 x (omega arith) (λ k l. rw (le-ltb k count (omega (arith, leb-false 8 count h))))

pub loop-x-init : goal.loop-x-init
loop-x-init c = c.blank_exits-exit.ensures ∙ fill_start _ _ _

pub loop-x-preserved : goal.loop-x-preserved
loop-x-preserved c =
    let few = c.exits_of-own.ensures in
    rw c.loop-x.invariant (fill_turn _ _ _ _ _ (omega (arith, few, c.loop-x-test.true)) c.exit_no.ensures)

pub returns : goal.returns
unfolding exits_from
returns c =
    let few = c.exits_of-own.ensures in
    c.loop-x.invariant ∙ filled-places _ _ _ (omega (arith, few, c.loop-x.auto.x-end, c.loop-x-test.false))

use mathlib.Core.Path.{◌≡◌, refl, sym, ◌∙◌}
use mathlib.Core.Bool.{Bool, true, false}
use Prim.Native.Nat.{ℕ, ◌≤◌, ◌<◌}
use native.Mathlib.Omega.{arith}
use borrow.Author.Tests.{lt-ltb, le-ltb, ltb-true, ltb-false}
use lib.Dec.{ltb}
use Rattle.sets.specs.Below.{table, filled}
use Rattle.sets.specs.Groups.{in_places}
use Rattle.sets.proofs.Below.{fill_start, fill_turn, fill_rest, fill_end}
use Rattle.blocks.specs.Blocks.{count_of}
use Rattle.model.specs.Records.{blank_exit}
use Rattle.model.specs.Decoded.{all_exits}
use Rattle.model.proofs.decoded.all_exits.Goals as goal

-- as many as there are, or as have room, is all
fill_all : {A : Type 0} (f : ℕ → A) (z : A) (n i count : ℕ) → i ≤ n → (i < n → count ≤ i) → ((k : ℕ) → count ≤ k → f k ≡ z) → filled f z n i ≡ table f n
fill_all f z n i count h own none = go (ltb i n) refl
  where
    go : (b : Bool) → ltb i n ≡ b → filled f z n i ≡ table f n
    go true e = let last = own (ltb-true i n e) in fill_rest f z n i h (λ k l. none k (omega (arith, last, l)))
    go false e = let over = ltb-false i n e in fill_end f z n i h (omega (arith, over))

pub loop-j-init : goal.loop-j-init
loop-j-init c =
    let zero = c.default-exits.ensures in
    let none : c.default-exits.result ≡ blank_exit = λ i. record { target = zero.0 i; sender = zero.1.0 i; typ = zero.1.1 i } in
    rw none (fill_start _ _ _)

pub loop-j-preserved : goal.loop-j-preserved
loop-j-preserved c =
    let count = rw c.of-records.ensures at c.of-records.result.count_is in
    let read = rw c.of-records.ensures at (rw c.get.ensures at c.exit_of.ensures) in
    rw c.loop-j.invariant (fill_turn _ _ _ _ _ (omega (arith, c.loop-j-test.true)) (read ∙ sym (rw (lt-ltb c.loop-j.j (count_of c.args.file.now 3) (omega (arith, count, c.loop-j-test.true))))))

pub returns : goal.returns
unfolding all_exits in_places
returns c =
    let at = c.loop-j in
    let count = rw c.of-records.ensures at c.of-records.result.count_is in
    at.invariant
    ∙ fill_all _ _ 1024 _ (count_of c.args.file.now 3) (omega (arith, c.min-j-end.ensures, at.auto.j-end))
    (λ l. omega (arith, count, c.min-j-end.ensures, c.loop-j-test.false, l)) (λ k l. rw (le-ltb k (count_of c.args.file.now 3) l))

use mathlib.Core.Path.{◌≡◌, refl, ap, ◌∙◌}
use Prim.Native.Nat.{ℕ, ◌+◌}
use native.Mathlib.Nat.{le_antisymm}
use native.Mathlib.Numerals.{add-one}
use lib.Bits.{bit_or}
use lib.Dec.{eqb}
use Rattle.sets.specs.Below.{all_below}
use Rattle.model.specs.Valid.{row_at, is_blank_row}
use Rattle.model.specs.declared.Subject.{Subject}
use Rattle.model.proofs.BlankLaws.{or_none}
use Rattle.model.proofs.valid.rows_blank.Goals as goal

-- one row more
turn : (sub : Subject) (seen bits k : ℕ) → eqb seen 0 ≡ all_below (λ i. is_blank_row (row_at sub i)) k → eqb bits 0 ≡ is_blank_row (row_at sub k)
    → eqb (bit_or seen bits) 0 ≡ all_below (λ i. is_blank_row (row_at sub i)) (k + 1)
unfolding all_below
turn sub seen bits k h e = or_none seen bits ∙ rw (add-one, ← h, ← e)

pub loop-k-init : goal.loop-k-init
unfolding all_below
loop-k-init c = refl

pub loop-k-preserved : goal.loop-k-preserved
loop-k-preserved c = turn c.args.sub c.loop-k.seen c.row_bits-seen.result c.loop-k.k c.loop-k.invariant c.row_bits-seen.ensures

pub returns : goal.returns
returns c = let at = c.loop-k in at.invariant ∙ ap (all_below _) (le_antisymm at.auto.k-end c.loop-k-test.false)

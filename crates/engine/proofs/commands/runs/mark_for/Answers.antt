use mathlib.Core.Path.{◌≡◌, sym, ap, ◌∙◌}
use mathlib.Core.Bool.{Bool, true, false, ◌&&◌, ◌||◌, not}
use mathlib.Core.Logic.{◌≢◌}
use Prim.Native.Nat.{ℕ, ◌-◌, ◌*◌, ◌%◌, ◌^◌, ◌<◌, ◌≤◌}
use native.Mathlib.Omega.{arith}
use borrow.Author.Tests.{ne_eqb, lt-ltb}
use lib.Dec.{eqb}
use Rattle.std.specs.Int.Bits.{bit_and, bit_or}
use Rattle.std.proofs.lemmas.Nat.{and_le_l}
use Rattle.sets.specs.Masks.{bit, with_bit, without_bit}
use Rattle.sets.proofs.Masks.{shl_one, with_or, with_lt, bit_zero, bit_and_lem, bit_not, bit_with, bit_without, without_le, mask_same}
use Rattle.engine.specs.commands.Runs.{mark_for}
use Rattle.engine.proofs.commands.runs.mark_for.Goals as goal

one_bit : (k : ℕ) → with_bit 0 k ≡ 2 ^ k
unfolding with_bit
one_bit k = rw bit_zero (omega arith)

-- what is left of a mask where one bit is taken away by the contrary of that bit
without_and : (w m k : ℕ) → m < 2 ^ w → k < w → bit_and m (2 ^ w - 1 - 2 ^ k) ≡ without_bit m k
without_and w m k small below =
    let left : bit_and m (2 ^ w - 1 - 2 ^ k) ≤ m = and_le_l m (2 ^ w - 1 - 2 ^ k) in
    let right : without_bit m k ≤ m = without_le m k in
    let one : 2 ^ k < 2 ^ w = rw one_bit at (with_lt w 0 k (omega arith) below) in
    mask_same w _ _ (omega arith) (omega arith)
    (λ j less.
    bit_and_lem m (2 ^ w - 1 - 2 ^ k) j
    ∙ ap (λ (b : Bool). bit m j && b)
    (bit_not w j (2 ^ k) less one
    ∙ ap not (ap (λ (x : ℕ). bit x j) (sym (one_bit k)) ∙ bit_with 0 k j ∙ ap (λ (b : Bool). b || eqb j k) (bit_zero j)))
    ∙ sym (bit_without m k j))

-- one type's mark, closed and opened
closed : (typ mark : ℕ) → typ ≢ 255 → typ < 32 → bit_or mark (1 * 2 ^ typ % 2 ^ 32) ≡ mark_for true typ mark
unfolding mark_for
closed typ mark one l = rw (ne_eqb _ _ one, lt-ltb _ _ l, shl_one 32 _ l) (with_or _ _)

opened : (typ mark : ℕ) → typ ≢ 255 → typ < 32 → mark < 2 ^ 32 → bit_and mark (2 ^ 32 - 1 - 1 * 2 ^ typ % 2 ^ 32) ≡ mark_for false typ mark
unfolding mark_for
opened typ mark one l small = rw (ne_eqb _ _ one, lt-ltb _ _ l, shl_one 32 _ l) (without_and 32 _ _ small l)

pub returns-in-0-to-31-true : goal.returns-in-0-to-31-true
returns-in-0-to-31-true c = rw c.in-0-to-31-true.is-1 (closed c.args.typ c.args.mark c.in-0-to-31-true.is-0.1 (omega arith))

pub returns-in-0-to-31-false : goal.returns-in-0-to-31-false
returns-in-0-to-31-false c =
    rw c.in-0-to-31-false.is-1 (opened c.args.typ c.args.mark c.in-0-to-31-false.is-0.1 (omega arith) c.ranges.mark.fits)

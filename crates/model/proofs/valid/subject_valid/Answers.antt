use Prim.Native.Nat.{ℕ, ◌≤◌}
use mathlib.Core.Path.{◌≡◌, sym, ◌∙◌}
use mathlib.Core.Bool.{true, ◌&&◌}
use native.Mathlib.Omega.{arith}
use borrow.Author.Tests.{eqb-true, le-ltb}
use lib.Dec.{eqb}
use Rattle.sets.specs.Below.{all_below}
use Rattle.sets.proofs.Tests.{and_true, and_both}
use Rattle.sets.proofs.Below.{all_start, all_more, all_stop, all_end, all_same}
use Rattle.model.specs.Valid.{row_at, is_blank_row, subject_own, subject_valid, row_valid}
use Rattle.model.specs.declared.Subject.{Subject}
use Rattle.model.proofs.valid.subject_valid.Goals as goal

-- no row, where there is no subject
blank-rows : (n s : ℕ) (sub : Subject) (kind : ℕ) → n ≤ s → subject_own n s sub kind ≡ true
    → all_below (λ k. is_blank_row (row_at sub k)) 8 ≡ all_below (row_valid n sub) 8
unfolding subject_own row_valid
blank-rows n s sub kind l h =
    let none = eqb-true sub.rows 0 (and_both (eqb sub.states 0 && eqb sub.initial 0) (eqb sub.rows 0) (rw (le-ltb s n l) at h)).right in
    all_same _ _ 8 (λ k b. rw (le-ltb k sub.rows (omega arith)))

pub returns-then-not-subject_own : goal.returns-then-not-subject_own
unfolding subject_valid
returns-then-not-subject_own c = rw (sym c.subject_own.ensures ∙ c.if-not-subject_own.true)

pub returns-then-n-s : goal.returns-then-n-s
unfolding subject_valid
returns-then-n-s c =
    let h = sym c.subject_own.ensures ∙ c.if-not-subject_own.false in
    rw h (c.rows_blank.ensures ∙ blank-rows _ _ _ _ c.if-n-s.true h)

pub loop-k-init : goal.loop-k-init
loop-k-init c = all_start _

pub returns-then-not-row_valid : goal.returns-then-not-row_valid
unfolding subject_valid
returns-then-not-row_valid c =
    rw (sym c.subject_own.ensures ∙ c.if-not-subject_own.false)
    (sym (all_stop _ _ _ c.loop-k-test.true (sym c.row_valid.ensures ∙ c.if-not-row_valid.true)))

pub loop-k-preserved : goal.loop-k-preserved
loop-k-preserved c = all_more _ _ c.loop-k.invariant (sym c.row_valid.ensures ∙ c.if-not-row_valid.false)

pub returns : goal.returns
unfolding subject_valid
returns c =
    sym (and_true (sym c.subject_own.ensures ∙ c.if-not-subject_own.false) (all_end _ _ _ c.loop-k.auto.k-end c.loop-k-test.false c.loop-k.invariant))

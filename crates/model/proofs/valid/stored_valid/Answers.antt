use mathlib.Core.Path.{◌≡◌, refl, sym, ap, ◌∙◌}
use mathlib.Core.List.{List}
use Prim.Native.Nat.{ℕ}
use Rattle.model.specs.Records.{with_exits}
use Rattle.model.specs.Rules.{state_fits, state_reaches, state_fits_in}
use Rattle.sets.proofs.Tests.{not_both}
use Rattle.model.specs.Valid.{exits_from, stored_valid}
use Rattle.model.specs.declared.Exit.{Exit}
use Rattle.model.specs.declared.Stored.{Stored}
use Rattle.model.proofs.valid.stored_valid.Goals as goal
use Rattle.model.proofs.valid.stored_valid.Goals.{then-state_fits_in, else-state_fits_in}

-- the fields are right whatever the exits are
any_exits : (n states : ℕ) (st : Stored) (es fs : List Exit) → state_fits_in n states (with_exits st es) ≡ state_fits_in n states (with_exits st fs)
unfolding state_fits state_reaches with_exits
any_exits n states st es fs = refl

pub returns-then-st-place : goal.returns-then-st-place
unfolding stored_valid
returns-then-st-place c =
    let a = c.args in
    let fits = c.state_fits_in.ensures ∙ ap (state_fits_in a.n a.states) c.with_exits-own.ensures ∙ any_exits a.n a.states a.st c.blank_exits.result (exits_from a.exits.now a.st) in
    elim c.if-state_fits_in.branch [
      | then-state_fits_in w ↦ c.exits_valid.ensures ∙ sym (rw (sym fits ∙ w.if-state_fits_in.true, sym w.value-is ∙ c.if-st-place.true))
      | else-state_fits_in w ↦ absurd (not_both c.if-st-place.true (w.value-is ∙ w.if-state_fits_in.false))
    ]

pub returns-else-st-place : goal.returns-else-st-place
unfolding stored_valid
returns-else-st-place c =
    let a = c.args in
    let fits = c.state_fits_in.ensures ∙ ap (state_fits_in a.n a.states) c.with_exits-own.ensures ∙ any_exits a.n a.states a.st c.blank_exits.result (exits_from a.exits.now a.st) in
    c.if-st-place.false
    ∙ (elim c.if-state_fits_in.branch [
      | then-state_fits_in w ↦ sym (rw (sym fits ∙ w.if-state_fits_in.true, sym w.value-is ∙ c.if-st-place.false))
      | else-state_fits_in w ↦ sym (rw (sym fits ∙ w.if-state_fits_in.false))
    ])

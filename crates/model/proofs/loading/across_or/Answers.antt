use mathlib.Core.Path.{sym, ◌∙◌}
use Rattle.model.specs.Loading.{across_or}
use Rattle.model.proofs.loading.across_or.Goals as goal
use Rattle.model.proofs.loading.across_or.Goals.{else-in_place-via-then-in_place+else-is_valid, else-in_place-via-else-in_place}

pub returns-then-is_valid : goal.returns-then-is_valid
unfolding across_or
returns-then-is_valid c =
    let place = sym c.in_place.ensures ∙ c.if-in_place.true in
    let valid = sym c.is_valid.ensures ∙ c.if-is_valid.true in
    rw (place, ← c.model-model.ensures, valid)

pub returns-else-in_place : goal.returns-else-in_place
unfolding across_or
returns-else-in_place c =
    elim c.else-in_place.branch [
      | else-in_place-via-then-in_place+else-is_valid w ↦
          let place = sym c.in_place.ensures ∙ w.if-in_place.true in
          let valid = sym w.is_valid.ensures ∙ w.if-is_valid.false in
          rw (place, ← c.model-model.ensures, valid) c.not_loaded.ensures
      | else-in_place-via-else-in_place w ↦ rw (sym c.in_place.ensures ∙ w.if-in_place.false) c.not_loaded.ensures
    ]

-- Model P is valid and loads from its own file.
use mathlib.Core.Path.{◌≡◌, refl}
use mathlib.Core.Bool.{Bool, true, ◌&&◌}
use borrow.Author.Tests.{eqb-true, ltb-true}
use lib.Dec.{eqb, ltb}
use lib.ListN.{length}
use Rattle.sets.specs.Below.{all_below, sum_below, table_from}
use Rattle.sets.specs.Groups.{in_places}
use Rattle.sets.proofs.Below.{all_each}
use Rattle.sets.proofs.Tests.{and_both}
use Rattle.model.specs.Records.{with_exits}
use Rattle.model.specs.Rules.{shape_of, names_fit, state_fits, exit_fits, row_fits, state_reaches, exit_reaches, row_reaches}
use Rattle.model.specs.Sizes.{most_subjects, state_places, most_exits_in_all, most_rows}
use Rattle.model.specs.Valid.{subject_at, stored_at, is_blank_state, exit_valid, state_own, state_valid, row_valid, subject_own, subject_valid, subject_right, exits_from, first_right, state_right, exits_in_all, none_after, no_more_exits, valid, Held}
use Rattle.model.specs.declared.Model.{Model}
use Rattle.model_promises.specs.Promises.{PLoads}
use Rattle.model_promises.specs.Samples.{model_p}
use Rattle.model_promises.proofs.Loads.{valid_loads}

pub p_valid : valid model_p ≡ true
unfolding model_p valid all_below sum_below table_from in_places with_exits exits_from subject_right state_right first_right exits_in_all none_after no_more_exits subject_valid subject_own row_valid state_valid state_own exit_valid is_blank_state shape_of names_fit state_fits exit_fits row_fits state_reaches exit_reaches row_reaches
p_valid = refl

-- its arrays have their length and its durations their width, as a test
unfoldable pub fits_machine : Model → Bool
fits_machine m =
    (eqb (length m.subjects) most_subjects && eqb (length m.states) state_places)
    && eqb (length m.exits) most_exits_in_all
    && (all_below (λ s. eqb (length (subject_at m s).row) most_rows) most_subjects && all_below (λ p. ltb (stored_at m p).after 65536) state_places)

-- the machine can hold a model that passes
pub fits_held : (m : Model) → fits_machine m ≡ true → Held m
unfolding fits_machine
fits_held m h =
    let b = and_both _ _ h in
    let a = and_both _ _ b.left in
    let lengths = and_both _ _ a.left in
    let each = and_both _ _ b.right in
    record {
      subjects = eqb-true _ _ lengths.left;
      states = eqb-true _ _ lengths.right;
      rows = λ s l. eqb-true _ _ (all_each (λ s. eqb (length (subject_at m s).row) most_rows) most_subjects each.left s l);
      exits = eqb-true _ _ a.right;
      afters = λ p l. ltb-true _ _ (all_each (λ p. ltb (stored_at m p).after 65536) state_places each.right p l);
    }

pub p_held : Held model_p
unfolding model_p all_below fits_machine
p_held = fits_held model_p refl

pub p_loads : PLoads
p_loads = valid_loads model_p p_held p_valid

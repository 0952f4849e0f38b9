-- What validity tells of the numbers by which a loop over subjects, states and rows reads its arrays.
use mathlib.Core.Path.{◌≡◌, refl}
use mathlib.Core.Bool.{true, false, ◌&&◌}
use Prim.Native.Nat.{ℕ, ◌≤◌, ◌<◌}
use native.Mathlib.Nat.{le_trans}
use borrow.Author.Tests.{ltb-true, lt-ltb, le-ltb}
use Rattle.sets.specs.Below.{all_below}
use Rattle.sets.proofs.Below.{all_each}
use Rattle.sets.proofs.Tests.{and_both, and_false}
use Rattle.model.specs.Sizes.{most_subjects, most_states, most_rows}
use Rattle.model.specs.Valid.{subject_at, valid}
use Rattle.model.specs.declared.Model.{Model}
use Rattle.model.specs.declared.State.{State}
use Rattle.model.specs.declared.Subject as model_subject
use Rattle.model_promises.proofs.Facts.{model_good}
use Rattle.engine.specs.configs.Subjects.{at, here_of}
use Rattle.engine.specs.configs.Valid.{mode_right, state_there, end_right, sleep_right, wait_right, mask_right, fields_right, subject_valid, subject_right}
use Rattle.engine.specs.declared.Config.{Config}
use Rattle.engine.specs.declared.Subject.{Subject}
use Rattle.engine.proofs.configs.ModelFacts.{n_high}

-- ---- of a valid model

pub few_states : (m : Model) (s : ℕ) → valid m ≡ true → s < most_subjects → (subject_at m s).states ≤ most_states
few_states m s v l = ((model_good m v).subject s l).states

pub few_rows : (m : Model) (s : ℕ) → valid m ≡ true → s < m.n → (subject_at m s).rows ≤ most_rows
few_rows m s v l = ((model_good m v).subject s (le_trans l (n_high m v))).rows

-- ---- of the state in which a subject is

-- a subject in a state that is not there is not valid
pub state_gone : (n : ℕ) (own : model_subject.Subject) (here : State) (x : Subject) → own.states ≤ x.state → subject_valid n own here x ≡ false
unfolding subject_valid fields_right
state_gone n own here x h = rw (le-ltb x.state own.states h, and_false (mode_right x) false refl)

-- a subject that is right is in a state that is there
pub state_there_lem : (m : Model) (c : Config) (s : ℕ) → s < most_subjects → s < m.n → all_below (subject_right m c) most_subjects ≡ true → (at c s).state < (subject_at m s).states
unfolding subject_right subject_valid fields_right
state_there_lem m c s l g h =
    let x = at c s in
    let own = subject_at m s in
    let here = here_of m c s in
    let right = rw (lt-ltb s m.n g) at (all_each (subject_right m c) most_subjects h s l) in
    let fields = (and_both (fields_right own here x) _ right).left in
    let first = (and_both ((mode_right x && state_there own x) && (end_right here x && sleep_right own x)) (wait_right x && mask_right here x) fields).left in
    let there = (and_both (mode_right x && state_there own x) (end_right here x && sleep_right own x) first).left in
    ltb-true x.state own.states (and_both (mode_right x) (state_there own x) there).right

use mathlib.Core.Path.{◌≡◌, sym, ap, ◌∙◌}
use Prim.Native.Nat.{ℕ}
use native.Mathlib.Omega.{arith}
use lib.ListN.{length}
use Rattle.std.specs.List.{sum_by}
use Rattle.sets.specs.Below.{sum_below}
use Rattle.sets.proofs.Chains.{sum_below_list}
use Rattle.model.specs.Records.{blank_stored}
use Rattle.model.specs.Valid.{no_subject, subject_at}
use Rattle.model.specs.declared.Model.{Model}
use Rattle.model.specs.declared.Stored.{Stored}
use Rattle.model.specs.declared.Subject.{Subject}
use Rattle.model.proofs.Facts.{model_good}
use Rattle.model.proofs.KindLaws.{exits_kept}
use Rattle.model.proofs.FileLaws.{blocks_in_all, few_states, few_rows, few_exits}
use Rattle.model.proofs.writing.block_count.Goals as goal

-- what is summed over the subjects, and over the states
subjects_sum : (m : Model) (f : Subject → ℕ) → length m.subjects ≡ 16 → sum_by f m.subjects ≡ sum_below (λ s. f (subject_at m s)) 16
subjects_sum m f l = sym (sum_below_list f m.subjects no_subject) ∙ ap (sum_below (λ s. f (subject_at m s))) l

exits_sum : (m : Model) → length m.states ≡ 512 → sum_by (λ (st : Stored). st.exits) m.states ≡ sum_below (exits_kept m) 512
exits_sum m l = sym (sum_below_list (λ (st : Stored). st.exits) m.states blank_stored) ∙ ap (sum_below (exits_kept m)) l

pub blocks_for-requires : goal.blocks_for-requires
blocks_for-requires c =
    let m = c.args.m.now in
    omega (arith, c.states_in_all-states.ensures, subjects_sum m (λ sub. sub.states) (omega arith), few_states m (model_good _ c.requires))

pub blocks_for-requires-2 : goal.blocks_for-requires-2
blocks_for-requires-2 c =
    let m = c.args.m.now in
    omega (arith, c.exits_in_all-exits.ensures, exits_sum m (omega arith), few_exits m (model_good _ c.requires))

pub blocks_for-requires-3 : goal.blocks_for-requires-3
blocks_for-requires-3 c =
    let m = c.args.m.now in
    omega (arith, c.rows_in_all-rows.ensures, subjects_sum m (λ sub. sub.rows) (omega arith), few_rows m (model_good _ c.requires))

pub returns : goal.returns
returns c =
    let m = c.args.m.now in
    omega (
      arith,
      blocks_in_all m (model_good _ c.requires),
      c.blocks_for-3.ensures,
      c.blocks_for-2.ensures,
      c.blocks_for.ensures,
      c.states_in_all-states.ensures ∙ subjects_sum m (λ sub. sub.states) (omega arith),
      c.exits_in_all-exits.ensures ∙ exits_sum m (omega arith),
      c.rows_in_all-rows.ensures ∙ subjects_sum m (λ sub. sub.rows) (omega arith),
    )

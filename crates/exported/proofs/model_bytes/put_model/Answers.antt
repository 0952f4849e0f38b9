use mathlib.Core.Path.{refl}
use mathlib.Core.List.{List, [], ◌∷◌}
use Prim.Native.Nat.{ℕ}
use native.Mathlib.Omega.{arith}
use lib.ListN.{length}
use Rattle.blocks.specs.Made.{two_bytes}
use Rattle.model.specs.Valid.{subject_at}
use Rattle.sets.specs.Stores.{each_of}
use Rattle.exported.specs.Bytes.{own_bytes, model_bytes}
use Rattle.exported.specs.Sizes.{length_own}
use Rattle.sets.proofs.Stores.{chained, chained_from, chained_stored, stored_more, length_each, each_end}
use Rattle.exported.proofs.model_bytes.put_model.Goals as goal

pub returns : goal.returns
unfolding chained chained_from model_bytes
returns c =
    let m = c.args.m.now in
    let own : ℕ → List ℕ = λ s. own_bytes (subject_at m s) in
    let subjects = each_end own c.put.new.room c.put_all.new.room 3 (length m.subjects) 16 (omega arith) (omega arith) c.put_all.ensures in
    let states = stored_more _ _ _ (each_of own 16) _ 3 435 subjects c.put_states.ensures (omega (arith, length_each own 27 (λ s. length_own _) 16)) in
    let start = stored_more _ _ _ (two_bytes m.start) _ 1 3 c.put.ensures states refl in
    stored_more _ _ _ (m.n ∷ []) _ 0 1 (chained_stored _ 0 (_ ∷ [])) start refl

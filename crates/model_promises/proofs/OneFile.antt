-- One file for each model: a file of bytes that loads is the file of its model.
use mathlib.Core.Path.{◌≡◌, sym, subst, ◌∙◌}
use mathlib.Core.List.{List}
use Prim.Native.Nat.{ℕ}
use Rattle.sets.proofs.Tests.{and_both}
use Rattle.model.specs.Decoded.{model_of, in_place}
use Rattle.model.specs.File.{file_of}
use Rattle.model.specs.Valid.{valid, Held}
use Rattle.model.specs.declared.Model.{Model}
use Rattle.model.proofs.Facts.{model_good}
use Rattle.model_promises.specs.Loads.{AreBytes, LoadsTo}
use Rattle.model_promises.specs.Promises.{OneFile}
use Rattle.model_promises.proofs.Again.{Made, made}
use Rattle.model_promises.proofs.Loads.{loading, loads_valid, loads_held, valid_loads}
use Rattle.model_promises.proofs.SameFile.{same_file}
use Rattle.model_promises.proofs.Shown.{placed}

-- a file of bytes that loads has the records of the model
loads_made : (file : List ℕ) (m : Model) → AreBytes file → LoadsTo file m → Made file m
loads_made file m bytes h =
    let l = loading file m h in
    let a = and_both (in_place file) (valid (model_of file)) l.across in
    let held = subst Held l.model (loads_held file m bytes h) in
    subst (Made file) (sym l.model) (made file bytes l.stages.one l.stages.three l.stages.four (placed file a.left) held (model_good (model_of file) a.right))

-- two files of bytes that load to one model are one file
pub loads_once : (f g : List ℕ) (m : Model) → AreBytes f → AreBytes g → LoadsTo f m → LoadsTo g m → f ≡ g
loads_once f g m bf bg hf hg =
    let x = loads_made f m bf hf in
    let y = loads_made g m bg hg in
    same_file f g (loading f m hf).stages (loading g m hg).stages
    (record {
      counts = λ k lo hi. x.counts k lo hi ∙ sym (y.counts k lo hi);
      records = λ k j lo hi h. x.records k j lo hi h ∙ sym (y.records k j lo hi (rw (x.counts k lo hi, ← (y.counts k lo hi)) at h));
    })
    bf bg

-- a file of bytes that loads is the file of its model
pub loads_own : (file : List ℕ) (m : Model) → AreBytes file → LoadsTo file m → file ≡ file_of m
loads_own file m bytes h =
    let own = valid_loads m (loads_held file m bytes h) (loads_valid file m h) in
    loads_once file (file_of m) m bytes own.0 h own.1

pub one_file : OneFile
one_file file m bytes held = (
  λ h. (loads_valid file m h, loads_own file m bytes h),
  λ v. subst (λ (s : List ℕ). LoadsTo s m) (sym v.1) (valid_loads m held v.0).1,
)

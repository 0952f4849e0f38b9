-- What loads is valid, a valid model is loaded from its own file, and each verdict means what it says.
use Rattle.std.specs.Prelude.{Option, Some, None, Ok, Err}
use mathlib.Core.Path.{◌≡◌, refl, sym, ap, subst, ◌∙◌}
use mathlib.Core.Bool.{Bool, true, false, cond}
use mathlib.Core.List.{List}
use Prim.Native.Nat.{ℕ, ◌/◌, ◌%◌, ◌<◌}
use native.Mathlib.Omega.{arith}
use lib.Dec.{ltb}
use lib.ListN.{length}
use Rattle.sets.proofs.Bytes.{byte_at, bytes_by}
use Rattle.sets.specs.Below.{first_not}
use Rattle.sets.specs.Groups.{place_in}
use Rattle.sets.proofs.Groups.{length_in_places}
use Rattle.sets.proofs.Tests.{and_true, and_both, choose}
use Rattle.sets.proofs.Below.{first_each, first_is, first_by, first_found, length_table, table_at}
use Rattle.blocks.proofs.BlockLaws.{record_from_bytes}
use Rattle.blocks.specs.Blocks.{blocks, block_of, check_right, first_block}
use Rattle.model.specs.Decoded.{subjects_in, rows_from, subject_in, states_in, has_state, stored_in, all_exits, model_of, in_place}
use Rattle.model.specs.Records.{blank_stored, stored_of}
use Rattle.model.specs.Loading.{loaded, across_right, across_or, not_loaded, unless_at, empty_model}
use Rattle.model.specs.Stages.{length_right, block_right, records_right}
use Rattle.model.specs.File.{file_of, records_of}
use Rattle.model.specs.Valid.{no_subject, valid, Held}
use Rattle.model.specs.declared.Loaded.{Loaded}
use Rattle.model.specs.declared.Model.{Model}
use Rattle.model.specs.declared.Stored.{Stored}
use Rattle.model.specs.declared.Subject.{Subject}
use Rattle.blocks.specs.Verdicts.{Verdict, no_fault}
use Rattle.blocks.specs.declared.Fault.TheVariants.{Length, Check, Block, Record, Across}
use Rattle.blocks.specs.declared.Fault.{Fault}
use Rattle.model_promises.specs.Loads.{AreBytes, LoadsTo, Passes1, Passes2, Passes3, Passes4, FirstWrong, Means, wrong_length, wrong_check, wrong_block, wrong_record, wrong_across, all_right}
use Rattle.model_promises.specs.Promises.{VerdictMeans, VerdictMeant, RefusedEmpty, LoadsValid, LoadsHeld, ValidLoads, ValidExactly}
use Rattle.model_promises.proofs.Back.{model_back, place_back}
use Rattle.model.proofs.Facts.{model_good}
use Rattle.model.proofs.Lines.{sound}
use Rattle.model.proofs.Packed.{packed}
use Rattle.model_promises.proofs.Right as right

-- ---- what each verdict means

first_wrong : (p : ℕ → Bool) (file : List ℕ) (b : ℕ) → first_not p (blocks file) ≡ Some b → FirstWrong (λ a. p a ≡ true) (λ a. p a ≡ false) file b
first_wrong p file b h = let f = first_is p (blocks file) b h in record { there = f.below; is_wrong = f.fails; before = f.before }

pub means : VerdictMeans
unfolding loaded across_or
means file = one (length_right file) refl
  where
    last : Passes1 file → Passes2 file → Passes3 file → Passes4 file → (x : Bool) → across_right file ≡ x → Means file (across_or file).verdict
    last p1 p2 p3 p4 true e = subst (λ (x : Bool). Means file (cond x (record { model = model_of file; verdict = no_fault }) (not_loaded Across)).verdict) (sym e) (all_right p1 p2 p3 p4 e)
    last p1 p2 p3 p4 false e = subst (λ (x : Bool). Means file (cond x (record { model = model_of file; verdict = no_fault }) (not_loaded Across)).verdict) (sym e) (wrong_across p1 p2 p3 p4 e)

    four : Passes1 file → Passes2 file → Passes3 file → (x : Option ℕ) → first_not (records_right file) (blocks file) ≡ x → Means file (unless_at x Record (across_or file)).verdict
    four p1 p2 p3 (Some b) e = wrong_record p1 p2 p3 (first_wrong (records_right file) file b e)
    four p1 p2 p3 None e = last p1 p2 p3 (first_each (records_right file) (blocks file) e) (across_right file) refl

    three : Passes1 file → Passes2 file → (x : Option ℕ) → first_not (block_right file) (blocks file) ≡ x
        → Means file (unless_at x Block (unless_at (first_not (records_right file) (blocks file)) Record (across_or file))).verdict
    three p1 p2 (Some b) e = wrong_block p1 p2 (first_wrong (block_right file) file b e)
    three p1 p2 None e = four p1 p2 (first_each (block_right file) (blocks file) e) (first_not (records_right file) (blocks file)) refl

    two : Passes1 file → (x : Option ℕ) → first_not (λ b. check_right (block_of file b)) (blocks file) ≡ x
        → Means file (unless_at x Check (unless_at (first_not (block_right file) (blocks file)) Block (unless_at (first_not (records_right file) (blocks file)) Record (across_or file)))).verdict
    two p1 (Some b) e = wrong_check p1 (first_wrong (λ a. check_right (block_of file a)) file b e)
    two p1 None e = three p1 (first_each (λ a. check_right (block_of file a)) (blocks file) e) (first_not (block_right file) (blocks file)) refl

    one : (x : Bool) → length_right file ≡ x → Means file (loaded file).verdict
    one true e = rw e (two e (first_not (λ b. check_right (block_of file b)) (blocks file)) refl)
    one false e = rw e (wrong_length e)

-- the other way round: a verdict is given where it means what is so
first_at : (p : ℕ → Bool) (file : List ℕ) (b : ℕ) → FirstWrong (λ a. p a ≡ true) (λ a. p a ≡ false) file b → first_not p (blocks file) ≡ Some b
first_at p file b w = first_found p b (blocks file) (first_by p b w.before) w.is_wrong w.there

pub meant : VerdictMeant
unfolding loaded across_or
meant file v (wrong_length e) = rw e
meant file v (wrong_check {b} p1 w) = rw (p1, first_at (λ a. check_right (block_of file a)) file b w)
meant file v (wrong_block {b} p1 p2 w) =
    rw (p1, first_by (λ a. check_right (block_of file a)) (blocks file) p2, first_at (block_right file) file b w)
meant file v (wrong_record {b} p1 p2 p3 w) =
    rw (p1, first_by (λ a. check_right (block_of file a)) (blocks file) p2, first_by (block_right file) (blocks file) p3, first_at (records_right file) file b w)
meant file v (wrong_across p1 p2 p3 p4 e) =
    rw (p1, first_by (λ a. check_right (block_of file a)) (blocks file) p2, first_by (block_right file) (blocks file) p3, first_by (records_right file) (blocks file) p4, e)
meant file v (all_right p1 p2 p3 p4 e) =
    rw (p1, first_by (λ a. check_right (block_of file a)) (blocks file) p2, first_by (block_right file) (blocks file) p3, first_by (records_right file) (blocks file) p4, e)

-- ---- what loads is valid

-- where everything is right, the model is that of the records
pub good_model : (file : List ℕ) → Passes1 file → Passes2 file → Passes3 file → Passes4 file → across_right file ≡ true → LoadsTo file (model_of file)
unfolding loaded across_or
good_model file p1 p2 p3 p4 e =
    rw (p1, first_by (λ a. check_right (block_of file a)) (blocks file) p2, first_by (block_right file) (blocks file) p3, first_by (records_right file) (blocks file) p4, e)

-- stages 1 to 4 find nothing wrong
pub record Passed (file : List ℕ) : Type 0 where
  pub one : Passes1 file
  pub two : Passes2 file
  pub three : Passes3 file
  pub four : Passes4 file

-- a file that loads: the model is that of its records, every stage passes, and no rule across records is broken
pub record Loading (file : List ℕ) (m : Model) : Type 0 where
  pub model : m ≡ model_of file
  pub stages : Passed file
  pub across : across_right file ≡ true

never : {A : Type 0} (f : Verdict → ℕ) (v w : Verdict) → v ≡ w → (f v ≡ f w → ⊥) → A
never f v w e h = absurd (h (ap f e))

abbrev is_good : Verdict → ℕ
is_good (Ok done) = 1
is_good (Err Length) = 0
is_good (Err (Check b)) = 0
is_good (Err (Block b)) = 0
is_good (Err (Record b)) = 0
is_good (Err Across) = 0

pub loading : (file : List ℕ) (m : Model) → LoadsTo file m → Loading file m
loading file m h = go (loaded file).verdict (means file) (ap (λ (x : Loaded). x.verdict) h)
  where
    go : (v : Verdict) → Means file v → v ≡ no_fault → Loading file m
    go v (wrong_length e) g = never is_good (Err Length) no_fault g (λ z. omega arith)
    go v (wrong_check {b} p w) g = never is_good (Err (Check b)) no_fault g (λ z. omega arith)
    go v (wrong_block {b} p q w) g = never is_good (Err (Block b)) no_fault g (λ z. omega arith)
    go v (wrong_record {b} p q r w) g = never is_good (Err (Record b)) no_fault g (λ z. omega arith)
    go v (wrong_across p q r s e) g = never is_good (Err Across) no_fault g (λ z. omega arith)
    go v (all_right p1 p2 p3 p4 e) g =
        record {
          model = ap (λ (x : Loaded). x.model) (sym h ∙ good_model file p1 p2 p3 p4 e);
          stages = record { one = p1; two = p2; three = p3; four = p4 };
          across = e;
        }

pub loads_valid : LoadsValid
loads_valid file m h =
    let l = loading file m h in
    subst (λ (x : Model). valid x ≡ true) (sym l.model) (and_both (in_place file) (valid (model_of file)) l.across).right

-- ---- a valid model is loaded from its own file

pub valid_loads : ValidLoads
unfolding file_of
valid_loads m held ok =
    let good = model_good m ok in
    let pk = packed (records_of m) (sound m held good) in
    let back = model_back m held good (file_of m) pk in
    let across = and_true (place_back m held good (file_of m) pk) (subst (λ (x : Model). valid x ≡ true) (sym back) ok) in
    (pk.are_bytes, good_model (file_of m) pk.length_right_lem pk.checks pk.blocks_right (right.all_right m held good (file_of m) pk) across ∙ ap (λ (x : Model). record { model = x; verdict = no_fault }) back)

-- ---- what loads is a model that the machine can hold

subject_row : (file : List ℕ) (s : ℕ) → length (subject_in file s).row ≡ 8
unfolding subject_in rows_from
subject_row file s = choose (λ (x : Subject). length x.row ≡ 8) (ltb s (subjects_in file)) (λ _. length_in_places 8 _ _ _) (λ _. refl)

-- a duration is two bytes
state_after : (file : List ℕ) (p : ℕ) → AreBytes file → (stored_in file p).after < 65536
unfolding stored_in stored_of
state_after file p h =
    choose (λ (x : Stored). x.after < 65536) (has_state file p)
    (λ _. let b = byte_at (record_from_bytes file (first_block file 2) (place_in (states_in file) (p / 32) (p % 32)) (bytes_by file h)) in omega (arith, b 6, b 7))
    (λ _. omega arith)

-- the exits, in 1,024 places
all_exits_lem : (file : List ℕ) → length (all_exits file) ≡ 1024
unfolding all_exits
all_exits_lem file = length_in_places 1024 _ _ _

model_held : (file : List ℕ) → AreBytes file → Held (model_of file)
unfolding model_of
model_held file h =
    record {
      subjects = length_table (subject_in file) 16;
      states = length_table (stored_in file) 512;
      rows = λ s l. rw (table_at (subject_in file) 16 s no_subject l) (subject_row file s);
      exits = all_exits_lem file;
      afters = λ p l. rw (table_at (stored_in file) 512 p blank_stored l) (state_after file p h);
    }

pub loads_held : LoadsHeld
loads_held file m b h = subst Held (sym (loading file m h).model) (model_held file b)

pub valid_exactly : ValidExactly
valid_exactly m held = (λ ok. let l = valid_loads m held ok in (file_of m, l.0, l.1), λ f. loads_valid f.0 m f.2)

pub refused_empty : RefusedEmpty
unfolding loaded across_or
refused_empty file =
    choose P (length_right file)
    (λ _. at Check (first_not (λ b. check_right (block_of file b)) (blocks file))
    (at Block (first_not (block_right file) (blocks file))
    (at Record (first_not (records_right file) (blocks file))
    (choose P (across_right file) (λ _ h. absurd (h refl)) (λ _ h. refl)))))
    (λ _ h. refl)
  where
    P : Loaded → Type 0
    P x = (x.verdict ≡ no_fault → ⊥) → x.model ≡ empty_model

    at : (why : ℕ → Fault) (f : Option ℕ) {next : Loaded} → P next → P (unless_at f why next)
    at why (Some b) p = λ h. refl
    at why None p = p

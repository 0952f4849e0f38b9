-- What writing a model promises: each refusal exactly where its rule holds, what it leaves, and that what is written loads.
use Rattle.std.specs.Prelude.{Result, Ok, Err}
use mathlib.Core.Path.{◌≡◌, refl, sym, ap, subst, ◌∙◌}
use mathlib.Core.Bool.{Bool, true, false}
use mathlib.Core.Logic.{◌≢◌}
use mathlib.Core.List.{List}
use Prim.Native.Nat.{ℕ, ◌+◌, ◌-◌, ◌≤◌, ◌<◌}
use native.Mathlib.Omega.{arith}
use borrow.Author.Tests.{ltb-true, ltb-false}
use lib.Dec.{ltb}
use lib.ListN.{length, get_or, take, drop}
use lib.Seq.{take_at, get_or-append-add, get_or-drop}
use Rattle.sets.specs.Stores.{onto}
use Rattle.sets.proofs.Tests.{not_both}
use Rattle.model.specs.File.{file_of}
use Rattle.model.specs.Valid.{valid}
use Rattle.model.specs.Writing.{refusal_of, length_of, written_as, buffer_of}
use Rattle.model.specs.declared.Model.{Model}
use Rattle.model.specs.declared.Unwritten.{Unwritten}
use Rattle.model.specs.declared.Unwritten.TheVariants.{NotValid, TooShort}
use Rattle.model.proofs.FileLaws as file
use Rattle.model_promises.specs.Loads.{AreBytes, LoadsTo}
use Rattle.model_promises.specs.Promises.{WritesExactly}
use Rattle.model_promises.proofs.Loads.{loads_valid, valid_loads}
use Rattle.model_promises.proofs.OneFile.{loads_own}

-- ---- the three answers

data Answers (m : Model) (room : ℕ) : Result ℕ Unwritten → Type 0 where
  bad : valid m ≡ false → Answers m room (Err NotValid)
  short : valid m ≡ true → room < length (file_of m) → Answers m room (Err TooShort)
  good : valid m ≡ true → length (file_of m) ≤ room → Answers m room (Ok (length (file_of m)))

answers : (m : Model) (room : ℕ) → Answers m room (written_as m room)
unfolding written_as
answers m room = go (valid m) refl (ltb room (length (file_of m))) refl
  where
    go : (v : Bool) → valid m ≡ v → (s : Bool) → ltb room (length (file_of m)) ≡ s → Answers m room (written_as m room)
    go false e s f = rw e (bad e)
    go true e true f = rw (e, f) (short e (ltb-true room (length (file_of m)) f))
    go true e false f = rw (e, f) (good e (ltb-false room (length (file_of m)) f))

module _ (m : Model) (room : ℕ) where
  not_valid_only : {w : Result ℕ Unwritten} → Answers m room w → refusal_of w ≡ 8 → valid m ≡ false
  not_valid_only (bad e) h = e
  not_valid_only (short e l) h = absurd (omega (arith, h))
  not_valid_only (good e l) h = absurd (omega (arith, h))

  not_valid_then : {w : Result ℕ Unwritten} → Answers m room w → valid m ≡ false → refusal_of w ≡ 8
  not_valid_then (bad e) h = refl
  not_valid_then (short e l) h = not_both e h
  not_valid_then (good e l) h = not_both e h

  short_only : {w : Result ℕ Unwritten} → Answers m room w → refusal_of w ≡ 6 → (valid m ≡ true) × (room < length (file_of m))
  short_only (bad e) h = absurd (omega (arith, h))
  short_only (short e l) h = (e, l)
  short_only (good e l) h = absurd (omega (arith, h))

  short_then : {w : Result ℕ Unwritten} → Answers m room w → (valid m ≡ true) × (room < length (file_of m)) → refusal_of w ≡ 6
  short_then (bad e) h = not_both h.0 e
  short_then (short e l) h = refl
  short_then (good e l) h = absurd (omega (arith, h.1))

  good_only : {w : Result ℕ Unwritten} → Answers m room w → refusal_of w ≡ 0 → (valid m ≡ true) × (length (file_of m) ≤ room)
  good_only (bad e) h = absurd (omega (arith, h))
  good_only (short e l) h = absurd (omega (arith, h))
  good_only (good e l) h = (e, l)

  good_then : {w : Result ℕ Unwritten} → Answers m room w → (valid m ≡ true) × (length (file_of m) ≤ room) → refusal_of w ≡ 0
  good_then (bad e) h = not_both h.0 e
  good_then (short e l) h = absurd (omega (arith, h.1))
  good_then (good e l) h = refl

-- ---- the buffer

module _ (m : Model) (old : List ℕ) where
  abbrev answer : Result ℕ Unwritten
  answer = written_as m (length old)

  -- where it is accepted: the file, and behind it what was there
  pub whole : valid m ≡ true → length (file_of m) ≤ length old → (answer ≡ Ok (length (file_of m))) × (buffer_of m old ≡ onto (file_of m) old)
  whole e l = let w = file.whole m old e l in (sym w.0, sym w.1)

  kept : {w : Result ℕ Unwritten} → Answers m (length old) w → refusal_of w ≢ 0 → (length_of w ≡ 0) × (buffer_of m old ≡ old)
  kept (bad e) h = (refl, sym (file.not_valid m old e).1)
  kept (short e l) h = (refl, sym (file.too_short m old e l).1)
  kept (good e l) h = absurd (h refl)

  file_first : refusal_of answer ≡ 0 → take (length_of answer) (buffer_of m old) ≡ file_of m
  file_first h =
      let a = good_only m (length old) (answers m (length old)) h in
      let w = whole a.0 a.1 in
      rw (w.0, w.1) (take_at (file_of m) (drop (length (file_of m)) old) (length (file_of m)) refl)

  -- byte i behind the file
  stays : {w : Result ℕ Unwritten} → Answers m (length old) w → (i : ℕ) → length_of w ≤ i → get_or (buffer_of m old) i 0 ≡ get_or old i 0
  stays (bad e) i h = ap (λ (l : List ℕ). get_or l i 0) (sym (file.not_valid m old e).1)
  stays (short e l) i h = ap (λ (x : List ℕ). get_or x i 0) (sym (file.too_short m old e l).1)
  stays (good e l) i h =
      let n = length (file_of m) in
      let k : n + (i - n) ≡ i = omega (arith, h) in
      ap (λ (x : List ℕ). get_or x i 0) (whole e l).1
      ∙ ap (λ (j : ℕ). get_or (onto (file_of m) old) j 0) (sym k)
      ∙ get_or-append-add (file_of m) (drop n old) (i - n) 0
      ∙ get_or-drop n old (i - n) 0
      ∙ ap (λ (j : ℕ). get_or old j 0) k

-- a file that loads is written as it was
same_bytes : (f : List ℕ) (m : Model) (old : List ℕ) → AreBytes f → LoadsTo f m → length f ≤ length old
    → (written_as m (length old) ≡ Ok (length f)) × (buffer_of m old ≡ onto f old)
same_bytes f m old bytes h room =
    let own = loads_own f m bytes h in
    subst (λ (x : List ℕ). (written_as m (length old) ≡ Ok (length x)) × (buffer_of m old ≡ onto x old)) (sym own)
    (whole m old (loads_valid f m h) (subst (λ (x : List ℕ). length x ≤ length old) own room))

pub writes_exactly : WritesExactly
writes_exactly =
    record {
      not_valid = λ m room. (not_valid_only m room (answers m room), not_valid_then m room (answers m room));
      too_short = λ m room. (short_only m room (answers m room), short_then m room (answers m room));
      accepted = λ m room. (good_only m room (answers m room), good_then m room (answers m room));
      refused = λ m old. kept m old (answers m (length old));
      begins = file_first;
      behind = λ m old. stays m old (answers m (length old));
      loads = λ m old held h. rw (file_first m old h) (valid_loads m held (good_only m (length old) (answers m (length old)) h).0).1;
      back = same_bytes;
    }

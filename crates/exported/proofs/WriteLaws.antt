-- Laws of writing a model that comes as its bytes: the answer as a number and the buffer, by what `write` says.
use Rattle.std.specs.Prelude.{Result, Ok, Err}
use mathlib.Core.Path.{◌≡◌, refl, ap, ◌∙◌}
use mathlib.Core.Bool.{Bool, true, false}
use mathlib.Core.Logic.{◌≢◌}
use mathlib.Core.List.{List, [], ◌∷◌}
use Prim.Native.Nat.{ℕ, ◌*◌, ◌/◌, ◌%◌, ◌≤◌}
use native.Mathlib.Omega.{arith}
use lib.Dec.{ltb}
use lib.ListN.{length}
use Rattle.sets.specs.Lists.{is_one_of}
use Rattle.model.specs.File.{file_of}
use Rattle.model.specs.Valid.{valid}
use Rattle.model.specs.Writing.{written_as, buffer_of}
use Rattle.model.specs.declared.Model.{Model}
use Rattle.model.specs.declared.Unwritten.{Unwritten}
use Rattle.model.specs.declared.Unwritten.TheVariants.{NotValid, TooShort}
use Rattle.model.proofs.Facts.{model_good}
use Rattle.model.proofs.FileLaws.{file_length}
use Rattle.model.proofs.Lines.{fits}
use Rattle.engine.specs.commands.Rules.{first_number}
use Rattle.exported.specs.Bytes.{model_from, is_model}
use Rattle.exported.specs.Calls.{unless_refused, write_number, write_room}

-- the number of an answer: the refusal, or 256 times the length
abbrev pub number_of : Result ℕ Unwritten → ℕ
number_of (Ok length) = 256 * length
number_of (Err NotValid) = 8
number_of (Err TooShort) = 6

-- bytes that are no model's
pub no_model : (b room : List ℕ) → is_model b ≡ false → (8 ≡ write_number b room) × (room ≡ write_room b room)
unfolding first_number unless_refused
no_model b room e = (rw e, rw e)

-- bytes that are
module _ (b room : List ℕ) (ok : is_model b ≡ true) where
  pub write_number_lem : number_of (written_as (model_from b) (length room)) ≡ write_number b room
  unfolding first_number written_as
  write_number_lem = go (valid (model_from b)) refl (ltb (length room) (length (file_of (model_from b)))) refl
    where
      go : (v : Bool) → valid (model_from b) ≡ v → (s : Bool) → ltb (length room) (length (file_of (model_from b))) ≡ s
          → number_of (written_as (model_from b) (length room)) ≡ write_number b room
      go false e s f = rw (ok, e)
      go true e true f = rw (ok, e, f)
      go true e false f = rw (ok, e, f)

  pub write_room_lem : buffer_of (model_from b) room ≡ write_room b room
  unfolding first_number unless_refused written_as buffer_of
  write_room_lem = go (valid (model_from b)) refl (ltb (length room) (length (file_of (model_from b)))) refl
    where
      go : (v : Bool) → valid (model_from b) ≡ v → (s : Bool) → ltb (length room) (length (file_of (model_from b))) ≡ s → buffer_of (model_from b) room ≡ write_room b room
      go false e s f = rw (ok, e)
      go true e true f = rw (ok, e, f)
      go true e false f = rw (ok, e, f)

-- what is written of the model in the bytes, as a number and as a buffer
pub write_gives : (b room : List ℕ) → is_model b ≡ true → (m : Model) → m ≡ model_from b → (answer : Result ℕ Unwritten) → answer ≡ written_as m (length room)
    → (new : List ℕ) → new ≡ buffer_of m room → (number_of answer ≡ write_number b room) × (new ≡ write_room b room)
write_gives b room ok m e answer f new g = (
  ap number_of (f ∙ ap (λ (x : Model). written_as x (length room)) e) ∙ write_number_lem b room ok,
  g ∙ ap (λ (x : Model). buffer_of x room) e ∙ write_room_lem b room ok,
)

-- the three answers: 8 and 6, which leave the buffer, and the length
data Answers (b room : List ℕ) : Type 0 where
  bad : write_number b room ≡ 8 → write_room b room ≡ room → Answers b room
  short : write_number b room ≡ 6 → write_room b room ≡ room → Answers b room
  good : (n : ℕ) → write_number b room ≡ 256 * n → n ≤ 22016 → Answers b room

answers : (b room : List ℕ) → Answers b room
unfolding first_number unless_refused
answers b room = go (is_model b) refl (valid (model_from b)) refl (ltb (length room) (length (file_of (model_from b)))) refl
  where
    go : (i : Bool) → is_model b ≡ i → (v : Bool) → valid (model_from b) ≡ v → (s : Bool) → ltb (length room) (length (file_of (model_from b))) ≡ s → Answers b room
    go false e v f s g = bad (rw e) (rw e)
    go true e false f s g = bad (rw (e, f)) (rw (e, f))
    go true e true f true g = short (rw (e, f, g)) (rw (e, f, g))
    go true e true f false g =
        good (length (file_of (model_from b))) (rw (e, f, g)) (omega (arith, file_length (model_from b), fits (model_from b) (model_good (model_from b) f)))

module _ (b room : List ℕ) where
  write_in : Answers b room → is_one_of (0 ∷ 8 ∷ 6 ∷ []) (write_number b room % 256) ≡ true
  unfolding is_one_of
  write_in (bad e f) = rw e
  write_in (short e f) = rw e
  write_in (good n e l) = ap (λ (x : ℕ). is_one_of (0 ∷ 8 ∷ 6 ∷ []) x) (let z : write_number b room % 256 ≡ 0 = omega (arith, e) in z)

  write_length_lem : Answers b room → write_number b room / 256 ≤ 22016
  write_length_lem (bad e f) = omega (arith, e)
  write_length_lem (short e f) = omega (arith, e)
  write_length_lem (good n e l) = omega (arith, e, l)

  write_kept : Answers b room → write_number b room % 256 ≢ 0 → (write_number b room / 256 ≡ 0) × (write_room b room ≡ room)
  write_kept (bad e f) h = (omega (arith, e), f)
  write_kept (short e f) h = (omega (arith, e), f)
  write_kept (good n e l) h = absurd (h (omega (arith, e)))

  pub write_answer : is_one_of (0 ∷ 8 ∷ 6 ∷ []) (write_number b room % 256) ≡ true
  write_answer = write_in (answers b room)

  pub write_few : write_number b room / 256 ≤ 22016
  write_few = write_length_lem (answers b room)

  pub write_refused_lem : write_number b room % 256 ≢ 0 → (write_number b room / 256 ≡ 0) × (write_room b room ≡ room)
  write_refused_lem = write_kept (answers b room)

-- Writing: a model goes back to the blocks of its file, in a buffer that is lent.
use Rattle.std.specs.Prelude.{ℕ, cond, List, ltb, eqb, length, Result, Ok, Err}
use Rattle.sets.specs.Stores.{onto}
use Rattle.model.specs.File.{file_of}
use Rattle.model.specs.Valid.{valid}
use Rattle.model.specs.declared.Model.{Model}
use Rattle.model.specs.declared.Unwritten.{Unwritten}
use Rattle.model.specs.declared.Unwritten.TheVariants.{NotValid, TooShort}

-- the number of the refusal; 0 is none
abbrev pub refusal_of : Result ℕ Unwritten → ℕ
refusal_of (Ok length) = 0
refusal_of (Err NotValid) = 8
refusal_of (Err TooShort) = 6

-- the length of the file; 0 where it is refused
abbrev pub length_of : Result ℕ Unwritten → ℕ
length_of (Ok length) = length
length_of (Err NotValid) = 0
length_of (Err TooShort) = 0

-- 8: the model is not valid; then 6: the buffer is shorter than its file
unfoldable pub written_as : Model → ℕ → Result ℕ Unwritten
written_as m room = cond (valid m) (cond (ltb room (length (file_of m))) (Err TooShort) (Ok (length (file_of m)))) (Err NotValid)

-- the buffer after it: the file, and behind it what was there; where it is refused, as it was
unfoldable pub buffer_of : Model → List ℕ → List ℕ
buffer_of m old = cond (eqb (refusal_of (written_as m (length old))) 0) (onto (file_of m) old) old

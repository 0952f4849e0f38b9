-- The file of a valid model: how long it is, and that the records of all kinds, written one after the other, are it.
use Rattle.std.specs.Prelude.{Result, Ok, Err}
use mathlib.Core.Path.{◌≡◌, refl, sym, ap, ◌∙◌}
use mathlib.Core.Bool.{true, false}
use mathlib.Core.List.{List}
use Prim.Native.Nat.{ℕ, suc, ◌+◌, ◌*◌, ◌≤◌, ◌<◌}
use native.Mathlib.Omega.{arith}
use borrow.Author.Tests.{lt-ltb, le-ltb}
use lib.Dec.{ltb}
use lib.ListN.{length}
use Rattle.sets.specs.Below.{sum_below}
use Rattle.sets.proofs.Below.{sum_bound}
use Rattle.sets.proofs.Tests.{choose}
use Rattle.sets.specs.Stores.{each_of, onto, stored}
use Rattle.sets.proofs.Stores.{stored_none, stored_more, stored_onto}
use Rattle.model.specs.File.{records_of, blocks_for, start_of, file_of}
use Rattle.model.specs.Records.{with_exits}
use Rattle.model.specs.Valid.{subject_at, valid}
use Rattle.model.specs.Writing.{written_as, buffer_of}
use Rattle.model.specs.inner.Lines.{kind_blocks}
use Rattle.model.specs.declared.Model.{Model}
use Rattle.model.specs.declared.Unwritten.{Unwritten}
use Rattle.model.specs.declared.Unwritten.TheVariants.{NotValid, TooShort}
use Rattle.model.proofs.Facts.{GoodModel, model_good}
use Rattle.model.proofs.Lines.{length_states, length_exits, length_limits, all_long, fits}
use Rattle.model.proofs.Places.{Twelve, made, kind_more, length_made, file_each, length_file, start_more}
use Rattle.model.proofs.KindLaws.{header_start, header_count, exits_kept}

-- every record has twelve bytes
long : (m : Model) → Twelve (records_of m)
long m = record { each = all_long m }

pub file_length : (m : Model) → length (file_of m) ≡ start_of (records_of m) 5 * 512
unfolding file_of
file_length m = length_file (long m)

-- how many records of each kind
states_count : (m : Model) → length (records_of m 2) ≡ sum_below (λ s. (subject_at m s).states) 16
unfolding records_of
states_count m = length_states m

exits_count : (m : Model) → length (records_of m 3) ≡ sum_below (exits_kept m) 512
unfolding records_of with_exits
exits_count m = length_exits m

limits_count : (m : Model) → length (records_of m 4) ≡ sum_below (λ s. (subject_at m s).rows) 16
unfolding records_of
limits_count m = length_limits m

-- and that they are few
pub few_states : (m : Model) → GoodModel m → sum_below (λ s. (subject_at m s).states) 16 ≤ 512
few_states m good = sum_bound (λ s. (subject_at m s).states) 32 16 (λ s l. (good.subject s l).states)

pub few_rows : (m : Model) → GoodModel m → sum_below (λ s. (subject_at m s).rows) 16 ≤ 128
few_rows m good = sum_bound (λ s. (subject_at m s).rows) 8 16 (λ s l. (good.subject s l).rows)

pub few_exits : (m : Model) → GoodModel m → sum_below (exits_kept m) 512 ≤ 1024
unfolding with_exits
few_exits m good = good.exits

-- one block for the header, and those of the states, the exits and the limits
pub blocks_in_all : (m : Model) → GoodModel m
    → start_of (records_of m) 5 ≡ 1 + blocks_for (sum_below (λ s. (subject_at m s).states) 16) + blocks_for (sum_below (exits_kept m) 512) + blocks_for (sum_below (λ s. (subject_at m s).rows) 16)
blocks_in_all m good =
    let rs = records_of m in
    omega (arith, start_more rs 1, start_more rs 2, start_more rs 3, start_more rs 4, header_start m, header_count m, good.high, states_count m, exits_count m, limits_count m)

-- ---- one kind after the other

-- the kinds before k are written
abbrev up_to : Model → ℕ → List ℕ
up_to m k = each_of (made (long m)) (start_of (records_of m) k)

more : (m : Model) (k : ℕ) (old now next : List ℕ) → k ≤ 4 → now ≡ stored old 0 (up_to m k) → next ≡ stored now (start_of (records_of m) k * 512) (kind_blocks (records_of m) k)
    → next ≡ stored old 0 (up_to m (suc k))
more m k old now next h e f =
    stored_more old now next (up_to m k) (kind_blocks (records_of m) k) 0 (start_of (records_of m) k * 512) e f (omega (arith, length_made (long m) (start_of (records_of m) k)))
    ∙ ap (stored old 0) (sym (kind_more (long m) k h))

pub four_kinds : (m : Model) (old one two three four : List ℕ) → length (file_of m) ≤ length old
    → one ≡ stored old (start_of (records_of m) 1 * 512) (kind_blocks (records_of m) 1)
    → two ≡ stored one (start_of (records_of m) 2 * 512) (kind_blocks (records_of m) 2)
    → three ≡ stored two (start_of (records_of m) 3 * 512) (kind_blocks (records_of m) 3)
    → four ≡ stored three (start_of (records_of m) 4 * 512) (kind_blocks (records_of m) 4)
    → four ≡ onto (file_of m) old
unfolding file_of each_of
four_kinds m old one two three four room a b c d =
    let none : old ≡ stored old 0 (up_to m 1) = stored_none old 0 ∙ ap (λ (n : ℕ). stored old 0 (each_of (made (long m)) n)) (sym (header_start m)) in
    let all = more m 4 old three four (omega arith) (more m 3 old two three (omega arith) (more m 2 old one two (omega arith) (more m 1 old old one (omega arith) none a) b) c) d in
    all ∙ ap (stored old 0) (sym (file_each (long m))) ∙ stored_onto old (file_of m) room

-- ---- the answer, and the buffer

pub not_valid : (m : Model) (old : List ℕ) → valid m ≡ false → ((Err NotValid) ≡ written_as m (length old)) × (old ≡ buffer_of m old)
unfolding written_as buffer_of
not_valid m old e = (rw e, rw e)

pub too_short : (m : Model) (old : List ℕ) → valid m ≡ true → length old < length (file_of m) → ((Err TooShort) ≡ written_as m (length old)) × (old ≡ buffer_of m old)
unfolding written_as buffer_of
too_short m old e h = (rw (e, lt-ltb (length old) (length (file_of m)) h), rw (e, lt-ltb (length old) (length (file_of m)) h))

pub whole : (m : Model) (old : List ℕ) → valid m ≡ true → length (file_of m) ≤ length old
    → (Ok (length (file_of m)) ≡ written_as m (length old)) × (onto (file_of m) old ≡ buffer_of m old)
unfolding written_as buffer_of
whole m old e h = (rw (e, le-ltb (length old) (length (file_of m)) h), rw (e, le-ltb (length old) (length (file_of m)) h))

-- a file has at most 43 blocks
pub few_bytes : (m : Model) (room n : ℕ) → written_as m room ≡ Ok n → n ≤ 22016
unfolding written_as
few_bytes m room n = choose P (valid m) (λ e. choose P (ltb room (length (file_of m))) (λ _. no_bytes (Err TooShort) 0 refl) (λ _ h. fit e h)) (λ _. no_bytes (Err NotValid) 1 refl)
  where
    P : Result ℕ Unwritten → Type 0
    P w = w ≡ Ok n → n ≤ 22016

    which : Result ℕ Unwritten → ℕ
    which (Ok k) = 0
    which (Err TooShort) = 1
    which (Err NotValid) = 2

    no_bytes : (w : Result ℕ Unwritten) (k : ℕ) → which w ≡ suc k → P w
    no_bytes w k e h = absurd (omega (arith, e, ap which h))

    fit : valid m ≡ true → P (Ok (length (file_of m)))
    fit e h =
        let same : length (file_of m) ≡ n = cc in
        omega (arith, file_length m, fits m (model_good m e))

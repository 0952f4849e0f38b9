-- How many bytes a thing has.
use Rattle.std.specs.Prelude.{◌≡◌, refl, List, ◌∷◌, ℕ, length}
use native.Mathlib.Omega.{arith}
use lib.ListN.{length-append}
use Rattle.sets.specs.Stores.{each_of}
use Rattle.sets.proofs.Stores.{length_each}
use Rattle.blocks.specs.Made.{two_bytes}
use Rattle.model.specs.Valid.{subject_at, state_at, exit_at, row_at}
use Rattle.model.specs.declared.Exit.{Exit}
use Rattle.model.specs.declared.Model.{Model}
use Rattle.model.specs.declared.Row.{Row}
use Rattle.model.specs.declared.State.{State}
use Rattle.model.specs.declared.Subject as model_subject
use Rattle.engine.specs.declared.Entry.{Entry}
use Rattle.engine.specs.declared.Config.{Config}
use Rattle.engine.specs.declared.Subject.{Subject}
use Rattle.exported.specs.Bytes.{config_size, word_bytes, entry_bytes, marks_bytes, entries_bytes, subject_bytes, config_bytes, model_size, row_bytes, own_bytes, exit_bytes, state_bytes, model_bytes}

pub length_short : (x : ℕ) → length (two_bytes x) ≡ 2
length_short x = refl

pub length_word : (x : ℕ) → length (word_bytes x) ≡ 4
length_word x = refl

pub length_entry : (e : Entry) → length (entry_bytes e) ≡ 7
unfolding entry_bytes
length_entry e = refl

pub length_marks : (closed : List ℕ) → length (marks_bytes closed) ≡ 64
unfolding marks_bytes
length_marks closed = length_each _ 4 (λ i. refl) 16

pub length_entries : (entries : List Entry) → length (entries_bytes entries) ≡ 112
unfolding entries_bytes
length_entries entries = length_each _ 7 (λ i. length_entry _) 16

pub length_subject : (x : Subject) → length (subject_bytes x) ≡ 187
unfolding subject_bytes
length_subject x =
    omega (arith, length-append (marks_bytes x.closed) (x.pool.count ∷ entries_bytes x.pool.entries), length_marks x.closed, length_entries x.pool.entries)

pub length_config : (c : Config) → length (config_bytes c) ≡ config_size
unfolding config_bytes
length_config c = length_each _ 187 (λ s. length_subject _) 16

pub length_row : (w : Row) → length (row_bytes w) ≡ 3
length_row w = refl

pub length_exit : (e : Exit) → length (exit_bytes e) ≡ 3
length_exit e = refl

pub length_own : (own : model_subject.Subject) → length (own_bytes own) ≡ 27
unfolding own_bytes
length_own own = omega (arith, length_each (λ k. row_bytes (row_at own k)) 3 (λ k. refl) 8)

pub length_state : (st : State) → length (state_bytes st) ≡ 34
unfolding state_bytes
length_state st = omega (arith, length_each (λ x. exit_bytes (exit_at st x)) 3 (λ x. refl) 8)

pub length_model : (m : Model) → length (model_bytes m) ≡ model_size
unfolding model_bytes
length_model m =
    let own : ℕ → List ℕ = λ s. own_bytes (subject_at m s) in
    let states : ℕ → List ℕ = λ p. state_bytes (state_at m p) in
    omega (arith, length-append (each_of own 16) (each_of states 512), length_each own 27 (λ s. length_own _) 16, length_each states 34 (λ p. length_state _) 512)

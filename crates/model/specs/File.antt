-- The file of a model: its records in order, cut into blocks of 42, numbered and checked.
use Rattle.std.specs.Prelude.{ℕ, suc, ◌+◌, ◌-◌, ◌*◌, ◌/◌, ◌%◌, cond, List, [], ◌∷◌, ◌++◌, eqb, leb, length, take, drop, replicate}
use Rattle.sets.specs.Below.{table, sum_below, count_below}
use Rattle.sets.specs.Groups.{lined}
use Rattle.sets.specs.Stores.{joined}
use Rattle.blocks.specs.Made.{two_bytes, block_with}
use Rattle.model.specs.Sizes.{most_subjects, most_states, state_places}
use Rattle.model.specs.Valid.{subject_at, state_at, exit_at, row_at}
use Rattle.model.specs.declared.Exit.{Exit}
use Rattle.model.specs.declared.Model.{Model}
use Rattle.model.specs.declared.Row.{Row}
use Rattle.model.specs.declared.State.{State}
use Rattle.model.specs.declared.Subject.{Subject}

-- ---- records

abbrev pub header_record : ℕ → ℕ → List ℕ
header_record n start = n ∷ two_bytes start ++ replicate 9 0

abbrev pub subject_record : ℕ → Subject → List ℕ
subject_record s sub = s ∷ sub.states ∷ sub.initial ∷ replicate 9 0

abbrev pub state_record : ℕ → ℕ → State → List ℕ
state_record s t st =
    s ∷ t ∷ st.kind ∷ st.exits ∷ st.sender ∷ st.typ ∷ two_bytes st.after ++ st.timeout ∷ st.cancel ∷ two_bytes st.receivers

abbrev pub exit_record : ℕ → ℕ → ℕ → Exit → List ℕ
exit_record s t x e = s ∷ t ∷ x ∷ e.target ∷ e.sender ∷ e.typ ∷ replicate 6 0

abbrev pub limit_record : ℕ → Row → List ℕ
limit_record owner w = owner ∷ w.sender ∷ w.typ ∷ w.limit ∷ replicate 8 0

-- the records of each kind, in order
unfoldable pub headers : Model → List (List ℕ)
headers m = header_record m.n m.start ∷ table (λ s. subject_record s (subject_at m s)) m.n

unfoldable pub state_records : Model → List (List ℕ)
state_records m = lined (λ s. (subject_at m s).states) (λ s t. state_record s t (state_at m (s * most_states + t))) most_subjects

unfoldable pub exit_records : Model → List (List ℕ)
exit_records m = lined (λ p. (state_at m p).exits) (λ p x. exit_record (p / most_states) (p % most_states) x (exit_at (state_at m p) x)) state_places

unfoldable pub limit_records : Model → List (List ℕ)
limit_records m = lined (λ s. (subject_at m s).rows) (λ s k. limit_record s (row_at (subject_at m s) k)) most_subjects

-- the records of kind k: 1 header, 2 states, 3 exits, 4 limits
unfoldable pub records_of : Model → ℕ → List (List ℕ)
records_of m k =
    cond (eqb k 1) (headers m) (cond (eqb k 2) (state_records m) (cond (eqb k 3) (exit_records m) (cond (eqb k 4) (limit_records m) [])))

-- ---- the file of records, where `rs k` are those of kind k; of kind 0 and from 5 up there are none

-- how many blocks so many records fill
abbrev pub blocks_for : ℕ → ℕ
blocks_for count = (count + 41) / 42

-- the first block of kind k: the kinds before it fill as many
unfoldable pub start_of : (ℕ → List (List ℕ)) → ℕ → ℕ
start_of rs k = sum_below (λ j. blocks_for (length (rs j))) k

-- the kind of block b: as many kinds, from 0 on, end before it
unfoldable pub kind_at_block : (ℕ → List (List ℕ)) → ℕ → ℕ
kind_at_block rs b = count_below (λ k. leb (start_of rs (suc k)) b) 5

-- the records of block b: 42 of its kind, fewer in the last
unfoldable pub records_at_block : (ℕ → List (List ℕ)) → ℕ → List (List ℕ)
records_at_block rs b = take 42 (drop ((b - start_of rs (kind_at_block rs b)) * 42) (rs (kind_at_block rs b)))

unfoldable pub file_with : (ℕ → List (List ℕ)) → List ℕ
file_with rs = joined (table (λ b. block_with b (kind_at_block rs b) (records_at_block rs b)) (start_of rs 5))

unfoldable pub file_of : Model → List ℕ
file_of m = file_with (records_of m)

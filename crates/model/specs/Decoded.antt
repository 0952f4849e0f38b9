-- The model that a file's records say, and whether each record stands where the model has its thing.
use Rattle.std.specs.Prelude.{ℕ, ◌+◌, ◌*◌, ◌/◌, ◌%◌, min, Bool, true, ◌&&◌, cond, List, ltb, leb, eqb, get_or}
use Rattle.sets.specs.Below.{all_below, sum_below, count_below, table}
use Rattle.sets.specs.Groups.{place_in, in_places}
use Rattle.sets.specs.Tests.{word_at}
use Rattle.blocks.specs.Blocks.{first_block, record_of, record_from, record_no, count_of}
use Rattle.model.specs.Sizes.{most_subjects, most_states, state_places, most_exits_in_all, most_rows}
use Rattle.model.specs.Records.{blank_exit, blank_row, blank_stored, blank_subject, stored_of, exit_of, row_of, state_key, full_key}
use Rattle.model.specs.declared.Exit.{Exit}
use Rattle.model.specs.declared.Model.{Model}
use Rattle.model.specs.declared.Row.{Row}
use Rattle.model.specs.declared.Stored.{Stored}
use Rattle.model.specs.declared.Subject.{Subject}

-- ---- subjects and their limit rows

-- the first header record: how many subjects, and the start mask
abbrev pub subjects_in : List ℕ → ℕ
subjects_in file = get_or (record_of file 0 0) 0 0

abbrev pub start_in : List ℕ → ℕ
start_in file = word_at (record_of file 0 0) 1

-- how many limit records name s as the owner
unfoldable pub limits_in : List ℕ → ℕ → ℕ
limits_in file s = count_below (λ j. eqb (get_or (record_no file 4 j) 0 0) s) (count_of file 4)

-- how many of them the model has room for
unfoldable pub rows_in : List ℕ → ℕ → ℕ
rows_in file s = min (limits_in file s) most_rows

-- so many rows, from the record with number `place` on, counted from block `first`
unfoldable pub rows_from : List ℕ → ℕ → ℕ → ℕ → List Row
rows_from file first place rows = in_places most_rows blank_row rows (λ k. row_of (record_from file first (place + k)))

-- subject s: header record s + 1 has its states and its initial state; its rows come after those of the subjects before it
unfoldable pub subject_in : List ℕ → ℕ → Subject
subject_in file s =
    cond (ltb s (subjects_in file))
    (record {
      states = get_or (record_of file 0 (s + 1)) 1 0;
      initial = get_or (record_of file 0 (s + 1)) 2 0;
      rows = rows_in file s;
      row = rows_from file (first_block file 4) (sum_below (rows_in file) s) (rows_in file s);
    })
    blank_subject

-- ---- states and their exits

-- how many states subject s has
unfoldable pub states_in : List ℕ → ℕ → ℕ
states_in file s = (subject_in file s).states

-- the subject of place p has the state of place p
abbrev pub has_state : List ℕ → ℕ → Bool
has_state file p = ltb (p % most_states) (states_in file (p / most_states))

-- its record, after those of the subjects before it
abbrev pub state_record_in : List ℕ → ℕ → List ℕ
state_record_in file p = record_no file 2 (place_in (states_in file) (p / most_states) (p % most_states))

-- how many exits the state at place p has
unfoldable pub exits_in : List ℕ → ℕ → ℕ
exits_in file p = cond (has_state file p) (get_or (state_record_in file p) 3 0) 0

-- the state at place p: its exits begin after those of the states before it (modulo 2^16, which a model that is too large exceeds)
unfoldable pub stored_in : List ℕ → ℕ → Stored
stored_in file p = cond (has_state file p) (stored_of (state_record_in file p) (sum_below (exits_in file) p % 65536)) blank_stored

-- the exits of the exit records in order, as far as the model has room
unfoldable pub all_exits : List ℕ → List Exit
all_exits file = in_places most_exits_in_all blank_exit (count_of file 3) (λ j. exit_of (record_no file 3 j))

unfoldable pub model_of : List ℕ → Model
model_of file =
    record {
      n = subjects_in file;
      start = start_in file;
      subjects = table (subject_in file) most_subjects;
      states = table (stored_in file) state_places;
      exits = all_exits file;
    }

-- ---- 5: a state or exit missing or too many, a limit's owner that does not exist, more than 8 rows

-- the record of each state names it
unfoldable pub state_named : List ℕ → ℕ → Bool
state_named file p = cond (has_state file p) (eqb (state_key (state_record_in file p)) (p % most_states + 256 * (p / most_states))) true

-- so many exits, from the record with number `place` on, name the state with the key and 0, 1, ..
unfoldable pub exits_named : List ℕ → ℕ → ℕ → ℕ → ℕ → Bool
exits_named file first place exits key = all_below (λ x. eqb (full_key (record_from file first (place + x))) (x + 256 * key)) exits

-- the records of the exits of the state at place p name them
unfoldable pub exits_named_in : List ℕ → ℕ → Bool
exits_named_in file p = exits_named file (first_block file 3) (sum_below (exits_in file) p) (exits_in file p) (p % most_states + 256 * (p / most_states))

-- limit record j has an owner that exists
unfoldable pub owner_there : List ℕ → ℕ → Bool
owner_there file j = ltb (get_or (record_no file 4 j) 0 0) (subjects_in file)

-- the state records are those of the subjects' states, in order, and no more
unfoldable pub states_in_place : List ℕ → Bool
states_in_place file = all_below (state_named file) state_places && eqb (count_of file 2) (sum_below (states_in file) most_subjects)

-- the exit records are those of the states' exits, in order, and no more
unfoldable pub exits_in_place : List ℕ → Bool
exits_in_place file = all_below (exits_named_in file) state_places && eqb (count_of file 3) (sum_below (exits_in file) state_places)

-- every limit record has an owner, and no owner more than 8
unfoldable pub limits_in_place : List ℕ → Bool
limits_in_place file = all_below (owner_there file) (count_of file 4) && all_below (λ s. leb (limits_in file s) most_rows) most_subjects

unfoldable pub in_place : List ℕ → Bool
in_place file = states_in_place file && exits_in_place file && limits_in_place file

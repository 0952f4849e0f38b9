-- Models and configurations as bytes, numbers of several bytes with the low byte first.
use Rattle.std.specs.Prelude.{Bool, ◌&&◌, ◌||◌, not, cond, List, [], ◌∷◌, ◌++◌, ℕ, ◌+◌, ◌-◌, ◌*◌, ◌/◌, ◌%◌, eqb, leb, length, take, drop, get_or}
use Rattle.sets.specs.Below.{all_below, sum_below, table}
use Rattle.sets.specs.Groups.{lined}
use Rattle.sets.specs.Lists.{padded}
use Rattle.sets.specs.Stores.{each_of}
use Rattle.sets.specs.Tests.{all_zero}
use Rattle.blocks.specs.Made.{two_bytes}
use Rattle.model.specs.Sizes.{most_subjects, most_rows, most_exits, most_exits_in_all, state_places}
use Rattle.model.specs.Records.{blank_exit}
use Rattle.model.specs.Valid.{subject_at, state_at, exit_at, row_at}
use Rattle.model.specs.declared.Exit.{Exit}
use Rattle.model.specs.declared.Model.{Model}
use Rattle.model.specs.declared.Row.{Row}
use Rattle.model.specs.declared.State.{State}
use Rattle.model.specs.declared.Stored.{Stored}
use Rattle.model.specs.declared.Subject as model_subject
use Rattle.engine.specs.pools.Entries.{blank_entry}
use Rattle.engine.specs.pools.Sizes.{most_entries}
use Rattle.engine.specs.declared.Entry.{Entry}
use Rattle.engine.specs.configs.Subjects.{at}
use Rattle.engine.specs.declared.Config.{Config}
use Rattle.engine.specs.declared.Subject.{Subject}

-- a number in four bytes
abbrev pub word_bytes : ℕ → List ℕ
word_bytes x = two_bytes (x % 65536) ++ two_bytes (x / 65536)

-- ---- a configuration: 187 bytes a subject

abbrev pub config_size : ℕ
config_size = 2992

-- sender, type, whether it is a message, content
unfoldable pub entry_bytes : Entry → List ℕ
entry_bytes e = e.sender ∷ e.typ ∷ cond e.message 1 0 ∷ word_bytes e.content

-- mode, state, waited, word, mask
abbrev pub field_bytes : Subject → List ℕ
field_bytes x = x.mode ∷ x.state ∷ (two_bytes x.waited ++ (word_bytes x.word ++ two_bytes x.mask))

-- the marks of each sender
unfoldable pub marks_bytes : List ℕ → List ℕ
marks_bytes closed = each_of (λ i. word_bytes (get_or closed i 0)) most_subjects

unfoldable pub entries_bytes : List Entry → List ℕ
entries_bytes entries = each_of (λ i. entry_bytes (get_or entries i blank_entry)) most_entries

-- then the count, then the entries
unfoldable pub subject_bytes : Subject → List ℕ
subject_bytes x = field_bytes x ++ (marks_bytes x.closed ++ (x.pool.count ∷ entries_bytes x.pool.entries))

unfoldable pub config_bytes : Config → List ℕ
config_bytes c = each_of (λ s. subject_bytes (at c s)) most_subjects

-- ---- and back: past the end of the bytes there are zeros

abbrev pub short_of : List ℕ → ℕ
short_of b = get_or b 0 0 + 256 * get_or b 1 0

abbrev pub word_of : List ℕ → ℕ
word_of b = short_of b + 65536 * short_of (drop 2 b)

unfoldable pub entry_from : List ℕ → Entry
entry_from b = record { sender = get_or b 0 0; typ = get_or b 1 0; message = not (eqb (get_or b 2 0) 0); content = word_of (drop 3 b) }

unfoldable pub marks_from : List ℕ → List ℕ
marks_from b = table (λ i. word_of (drop (4 * i) b)) most_subjects

unfoldable pub entries_from : List ℕ → List Entry
entries_from b = table (λ i. entry_from (drop (7 * i) b)) most_entries

unfoldable pub subject_from : List ℕ → Subject
subject_from b =
    record {
      mode = get_or b 0 0;
      state = get_or b 1 0;
      waited = short_of (drop 2 b);
      word = word_of (drop 4 b);
      mask = short_of (drop 8 b);
      closed = marks_from (drop 10 b);
      pool = record { entries = entries_from (drop 75 b); count = get_or b 74 0 };
    }

unfoldable pub config_from : List ℕ → Config
config_from b = record { subjects = table (λ s. subject_from (drop (187 * s) b)) most_subjects }

-- the byte that says whether entry j, that is entry j % 16 of subject j / 16, is a message
abbrev pub flag_place : ℕ → ℕ
flag_place j = 187 * (j / most_entries) + (77 + 7 * (j % most_entries))

-- each such byte is 0 or 1
unfoldable pub flags_right : List ℕ → Bool
flags_right b = all_below (λ j. leb (get_or b (flag_place j) 0) 1) 256

-- the bytes of a configuration, and perhaps more behind them
unfoldable pub is_config : List ℕ → Bool
is_config b = leb config_size (length b) && flags_right b

-- ---- a model: n, the start mask, 27 bytes a subject, 34 a state

abbrev pub model_size : ℕ
model_size = 17843

abbrev pub row_bytes : Row → List ℕ
row_bytes w = w.sender ∷ w.typ ∷ w.limit ∷ []

-- states, initial state, rows, the rows
unfoldable pub own_bytes : model_subject.Subject → List ℕ
own_bytes own = own.states ∷ own.initial ∷ own.rows ∷ each_of (λ k. row_bytes (row_at own k)) most_rows

abbrev pub exit_bytes : Exit → List ℕ
exit_bytes e = e.target ∷ e.sender ∷ e.typ ∷ []

-- kind, exits, sender, type, duration, timeout and cancel target, receivers
abbrev pub head_bytes : State → List ℕ
head_bytes st =
    st.kind ∷ st.exits ∷ st.sender ∷ st.typ ∷ (two_bytes st.after ++ (st.timeout ∷ st.cancel ∷ two_bytes st.receivers))

-- then the exits
unfoldable pub state_bytes : State → List ℕ
state_bytes st = head_bytes st ++ each_of (λ x. exit_bytes (exit_at st x)) most_exits

unfoldable pub model_bytes : Model → List ℕ
model_bytes m =
    m.n
    ∷ (two_bytes m.start
    ++ (each_of (λ s. own_bytes (subject_at m s)) most_subjects ++ each_of (λ p. state_bytes (state_at m p)) state_places))

-- ---- and back: past the end of the bytes there are zeros

abbrev pub row_from : List ℕ → Row
row_from b = record { sender = get_or b 0 0; typ = get_or b 1 0; limit = get_or b 2 0 }

abbrev pub exit_from : List ℕ → Exit
exit_from b = record { target = get_or b 0 0; sender = get_or b 1 0; typ = get_or b 2 0 }

unfoldable pub own_from : List ℕ → model_subject.Subject
own_from b =
    record {
      states = get_or b 0 0;
      initial = get_or b 1 0;
      rows = get_or b 2 0;
      row = table (λ k. row_from (drop (3 + 3 * k) b)) most_rows;
    }

-- the bytes of the state at place p, and how many exits it has
abbrev pub state_in : List ℕ → ℕ → List ℕ
state_in b p = drop (435 + 34 * p) b

abbrev pub exits_in : List ℕ → ℕ → ℕ
exits_in b p = get_or (state_in b p) 1 0

-- a state as a model keeps it: its exits begin at `first`
unfoldable pub head_from : List ℕ → ℕ → Stored
head_from b first =
    record {
      kind = get_or b 0 0;
      exits = get_or b 1 0;
      sender = get_or b 2 0;
      typ = get_or b 3 0;
      after = short_of (drop 4 b);
      timeout = get_or b 6 0;
      cancel = get_or b 7 0;
      receivers = short_of (drop 8 b);
      first = first;
    }

-- the state at place p: its exits begin after those of the states before it; where there is no state, at 0
unfoldable pub stored_from : List ℕ → ℕ → Stored
stored_from b p = head_from (state_in b p) (cond (eqb (get_or (state_in b p) 0 0) 0) 0 (sum_below (exits_in b) p))

-- exit x of a state, in its bytes
abbrev pub exit_in : List ℕ → ℕ → Exit
exit_in b x = record { target = get_or b (10 + 3 * x) 0; sender = get_or b (10 + 3 * x + 1) 0; typ = get_or b (10 + 3 * x + 2) 0 }

-- every exit, in the order of their states
unfoldable pub exit_line : List ℕ → List Exit
exit_line b = padded most_exits_in_all blank_exit (lined (exits_in b) (λ p x. exit_in (state_in b p) x) state_places)

unfoldable pub model_from : List ℕ → Model
model_from b =
    record {
      n = get_or b 0 0;
      start = short_of (drop 1 b);
      subjects = table (λ s. own_from (drop (3 + 27 * s) b)) most_subjects;
      states = table (stored_from b) state_places;
      exits = exit_line b;
    }

-- the bytes of a state: at most 8 exits, none where it has no kind, and nothing but zeros behind its own
unfoldable pub is_state : List ℕ → Bool
is_state b =
    leb (get_or b 1 0) most_exits
    && (not (eqb (get_or b 0 0) 0) || eqb (get_or b 1 0) 0)
    && all_zero (take (24 - 3 * get_or b 1 0) (drop (10 + 3 * get_or b 1 0) b))

-- the bytes of a model, and perhaps more behind them: each state's are right, and all have 1,024 exits at the most
unfoldable pub is_model : List ℕ → Bool
is_model b =
    leb model_size (length b) && all_below (λ p. is_state (state_in b p)) state_places && leb (sum_below (exits_in b) state_places) most_exits_in_all

-- What a record says, and its place in the order.
use Rattle.std.specs.Prelude.{ℕ, ◌+◌, ◌*◌, cond, List, eqb, length, get_or, replicate}
use Rattle.sets.specs.Tests.{word_at}
use Rattle.model.specs.Sizes.{most_exits, most_rows}
use Rattle.model.specs.declared.Exit.{Exit}
use Rattle.model.specs.declared.Row.{Row}
use Rattle.model.specs.declared.State.{State}
use Rattle.model.specs.declared.Stored.{Stored}
use Rattle.model.specs.declared.Subject.{Subject}

-- ---- nothing there

abbrev pub blank_exit : Exit
blank_exit = record { target = 0; sender = 0; typ = 0 }

abbrev pub blank_exits : List Exit
blank_exits = replicate most_exits blank_exit

abbrev pub blank_row : Row
blank_row = record { sender = 0; typ = 0; limit = 0 }

abbrev pub blank_rows : List Row
blank_rows = replicate most_rows blank_row

abbrev pub blank_stored : Stored
blank_stored = record { kind = 0; exits = 0; sender = 0; typ = 0; after = 0; timeout = 0; cancel = 0; receivers = 0; first = 0 }

abbrev pub blank_subject : Subject
blank_subject = record { states = 0; initial = 0; rows = 0; row = blank_rows }

-- ---- a record's fields

-- state: 2 kind; 3 exits; 4 sender; 5 type; 6-7 timeout duration; 8 timeout target; 9 cancel target; 10-11 receiver mask. As a model
-- keeps it: its exits begin at `first`
unfoldable pub stored_of : List ℕ → ℕ → Stored
stored_of r first =
    record {
      kind = get_or r 2 0;
      exits = get_or r 3 0;
      sender = get_or r 4 0;
      typ = get_or r 5 0;
      after = word_at r 6;
      timeout = get_or r 8 0;
      cancel = get_or r 9 0;
      receivers = word_at r 10;
      first = first;
    }

-- a state with the given exits
unfoldable pub with_exits : Stored → List Exit → State
with_exits st es =
    record {
      kind = st.kind;
      exits = st.exits;
      sender = st.sender;
      typ = st.typ;
      after = st.after;
      timeout = st.timeout;
      cancel = st.cancel;
      receivers = st.receivers;
      exit = es;
    }

-- the state of a record, with the given exits
unfoldable pub state_of : List ℕ → List Exit → State
state_of r es = with_exits (stored_of r 0) es

-- exit: 3 target; 4 sender; 5 type
unfoldable pub exit_of : List ℕ → Exit
exit_of r = record { target = get_or r 3 0; sender = get_or r 4 0; typ = get_or r 5 0 }

-- limit: 1 sender; 2 type; 3 limit
unfoldable pub row_of : List ℕ → Row
row_of r = record { sender = get_or r 1 0; typ = get_or r 2 0; limit = get_or r 3 0 }

-- ---- a record's place in the order

-- subject and state of a state's or an exit's record, as one number
abbrev pub state_key : List ℕ → ℕ
state_key r = get_or r 1 0 + 256 * get_or r 0 0

-- subject, state and exit, or owner, sender and type, as one number
abbrev pub full_key : List ℕ → ℕ
full_key r = get_or r 2 0 + 256 * state_key r

-- what the records of kind k ascend by; 0 stands before the first record
unfoldable pub order_of : ℕ → List ℕ → ℕ
order_of k r = cond (eqb (length r) 0) 0 (cond (eqb k 2) (state_key r + 1) (full_key r + 1))

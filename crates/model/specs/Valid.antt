-- A valid model: n subjects, each with its states, exits and limit rows, every rule kept, all other room zero.
use Rattle.std.specs.Prelude.{◌≡◌, ℕ, zero, suc, ◌+◌, ◌-◌, ◌*◌, ◌/◌, ◌%◌, ◌<◌, Bool, true, ◌&&◌, ◌||◌, not, cond, List, [], ◌∷◌, ltb, leb, eqb, get_or, length}
use Rattle.sets.specs.Below.{all_below, sum_below}
use Rattle.sets.specs.Groups.{in_places}
use Rattle.sets.specs.Tests.{within, none_from}
use Rattle.model.specs.Sizes.{most_subjects, most_states, state_places, most_exits, most_exits_in_all, most_rows}
use Rattle.model.specs.Records.{blank_exit, blank_row, blank_stored, with_exits}
use Rattle.model.specs.Rules.{end_kind, exit_fits, row_fits, state_fits_in, exit_reaches, row_reaches}
use Rattle.model.specs.declared.Exit.{Exit}
use Rattle.model.specs.declared.Model.{Model}
use Rattle.model.specs.declared.Row.{Row}
use Rattle.model.specs.declared.State.{State}
use Rattle.model.specs.declared.Stored.{Stored}
use Rattle.model.specs.declared.Subject.{Subject}

-- ---- looking things up

-- past the end of the arrays: nothing
abbrev pub no_state : State
no_state = record { kind = 0; exits = 0; sender = 0; typ = 0; after = 0; timeout = 0; cancel = 0; receivers = 0; exit = [] }

abbrev pub no_subject : Subject
no_subject = record { states = 0; initial = 0; rows = 0; row = [] }

abbrev pub subject_at : Model → ℕ → Subject
subject_at m s = get_or m.subjects s no_subject

-- what is kept of the state at place p: subject p / 32, state p % 32
abbrev pub stored_at : Model → ℕ → Stored
stored_at m p = get_or m.states p blank_stored

-- exit j of those of a model, in the order of their states
abbrev pub exit_no : List Exit → ℕ → Exit
exit_no exits j = get_or exits j blank_exit

-- the exits of a state, from its first on
unfoldable pub exits_from : List Exit → Stored → List Exit
exits_from exits st = in_places most_exits blank_exit st.exits (λ x. exit_no exits (st.first + x))

abbrev pub unpacked : List Exit → Stored → State
unpacked exits st = with_exits st (exits_from exits st)

-- the state at place p
abbrev pub state_at : Model → ℕ → State
state_at m p = unpacked m.exits (stored_at m p)

abbrev pub exit_at : State → ℕ → Exit
exit_at st x = get_or st.exit x blank_exit

abbrev pub row_at : Subject → ℕ → Row
row_at sub k = get_or sub.row k blank_row

-- ---- each thing by itself

abbrev pub is_blank_exit : Exit → Bool
is_blank_exit e = eqb e.target 0 && eqb e.sender 0 && eqb e.typ 0

abbrev pub is_blank_row : Row → Bool
is_blank_row w = eqb w.sender 0 && eqb w.typ 0 && eqb w.limit 0

-- nothing but zeros, the exits aside
unfoldable pub is_blank_state : State → Bool
is_blank_state st =
    (eqb st.kind 0 && eqb st.exits 0 && eqb st.sender 0 && eqb st.typ 0)
    && (eqb st.after 0 && eqb st.timeout 0 && eqb st.cancel 0 && eqb st.receivers 0)

-- exit x of a state: right if the state has it, else blank
unfoldable pub exit_valid : ℕ → ℕ → State → ℕ → Bool
exit_valid n states st x =
    cond (ltb x st.exits) (exit_fits st.kind (exit_at st x) && exit_reaches n states (exit_at st x)) (is_blank_exit (exit_at st x))

-- the fields of the state with number t of a subject with `states` states: right if the subject has it, else blank
unfoldable pub state_own : ℕ → ℕ → ℕ → State → Bool
state_own n states t st = cond (ltb t states) (state_fits_in n states st) (is_blank_state st)

-- the same with its exits
unfoldable pub state_valid : ℕ → ℕ → ℕ → State → Bool
state_valid n states t st = state_own n states t st && all_below (exit_valid n states st) most_exits

-- what a model keeps of a state that a subject with `states` states has: fields and exits right, and these begin at `place`
unfoldable pub stored_valid : List Exit → ℕ → ℕ → ℕ → Stored → Bool
stored_valid exits n states place st =
    state_fits_in n states (unpacked exits st)
    && eqb st.first place
    && all_below (exit_valid n states (unpacked exits st)) most_exits

-- nothing but zeros
unfoldable pub is_blank_stored : Stored → Bool
is_blank_stored st = is_blank_state (with_exits st []) && eqb st.first 0

-- sender and type of a row as one number: the rows of an owner ascend by it
abbrev pub row_key : Row → ℕ
row_key w = w.typ + 256 * w.sender

-- row k comes after the row before it
abbrev pub row_ascends : Subject → ℕ → Bool
row_ascends sub k = eqb k 0 || ltb (row_key (row_at sub (k - 1))) (row_key (row_at sub k))

-- row k of a subject: right if the subject has it, else blank
unfoldable pub row_valid : ℕ → Subject → ℕ → Bool
row_valid n sub k =
    cond (ltb k sub.rows) (row_fits (row_at sub k) && row_reaches n (row_at sub k) && row_ascends sub k) (is_blank_row (row_at sub k))

-- a subject with 1 to 32 states, whose initial state has the given kind and is no end, and with up to 8 rows
abbrev pub subject_fits : Subject → ℕ → Bool
subject_fits sub kind =
    within 1 sub.states most_states && ltb sub.initial sub.states && not (eqb kind end_kind) && leb sub.rows most_rows

abbrev pub is_blank_subject : Subject → Bool
is_blank_subject sub = eqb sub.states 0 && eqb sub.initial 0 && eqb sub.rows 0

-- the numbers of subject s of n: right if there is one, else blank
unfoldable pub subject_own : ℕ → ℕ → Subject → ℕ → Bool
subject_own n s sub kind = cond (ltb s n) (subject_fits sub kind) (is_blank_subject sub)

-- the same with its rows
unfoldable pub subject_valid : ℕ → ℕ → Subject → ℕ → Bool
subject_valid n s sub kind = subject_own n s sub kind && all_below (row_valid n sub) most_rows

-- ---- all of it

-- the kind of the state at place p
abbrev pub kind_at : List Stored → ℕ → ℕ
kind_at states p = (get_or states p blank_stored).kind

unfoldable pub subject_right : Model → ℕ → Bool
subject_right m s = subject_valid m.n s (subject_at m s) (kind_at m.states (s * most_states + (subject_at m s).initial))

-- how many exits the states before place p have
abbrev pub exits_before : Model → ℕ → ℕ
exits_before m p = sum_below (λ q. (state_at m q).exits) p

-- the exits of the state with number t begin after those of the states before it; where there is no state, at 0
unfoldable pub first_right : ℕ → ℕ → ℕ → ℕ → Bool
first_right states t before first = eqb first (cond (ltb t states) before 0)

unfoldable pub state_right : Model → ℕ → Bool
state_right m p =
    state_valid m.n (subject_at m (p / most_states)).states (p % most_states) (state_at m p)
    && first_right (subject_at m (p / most_states)).states (p % most_states) (exits_before m p) (stored_at m p).first

-- the start mask names a subject, and none from n up
abbrev pub start_right : ℕ → ℕ → Bool
start_right n start = not (eqb start 0) && none_from n start

-- how many exits there are in all
unfoldable pub exits_in_all : Model → ℕ
exits_in_all m = exits_before m state_places

-- nothing but zeros from place k on
unfoldable pub none_after : ℕ → List Exit → Bool
none_after k [] = true
none_after zero (e ∷ es) = is_blank_exit e && none_after zero es
none_after (suc k) (e ∷ es) = none_after k es

-- no exit past the last state's
unfoldable pub no_more_exits : Model → Bool
no_more_exits m = none_after (exits_in_all m) m.exits

unfoldable pub valid : Model → Bool
valid m =
    (within 1 m.n most_subjects && start_right m.n m.start)
    && all_below (subject_right m) most_subjects
    && all_below (state_right m) state_places
    && leb (exits_in_all m) most_exits_in_all
    && no_more_exits m

-- ---- what the machine can hold

-- arrays of their length and numbers of their width: every Model in the machine is so
pub record Held (m : Model) : Type 0 where
  pub subjects : length m.subjects ≡ most_subjects
  pub states : length m.states ≡ state_places
  pub rows : (s : ℕ) → s < most_subjects → length (subject_at m s).row ≡ most_rows
  pub exits : length m.exits ≡ most_exits_in_all
  pub afters : (p : ℕ) → p < state_places → (stored_at m p).after < 65536

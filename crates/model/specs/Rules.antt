-- The rules for the fields of a state, an exit and a limit row: those that one record shows, and those that ask what exists.
use Rattle.std.specs.Prelude.{ℕ, Bool, true, false, ◌&&◌, ◌||◌, not, cond, ltb, eqb}
use Rattle.sets.specs.Tests.{within, same, none_from}
use Rattle.model.specs.Sizes.{most_exits, most_limit, types}
use Rattle.model.specs.declared.Exit.{Exit}
use Rattle.model.specs.declared.Row.{Row}
use Rattle.model.specs.declared.State.{State}

-- 'any' as a sender or a type
abbrev pub any : ℕ
any = 255

-- 'none' as a timeout or cancel target
abbrev pub none : ℕ
none = 255

-- the kind of an end
abbrev pub end_kind : ℕ
end_kind = 7

-- a message type: 0 to 31
abbrev pub is_type : ℕ → Bool
is_type t = ltb t types

abbrev pub type_or_any : ℕ → Bool
type_or_any t = is_type t || eqb t any

-- ---- what one record shows

-- what the kind of a state allows: the least and the most exits; uses the state's sender and type; may have a timeout or cancel
-- target; has receivers
pub record Shape : Type 0 where
  pub least : ℕ
  pub most : ℕ
  pub filters : Bool
  pub waits : Bool
  pub sends : Bool

-- by kind; of any other no number of exits is right
unfoldable pub shape_of : ℕ → Shape
shape_of kind =
    cond (eqb kind 1) (record { least = 1; most = most_exits; filters = false; waits = true; sends = false })
    (cond (eqb kind 2) (record { least = 1; most = 1; filters = false; waits = true; sends = true })
    (cond (eqb kind 3) (record { least = 1; most = most_exits; filters = false; waits = true; sends = false })
    (cond (within 4 kind 5) (record { least = 1; most = 1; filters = true; waits = false; sends = false })
    (cond (eqb kind 6) (record { least = 2; most = 2; filters = true; waits = false; sends = false })
    (cond (eqb kind end_kind) (record { least = 0; most = 0; filters = false; waits = false; sends = false })
    (record { least = 1; most = 0; filters = false; waits = false; sends = false }))))))

-- a state's sender and type: a type or any where its kind uses them, else both 255
unfoldable pub names_fit : Bool → ℕ → ℕ → Bool
names_fit filters sender typ = cond filters (type_or_any typ) (eqb sender any && eqb typ any)

-- the fields of a state, by the shape of its kind
unfoldable pub state_fits : State → Bool
state_fits st =
    within (shape_of st.kind).least st.exits (shape_of st.kind).most
    && names_fit (shape_of st.kind).filters st.sender st.typ
    && ((shape_of st.kind).waits || (eqb st.timeout none && eqb st.cancel none))
    && same (eqb st.after 0) (eqb st.timeout none)
    && same (eqb st.receivers 0) (not (shape_of st.kind).sends)

-- the sender and type of an exit, by the kind of its state: a receive names both, a send its type, others neither
unfoldable pub exit_fits : ℕ → Exit → Bool
exit_fits kind e =
    cond (eqb kind 3) (not (eqb e.sender any) && is_type e.typ)
    (cond (eqb kind 2) (eqb e.sender any && is_type e.typ)
    (eqb e.sender any && eqb e.typ any))

-- a limit row: limit 1 to 16, a type or any
unfoldable pub row_fits : Row → Bool
row_fits w = within 1 w.limit most_limit && type_or_any w.typ

-- ---- what has to exist

-- a subject below n, or any
abbrev pub there_or_any : ℕ → ℕ → Bool
there_or_any n x = ltb x n || eqb x any

-- a state below n, or none
abbrev pub there_or_none : ℕ → ℕ → Bool
there_or_none n x = ltb x n || eqb x none

-- of n subjects, of which the state's own has `states` states: targets, sender and receivers exist
unfoldable pub state_reaches : ℕ → ℕ → State → Bool
state_reaches n states st =
    there_or_none states st.timeout && there_or_none states st.cancel && there_or_any n st.sender && none_from n st.receivers

-- the fields are right for the kind, and what they name exists
abbrev pub state_fits_in : ℕ → ℕ → State → Bool
state_fits_in n states st = state_fits st && state_reaches n states st

unfoldable pub exit_reaches : ℕ → ℕ → Exit → Bool
exit_reaches n states e = ltb e.target states && there_or_any n e.sender

unfoldable pub row_reaches : ℕ → Row → Bool
row_reaches n w = there_or_any n w.sender

-- Model P of docs/RULES.md.
use Rattle.std.specs.Prelude.{◌∷◌, ◌++◌, ℕ, replicate}
use Rattle.model.specs.Records.{blank_exit, blank_row, blank_rows, blank_stored, blank_subject}
use Rattle.model.specs.Rules.{any, none, end_kind}
use Rattle.model.specs.declared.Model.{Model}
use Rattle.model.specs.declared.Stored.{Stored}

-- an end, where the exits of the states before it end at `first`
abbrev pub end_state : ℕ → Stored
end_state first =
    record { kind = end_kind; exits = 0; sender = any; typ = any; after = 0; timeout = none; cancel = none; receivers = 0; first = first }

-- subject 0: state 0 internal to 1; state 1 send type 0 to subject 1, then 2, cancel target 0; state 2 end.
-- Subject 1: state 0 receive (0, type 0) to 1, timeout 3 to 1; state 1 end. Both start, in state 0; one limit row:
-- owner 1, sender 0, any type, 1
unfoldable pub model_p : Model
model_p =
    record {
      n = 2;
      start = 3;
      subjects =
          record { states = 3; initial = 0; rows = 0; row = blank_rows }
          ∷ record { states = 2; initial = 0; rows = 1; row = record { sender = 0; typ = any; limit = 1 } ∷ replicate 7 blank_row }
          ∷ replicate 14 blank_subject;
      states =
          record { kind = 1; exits = 1; sender = any; typ = any; after = 0; timeout = none; cancel = none; receivers = 0; first = 0 }
          ∷ record { kind = 2; exits = 1; sender = any; typ = any; after = 0; timeout = none; cancel = 0; receivers = 2; first = 1 }
          ∷ end_state 2
          ∷ replicate 29 blank_stored
          ++ record { kind = 3; exits = 1; sender = any; typ = any; after = 3; timeout = 1; cancel = none; receivers = 0; first = 2 }
          ∷ end_state 3
          ∷ replicate 478 blank_stored;
      exits =
          record { target = 1; sender = any; typ = any }
          ∷ record { target = 2; sender = any; typ = 0 }
          ∷ record { target = 1; sender = 0; typ = 0 }
          ∷ replicate 1021 blank_exit;
    }
